-- Laws of copy and release on the entries' table: which rows they leave, and the list that copy makes.
use Prim.Native.Nat.{ℕ, zero, suc, ◌+◌, ◌*◌, ◌≤◌, ◌<◌}
use mathlib.Core.Path.{◌≡◌, refl, sym, ap, ◌∙◌}
use mathlib.Core.Logic.{◌⊎◌, inl, inr, ⊎_elim, ◌≢◌}
use mathlib.Core.Bool.{Bool, true}
use mathlib.Core.List.Memᴰ
use mathlib.Core.List.{List, [], ◌∷◌, Memᴰ}
use native.Mathlib.Nat.{not-suc-le-zero, le_trans}
use native.Mathlib.Decide.{ℕ_discrete}
use native.Mathlib.Omega.{arith}
use lib.Dec.{eqb, ltb}
use lib.ListN.{length, set, length-set}
use borrow.Author.Tests.{lt-ltb, eqb-false, ne_eqb}
use Rattle.rules.specs.Map.{Ascends}
use Rattle.views.specs.Copies.{entry_key}
use Rattle.rules.specs.declared.Sizes.{Sizes}
use Rattle.rules.specs.declared.Entry.{Entry}
use Rattle.rules.specs.declared.ChunkNo.{ChunkNo}
use Rattle.rules.specs.declared.EntryNo.{EntryNo}
use Rattle.rules.specs.Words.{pick, NONE, entry_no, no_entry}
use Rattle.rules.specs.Tables.{Tables, empty_entry, entry_at, row, with_entries, put_entry}
use Rattle.rules.specs.Rebalance.{fill, clears}
use Rattle.rules.specs.Shape.{numbers}
use Rattle.laws.specs.Counts.{Every}
use Rattle.laws.proofs.Tests.{picked}
use Rattle.views.specs.Views.{Links}
use Rattle.views.specs.Copies.{up_from, filled, cleared}
use Rattle.views.proofs.Rows.{entry-put}

up-from : (n m : ℕ) (e : EntryNo) → Memᴰ e (up_from n m) → (n ≤ e.0) × (e.0 < n + m)
unfolding up_from
up-from n zero e h = absurd (Memᴰ.not-nil h)
up-from n (suc m) e h = ⊎_elim (λ p. first (ap (λ (e : EntryNo). e.0) p)) (λ o. later (up-from (n + 1) m e o)) (Memᴰ.cases_cons h)
  where
    first : e.0 ≡ n → (n ≤ e.0) × (e.0 < n + suc m)
    first q = (omega arith, omega arith)

    later : (n + 1 ≤ e.0) × (e.0 < n + 1 + m) → (n ≤ e.0) × (e.0 < n + suc m)
    later q = (omega arith, omega arith)

module _ (z : Sizes) (c : ChunkNo) where
  pub fill_is : (s : Tables) (n : ℕ) (l : List Entry) → fill z s c n l ≡ with_entries s (filled z c n l s.entries)
  unfolding fill filled
  fill_is s n [] = refl
  fill_is s n (x ∷ l) = fill_is (put_entry z s c (entry_no n) (record { key = x.key; handle = x.handle; next = pick (eqb (length l) 0) no_entry (entry_no (n + 1)) })) (n + 1) l

  pub clears-is : (s : Tables) (n : ℕ) (x : Tables) → clears z s n x c ≡ with_entries x (cleared z c n x.entries)
  unfolding clears cleared
  clears-is s zero x = refl
  clears-is s (suc n) x = clears-is s n (put_entry z x c (entry_no n) empty_entry)

  pub filled-length : (n : ℕ) (l es : List Entry) → length (filled z c n l es) ≡ length es
  unfolding filled
  filled-length n [] es = refl
  filled-length n (x ∷ l) es = filled-length (n + 1) l _ ∙ length-set es _ _

  pub cleared-length : (n : ℕ) (es : List Entry) → length (cleared z c n es) ≡ length es
  unfolding cleared
  cleared-length zero es = refl
  cleared-length (suc n) es = cleared-length n _ ∙ length-set es _ _

  links-on : (used k : ℕ) (e : EntryNo) (l : List EntryNo) {es es' : List Entry} → es ≡ es' → Links z es' c used k e l → Links z es c used k e l
  links-on used k e l p h = rw p h

  module _ (b : c.0 < z.chunks) where
    -- a row of another chunk, or of this one past those made empty
    pub cleared-other : (n : ℕ) (es : List Entry) (f : ChunkNo) (e : EntryNo) → n ≤ z.entries → length es ≡ z.chunks * z.entries → e.0 < z.entries → (f ≡ c → n ≤ e.0) → entry_at z (cleared z c n es) f e ≡ entry_at z es f e
    unfolding cleared
    cleared-other zero es f e le len be past = refl
    cleared-other (suc n) es f e le len be past =
        cleared-other n _ f e (le_trans (omega arith) le) (length-set es _ _ ∙ len) be (λ p. less (past p))
        ∙ entry-put z es c (entry_no n) empty_entry f e (λ y. y ≡ entry_at z es f e) len b le be (λ p q. absurd (never (past p) (ap (λ (e : EntryNo). e.0) q))) (λ _. refl)
      where
        less : suc n ≤ e.0 → n ≤ e.0
        less p = omega arith

        never : suc n ≤ e.0 → e.0 ≡ n → ⊥
        never p q = omega arith

    pub cleared-here : (n : ℕ) (es : List Entry) (e : EntryNo) → n ≤ z.entries → length es ≡ z.chunks * z.entries → e.0 < n → entry_at z (cleared z c n es) c e ≡ empty_entry
    unfolding cleared
    cleared-here zero es e le len lt = absurd (not-suc-le-zero lt)
    cleared-here (suc n) es e le len lt = elim (ℕ_discrete e.0 n) [ yes q ↦ last q | no ne ↦ cleared-here n _ e (le_trans (omega arith) le) (length-set es _ _ ∙ len) (less ne) ]
      where
        less : e.0 ≢ n → e.0 < n
        less ne = omega arith

        here : e.0 ≡ n → entry_at z (set es (row z c (entry_no n)) empty_entry) c e ≡ empty_entry
        here q = entry-put z es c (entry_no n) empty_entry c e (λ y. y ≡ empty_entry) len b le (le_trans lt le) (λ _ _. refl) (λ ne. absurd (ne refl (ap entry_no q)))

        last : e.0 ≡ n → entry_at z (cleared z c n (set es (row z c (entry_no n)) empty_entry)) c e ≡ empty_entry
        last q = cleared-other n (set es (row z c (entry_no n)) empty_entry) c e (le_trans (omega arith) le) (length-set es (row z c (entry_no n)) empty_entry ∙ len) (le_trans lt le) (λ _. omega arith) ∙ here q

    -- a row of another chunk, or of this one outside those filled
    pub filled-other : (n : ℕ) (l es : List Entry) (f : ChunkNo) (e : EntryNo) → n + length l ≤ z.entries → length es ≡ z.chunks * z.entries → e.0 < z.entries → (f ≡ c → (e.0 < n) ⊎ (n + length l ≤ e.0)) → entry_at z (filled z c n l es) f e ≡ entry_at z es f e
    unfolding filled
    filled-other n [] es f e le len be out = refl
    filled-other n (x ∷ l) es f e le len be out =
        filled-other (n + 1) l _ f e (omega arith) (length-set es _ _ ∙ len) be (λ p. ⊎_elim (λ lt. inl (omega arith)) (λ ge. inr (omega arith)) (out p))
        ∙ entry-put z es c (entry_no n) _ f e (λ y. y ≡ entry_at z es f e) len b (omega arith) be (λ p q. absurd (never (out p) (ap (λ (e : EntryNo). e.0) q))) (λ _. refl)
      where
        never : (e.0 < n) ⊎ (n + suc (length l) ≤ e.0) → e.0 ≡ n → ⊥
        never (inl lt) q = omega arith
        never (inr ge) q = omega arith

    -- the row first filled
    filled-first : (n : ℕ) (x : Entry) (l es : List Entry) → n + length (x ∷ l) ≤ z.entries → length es ≡ z.chunks * z.entries →
        entry_at z (filled z c n (x ∷ l) es) c (entry_no n) ≡ record { key = x.key; handle = x.handle; next = pick (eqb (length l) 0) no_entry (entry_no (n + 1)) }
    unfolding filled
    filled-first n x l es le len =
        filled-other (n + 1) l _ c (entry_no n) (omega arith) (length-set es _ _ ∙ len) (omega arith) (λ _. inl (omega arith))
        ∙ entry-put z es c (entry_no n) made c (entry_no n) (λ y. y ≡ made) len b (omega arith) (omega arith) (λ _ _. refl) (λ ne. absurd (ne refl refl))
      where
        made : Entry
        made = record { key = x.key; handle = x.handle; next = pick (eqb (length l) 0) no_entry (entry_no (n + 1)) }

    filled_on : (n : ℕ) (x : Entry) (l es : List Entry) → filled z c n (x ∷ l) es ≡ filled z c (n + 1) l (set es (row z c (entry_no n)) (record { key = x.key; handle = x.handle; next = pick (eqb (length l) 0) no_entry (entry_no (n + 1)) }))
    unfolding filled
    filled_on n x l es = refl

    -- the list that is made
    pub filled-links : (used k n : ℕ) (l es : List Entry) → n + length l ≤ used → used ≤ z.entries → length es ≡ z.chunks * z.entries → Ascends entry_key k l →
        Links z (filled z c n l es) c used k (pick (eqb (length l) 0) no_entry (entry_no n)) (up_from n (length l))
    unfolding Links up_from Ascends
    filled-links used k n [] es le small len r = refl
    filled-links used k n (x ∷ l) es le small len r =
        (rw (ne_eqb (suc (length l)) 0 (omega arith)), omega arith, rw (filled-first n x l es (le_trans le small) len) r.0, rw (filled-first n x l es (le_trans le small) len) (links-on used (x.key + 1) _ (up_from (n + 1) (length l)) (filled_on n x l es) (filled-links used (x.key + 1) (n + 1) l _ (omega arith) small (length-set es _ _ ∙ len) r.1)))

    -- what holds of each of the list holds of each row filled
    pub filled-rows : (P : Entry → Type 0) (n : ℕ) (l es : List Entry) → n + length l ≤ z.entries → length es ≡ z.chunks * z.entries →
        Every (λ x. (e : EntryNo) → numbers z.entries e.0 ≡ true → P (record { key = x.key; handle = x.handle; next = e })) l →
        (e : EntryNo) → n ≤ e.0 → e.0 < n + length l → P (entry_at z (filled z c n l es) c e)
    filled-rows P n [] es le len all e ge lt = absurd (never ge lt)
      where
        never : n ≤ e.0 → e.0 < n + 0 → ⊥
        never p q = omega arith
    filled-rows P n (x ∷ l) es le len all e ge lt =
        elim (ℕ_discrete e.0 n) [ yes q ↦ here q | no ne ↦ rw (filled_on n x l es) (filled-rows P (n + 1) l _ (omega arith) (length-set es _ _ ∙ len) (λ y m. all y (Memᴰ.tail m)) e (more ne) (omega arith)) ]
      where
        more : e.0 ≢ n → n + 1 ≤ e.0
        more ne = omega arith

        number : numbers z.entries (pick (eqb (length l) 0) no_entry (entry_no (n + 1))).0 ≡ true
        number =
            picked (λ (e : EntryNo). numbers z.entries e.0 ≡ true) (eqb (length l) 0) (λ _. picked (λ (b : Bool). b ≡ true) (ltb NONE z.entries) (λ _. refl) (λ _. refl))
            (λ t. rw (lt-ltb (n + 1) z.entries (next (eqb-false (length l) 0 t))))
          where
            next : length l ≢ 0 → n + 1 < z.entries
            next ne = omega arith

        first : P (entry_at z (filled z c n (x ∷ l) es) c (entry_no n))
        first = rw (filled-first n x l es le len) (all x (Memᴰ.head refl) (pick (eqb (length l) 0) no_entry (entry_no (n + 1))) number)

        here : e.0 ≡ n → P (entry_at z (filled z c n (x ∷ l) es) c e)
        here q = rw (ap entry_no q) first

    -- the same over the list that is made
    pub filled-every : (P : ℕ → Type 0) (n : ℕ) (l es : List Entry) → n + length l ≤ z.entries → length es ≡ z.chunks * z.entries → Every (λ x. P x.key) l → Every (λ e. P (entry_at z (filled z c n l es) c e).key) (up_from n (length l))
    filled-every P n l es le len all e m = filled-rows (λ y. P y.key) n l es le len (λ x o e _. all x o) e (up-from n (length l) e m).0 (up-from n (length l) e m).1

    -- each of the list stands in a row filled
    pub filled_in : (n : ℕ) (l es : List Entry) → n + length l ≤ z.entries → length es ≡ z.chunks * z.entries → (x : Entry) → Memᴰ x l →
        (e : EntryNo) × (e.0 < n + length l) × ((entry_at z (filled z c n l es) c e).handle ≡ x.handle) × ((entry_at z (filled z c n l es) c e).key ≡ x.key)
    filled_in n [] es le len x m = absurd (Memᴰ.not-nil m)
    filled_in n (y ∷ l) es le len x m = ⊎_elim (λ (p : x ≡ y). here p) (λ o. rw (filled_on n y l es) (later (filled z c (n + 1) l on) (filled_in (n + 1) l on (omega arith) (length-set es _ _ ∙ len) x o))) (Memᴰ.cases_cons m)
      where
        on : List Entry
        on = set es (row z c (entry_no n)) (record { key = y.key; handle = y.handle; next = pick (eqb (length l) 0) no_entry (entry_no (n + 1)) })

        Found : List Entry → ℕ → Type 0
        Found r top = (e : EntryNo) × (e.0 < top) × ((entry_at z r c e).handle ≡ x.handle) × ((entry_at z r c e).key ≡ x.key)

        here : x ≡ y → Found (filled z c n (y ∷ l) es) (n + suc (length l))
        here p = (entry_no n, omega arith, rw (filled-first n y l es le len) (ap (λ (v : Entry). v.handle) (sym p)), rw (filled-first n y l es le len) (ap (λ (v : Entry). v.key) (sym p)))

        later : (r : List Entry) → Found r (n + 1 + length l) → Found r (n + suc (length l))
        later r f = (f.0, omega (arith, f.1), f.2, f.3)
