-- Laws of a task's stack: what its words say of the entries on it, and of the linked entries in a range, which fill it.
use Prim.Native.Nat.{ℕ, zero, suc, ◌+◌, ◌≤◌, ◌<◌}
use mathlib.Core.Path.{◌≡◌, refl, sym, ap, ◌∙◌}
use mathlib.Core.Logic.{⊎_elim}
use mathlib.Core.Bool.{true, false, false≢true}
use mathlib.Core.List.Memᴰ
use mathlib.Core.List.{List, [], ◌∷◌, ◌++◌, Memᴰ}
use native.Mathlib.Nat.{le_trans, le_of_suc-le-suc, not-suc-le-zero}
use native.Mathlib.Numerals.{add-one}
use native.Mathlib.Omega.{arith}
use lib.Dec.{leb}
use lib.ListN.{length, get_or, set, take, replicate}
use borrow.Author.Tests.{lt-ltb, le-ltb, le-leb, leb-true}
use Rattle.rules.specs.declared.Sizes.{Sizes}
use Rattle.rules.specs.declared.Entry.{Entry}
use Rattle.rules.specs.declared.ChunkNo.{ChunkNo}
use Rattle.rules.specs.declared.EntryNo.{EntryNo}
use Rattle.rules.specs.Words.{NONE, no_entry}
use Rattle.rules.specs.Tables.{entry_at}
use Rattle.rules.specs.Walks.{lies, within_from, depth, over}
use Rattle.rules.specs.Map.{Ascends}
use Rattle.laws.specs.Counts.{Every}
use Rattle.laws.proofs.Tests.{picked, both, and_left, and_right}
use Rattle.views.specs.Views.{Links, on_words}

-- ---- a list by its last member
pub record Last {A : Type 0} (l : List A) : Type 0 where
  pub others : List A
  pub last : A
  pub is : l ≡ others ++ last ∷ []

pub last-of : {A : Type 0} (x : A) (l : List A) → Last (x ∷ l)
last-of x [] = record { others = []; last = x; is = refl }
last-of {A = A} x (y ∷ l) = let r = last-of y l in record { others = x ∷ r.others; last = r.last; is = ap (λ (m : List A). x ∷ m) r.is }

module _ {A : Type 0} where
  pub member-last : (l : List A) (x : A) → Memᴰ x (l ++ x ∷ [])
  member-last [] x = Memᴰ.head refl
  member-last (y ∷ l) x = Memᴰ.tail (member-last l x)

  pub member-others : (l : List A) (x y : A) → Memᴰ y l → Memᴰ y (l ++ x ∷ [])
  member-others [] x y m = absurd (Memᴰ.not-nil m)
  member-others (w ∷ l) x y m = ⊎_elim (λ q. Memᴰ.head q) (λ n. Memᴰ.tail (member-others l x y n)) (Memᴰ.cases_cons m)

  -- a member is the last or one of the others
  pub member-cases : {P : Type 0} (l : List A) (x y : A) → Memᴰ y (l ++ x ∷ []) → (y ≡ x → P) → (Memᴰ y l → P) → P
  member-cases [] x y m f g = ⊎_elim f (λ n. absurd (Memᴰ.not-nil n)) (Memᴰ.cases_cons m)
  member-cases (w ∷ l) x y m f g = ⊎_elim (λ q. g (Memᴰ.head q)) (λ n. member-cases l x y n f (λ o. g (Memᴰ.tail o))) (Memᴰ.cases_cons m)

  pub length_last : (l : List A) (x : A) → length (l ++ x ∷ []) ≡ suc (length l)
  length_last [] x = refl
  length_last (y ∷ l) x = ap suc (length_last l x)

-- ---- members whose keys ascend
module _ {A : Type 0} (key : A → ℕ) where
  pub ascends-from : (j k : ℕ) (l : List A) → j ≤ k → Ascends key k l → Ascends key j l
  unfolding Ascends
  ascends-from j k [] le h = tt
  ascends-from j k (x ∷ l) le h = (le_trans le h.0, h.1)

  pub ascends-others : (k : ℕ) (l : List A) (x : A) → Ascends key k (l ++ x ∷ []) → Ascends key k l
  unfolding Ascends
  ascends-others k [] x h = tt
  ascends-others k (y ∷ l) x h = (h.0, ascends-others (key y + 1) l x h.1)

  pub ascends-above : (k : ℕ) (l : List A) → Ascends key k l → Every (λ x. k ≤ key x) l
  unfolding Ascends
  ascends-above k [] h x m = absurd (Memᴰ.not-nil m)
  ascends-above k (y ∷ l) h x m = ⊎_elim (λ (q : x ≡ y). rw q h.0) (λ n. omega (arith, h.0, ascends-above (key y + 1) l h.1 x n)) (Memᴰ.cases_cons m)

  -- the last one's key is above the others'
  pub ascends-last : (k : ℕ) (l : List A) (x : A) → Ascends key k (l ++ x ∷ []) → Every (λ y. key y < key x) l
  unfolding Ascends
  ascends-last k [] x h y m = absurd (Memᴰ.not-nil m)
  ascends-last k (w ∷ l) x h y m = ⊎_elim (λ (q : y ≡ w). rw q (omega (arith, ascends-above (key w + 1) (l ++ x ∷ []) h.1 x (member-last l x)))) (ascends-last (key w + 1) l x h.1 y) (Memᴰ.cases_cons m)

-- keys that are the same ascend as well
pub ascends_same : {A : Type 0} (key key' : A → ℕ) (k : ℕ) (l : List A) → Every (λ x. key' x ≡ key x) l → Ascends key k l → Ascends key' k l
unfolding Ascends
ascends_same key key' k [] e h = tt
ascends_same key key' k (x ∷ l) e h = (rw (e x (Memᴰ.head refl)) h.0, rw (e x (Memᴰ.head refl)) (ascends_same key key' (key x + 1) l (λ y m. e y (Memᴰ.tail m)) h.1))

-- ---- words of a stack
-- an empty one has none at every place
pub all_none : (m i : ℕ) → get_or (replicate m no_entry) i no_entry ≡ no_entry
all_none zero i = refl
all_none (suc m) zero = refl
all_none (suc m) (suc i) = all_none m i

pub over-length : {A : Type 0} (l w : List A) → length (over l w) ≡ length w
unfolding over
over-length [] w = refl
over-length (e ∷ l) [] = refl
over-length (e ∷ l) (x ∷ w) = ap suc (over-length l w)

module _ (z : Sizes) (sized : z.entries ≤ NONE) where
  -- as many are on it as are laid over none
  pub depth-over : (l : List EntryNo) (m : ℕ) → Every (λ e. e.0 < z.entries) l → length l ≤ m → depth z (over l (replicate m no_entry)) ≡ length l
  unfolding over depth
  depth-over [] zero h b = refl
  depth-over [] (suc m) h b = rw (le-ltb NONE z.entries sized)
  depth-over (e ∷ l) zero h b = absurd (not-suc-le-zero b)
  depth-over (e ∷ l) (suc m) h b = rw (lt-ltb e.0 z.entries (h e (Memᴰ.head refl))) (add-one _ ∙ ap suc (depth-over l m (λ x n. h x (Memᴰ.tail n)) (le_of_suc-le-suc b)))

-- the word above l is the one laid there, and without it l is left
pub over-top : (l : List EntryNo) (e : EntryNo) (m : ℕ) → length l < m → get_or (over (l ++ e ∷ []) (replicate m no_entry)) (length l) no_entry ≡ e
unfolding over
over-top l e zero b = absurd (not-suc-le-zero b)
over-top [] e (suc m) b = refl
over-top (x ∷ l) e (suc m) b = over-top l e m (le_of_suc-le-suc b)

pub over-off : (l : List EntryNo) (e : EntryNo) (m : ℕ) → length l < m → set (over (l ++ e ∷ []) (replicate m no_entry)) (length l) no_entry ≡ over l (replicate m no_entry)
unfolding over
over-off l e zero b = absurd (not-suc-le-zero b)
over-off [] e (suc m) b = refl
over-off (x ∷ l) e (suc m) b = ap (λ (w : List EntryNo). x ∷ w) (over-off l e m (le_of_suc-le-suc b))

-- what is laid over none is read back
pub over-take : (l : List EntryNo) (m : ℕ) → length l ≤ m → take (length l) (over l (replicate m no_entry)) ≡ l
unfolding over
over-take [] m b = refl
over-take (x ∷ l) zero b = absurd (not-suc-le-zero b)
over-take (x ∷ l) (suc m) b = ap (λ (w : List EntryNo). x ∷ w) (over-take l m (le_of_suc-le-suc b))

pub on-over : (z : Sizes) → z.entries ≤ NONE → (l : List EntryNo) (m : ℕ) → Every (λ e. e.0 < z.entries) l → length l ≤ m → on_words z (over l (replicate m no_entry)) ≡ l
on-over z sized l m small short = ap (λ (i : ℕ). take i (over l (replicate m no_entry))) (depth-over z sized l m small short) ∙ over-take l m short

-- ---- the linked entries in a range
module _ (z : Sizes) (es : List Entry) (c : ChunkNo) (from to : ℕ) where
  -- of the list those with a key in range, in its order
  pub record Within (k : ℕ) (l r : List EntryNo) : Type 0 where
    pub listed : Every (λ x. Memᴰ x l) r
    pub ranged : Every (λ x. (from ≤ (entry_at z es c x).key) × ((entry_at z es c x).key ≤ to)) r
    pub rises : Ascends (λ (x : EntryNo). (entry_at z es c x).key) k r
    pub all : Every (λ x. from ≤ (entry_at z es c x).key → (entry_at z es c x).key ≤ to → Memᴰ x r) l
    pub short : length r ≤ length l

  module _ (used : ℕ) (small : used ≤ z.entries) (sized : z.entries ≤ NONE) where
    none : (k : ℕ) → Within k [] []
    unfolding Ascends
    none k = record { listed = λ x m. m; ranged = λ x m. absurd (Memᴰ.not-nil m); rises = tt; all = λ x m. absurd (Memᴰ.not-nil m); short = omega arith }

    pub within-view : (fuel k : ℕ) (e : EntryNo) (l : List EntryNo) → length l ≤ fuel → Links z es c used k e l → Within k l (within_from z es c from to fuel e)
    unfolding Links within_from Ascends
    within-view zero k e [] b h = none k
    within-view zero k e (x ∷ l) b h = absurd (not-suc-le-zero b)
    within-view (suc fuel) k e [] b h = rw (h, le-ltb NONE z.entries sized) (none k)
    within-view (suc fuel) k e (x ∷ l) b h =
        rw (h.0, lt-ltb x.0 z.entries (omega (arith, h.1)))
        (picked (Within k (x ∷ l)) (lies from to (entry_at z es c x).key) (taken (within-view fuel _ _ l (le_of_suc-le-suc b) h.3)) (left (within-view fuel _ _ l (le_of_suc-le-suc b) h.3)))
      where
        taken : {r : List EntryNo} → Within ((entry_at z es c x).key + 1) l r → (lies from to (entry_at z es c x).key) ≡ true → Within k (x ∷ l) (x ∷ r)
        taken w t =
            record {
              listed = λ y m. ⊎_elim (λ q. Memᴰ.head q) (λ n. Memᴰ.tail (w.listed y n)) (Memᴰ.cases_cons m);
              ranged = λ y m. ⊎_elim (λ (q : y ≡ x). rw q (leb-true _ _ (and_left _ _ t), leb-true _ _ (and_right (leb from (entry_at z es c x).key) _ t))) (w.ranged y) (Memᴰ.cases_cons m);
              rises = (h.2, w.rises);
              all = λ y m a o. ⊎_elim (λ q. Memᴰ.head q) (λ n. Memᴰ.tail (w.all y n a o)) (Memᴰ.cases_cons m);
              short = omega (arith, w.short);
            }

        left : {r : List EntryNo} → Within ((entry_at z es c x).key + 1) l r → (lies from to (entry_at z es c x).key) ≡ false → Within k (x ∷ l) r
        left {r = r} w t =
            record {
              listed = λ y m. Memᴰ.tail (w.listed y m);
              ranged = w.ranged;
              rises = ascends-from (λ (x : EntryNo). (entry_at z es c x).key) k ((entry_at z es c x).key + 1) r (omega (arith, h.2)) w.rises;
              all = λ y m a o. ⊎_elim (λ (q : y ≡ x). absurd (out (rw q at a) (rw q at o))) (λ n. w.all y n a o) (Memᴰ.cases_cons m);
              short = omega (arith, w.short);
            }
          where
            out : from ≤ (entry_at z es c x).key → (entry_at z es c x).key ≤ to → ⊥
            out a o = false≢true (sym t ∙ both _ _ (le-leb from (entry_at z es c x).key a) (le-leb (entry_at z es c x).key to o))
