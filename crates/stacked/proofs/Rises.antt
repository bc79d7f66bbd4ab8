-- Beside a list that ascends stand exactly the stacks of linked entries whose keys rise.
use Prim.Native.Nat.{ℕ, zero, suc, ◌+◌, ◌*◌, ◌≤◌, ◌<◌}
use mathlib.Core.Path.{◌≡◌, refl, sym, ap, ◌∙◌}
use mathlib.Core.Bool.{Bool, true, false, false≢true}
use mathlib.Core.List.{List, [], ◌∷◌}
use native.Mathlib.Nat.{zero-add}
use native.Mathlib.Omega.{arith}
use native.Mathlib.Decide.{dec_lt, ℕ_discrete}
use lib.Dec.{eqb, ltb, leb}
use lib.ListN.{length, get_or}
use borrow.Author.Tests.{lt-ltb, eq-eqb, ne_eqb, le-leb, lt-leb, leb-true}
use Rattle.rules.specs.declared.Sizes.{Sizes}
use Rattle.rules.specs.declared.Entry.{Entry}
use Rattle.rules.specs.declared.ChunkNo.{ChunkNo}
use Rattle.rules.specs.declared.EntryNo.{EntryNo}
use Rattle.rules.specs.Words.{pick, NONE, unused}
use Rattle.rules.specs.Tables.{Tables, empty_entry, empty_chunk, chunk, entry_at}
use Rattle.rules.specs.Shape.{each, is_none, all_none, ascends_from, linked_from, rises_from, slots_of, slot_right, is_empty_chunk, chunk_numbers, chunk_right}
use Rattle.rules.proofs.Each.{each_at}
use Rattle.listed.proofs.Tests.{and_left, and_right}
use Rattle.listed.proofs.Lists.{linked-past}
use Rattle.stacked.proofs.Words.{none-cons, beside_from, beside-past}

module _ (z : Sizes) (es : List Entry) (c : ChunkNo) where
  abbrev key : EntryNo → ℕ
  key e = (entry_at z es c e).key

  abbrev next : EntryNo → EntryNo
  next e = (entry_at z es c e).next

  -- the rule, of entries linked from e on within the fuel
  unfoldable rises_in : ℕ → EntryNo → ℕ → List EntryNo → Bool
  rises_in fuel e k [] = true
  rises_in fuel e k (x ∷ w) =
      let past = all_none w in
      let on = rises_in fuel e (key x + 1) w in
      let here = pick (pick (linked_from z es c fuel e x) (leb k (key x)) false) on false in
      pick (is_none x.0) past here

  rises-in : (head : EntryNo) (k : ℕ) (w : List EntryNo) → rises_from z es c head k w ≡ rises_in z.entries head k w
  unfolding rises_from rises_in
  rises-in head k [] = refl
  rises-in head k (x ∷ w) = rw (rises-in head (key x + 1) w)

  same_key : (x e : EntryNo) → x.0 ≡ e.0 → key x ≡ key e
  same_key x e q = ap (λ (n : ℕ). (get_or es (c.0 * z.entries + n) empty_entry).key) q

  -- the first word, by what is known of it
  module _ (fuel : ℕ) (e : EntryNo) (k : ℕ) (x : EntryNo) (w : List EntryNo) where
    word_none : x.0 ≡ NONE → rises_in fuel e k (x ∷ w) ≡ all_none w
    unfolding rises_in
    word_none n = rw (eq-eqb x.0 NONE n)

    word-unlinked : (x.0 ≡ NONE → ⊥) → linked_from z es c fuel e x ≡ false → rises_in fuel e k (x ∷ w) ≡ false
    unfolding rises_in
    word-unlinked m l = rw (ne_eqb x.0 NONE m, l)

    word-falls : (x.0 ≡ NONE → ⊥) → key x < k → rises_in fuel e k (x ∷ w) ≡ false
    unfolding rises_in
    word-falls m l = rw (ne_eqb x.0 NONE m, lt-leb k (key x) l) (go (linked_from z es c fuel e x))
      where
        go : (b : Bool) → pick (pick b false false) (rises_in fuel e (key x + 1) w) false ≡ false
        go true = refl
        go false = refl

    word-rises : (x.0 ≡ NONE → ⊥) → linked_from z es c fuel e x ≡ true → k ≤ key x → rises_in fuel e k (x ∷ w) ≡ rises_in fuel e (key x + 1) w
    unfolding rises_in
    word-rises m l h = rw (ne_eqb x.0 NONE m, l, le-leb k (key x) h)

  -- where no entry is linked nothing is on the stack
  none-linked : (fuel : ℕ) (e : EntryNo) (k : ℕ) (w : List EntryNo) → ((x : EntryNo) → linked_from z es c fuel e x ≡ false) → rises_in fuel e k w ≡ all_none w
  unfolding rises_in each
  none-linked fuel e k [] h = refl
  none-linked fuel e k (x ∷ w) h = go (ℕ_discrete x.0 NONE) ∙ sym (none-cons x w)
    where
      go : Dec (x.0 ≡ NONE) → rises_in fuel e k (x ∷ w) ≡ pick (is_none x.0) (all_none w) false
      go (yes n) = word_none fuel e k x w n ∙ rw (eq-eqb x.0 NONE n)
      go (no n) = word-unlinked fuel e k x w n (h x) ∙ rw (ne_eqb x.0 NONE n)

  -- ---- one step along the list
  linked-one : (fuel : ℕ) (e x : EntryNo) → e.0 < z.entries → x.0 ≡ e.0 → linked_from z es c (suc fuel) e x ≡ true
  unfolding linked_from
  linked-one fuel e x h q = rw (lt-ltb e.0 z.entries h, eq-eqb e.0 x.0 (sym q))

  linked_on : (fuel : ℕ) (e x : EntryNo) → e.0 < z.entries → (x.0 ≡ e.0 → ⊥) → linked_from z es c (suc fuel) e x ≡ linked_from z es c fuel (next e) x
  unfolding linked_from
  linked_on fuel e x h m = rw (lt-ltb e.0 z.entries h, ne_eqb e.0 x.0 (λ q. m (sym q)))

  -- keys from k on see nothing of an entry below
  skips : (fuel : ℕ) (e : EntryNo) → e.0 < z.entries → (k : ℕ) (w : List EntryNo) → key e < k → rises_in (suc fuel) e k w ≡ rises_in fuel (next e) k w
  unfolding rises_in
  skips fuel e h k [] l = refl
  skips fuel e h k (x ∷ w) l = go (ℕ_discrete x.0 NONE) (dec_lt (key x) k) (skips fuel e h (key x + 1) w)
    where
      other : (key x < k → ⊥) → x.0 ≡ e.0 → ⊥
      other m q = m (omega (arith, same_key x e q))

      go : Dec (x.0 ≡ NONE) → Dec (key x < k) → (key e < key x + 1 → rises_in (suc fuel) e (key x + 1) w ≡ rises_in fuel (next e) (key x + 1) w) → rises_in (suc fuel) e k (x ∷ w) ≡ rises_in fuel (next e) k (x ∷ w)
      go (yes n) d on = word_none (suc fuel) e k x w n ∙ sym (word_none fuel (next e) k x w n)
      go (no n) (yes d) on = word-falls (suc fuel) e k x w n d ∙ sym (word-falls fuel (next e) k x w n d)
      go (no n) (no d) on = rw (linked_on fuel e x h (other d), on (omega arith))

  module _ (used : ℕ) (fits : z.entries ≤ NONE) where
    ascends-step : (fuel : ℕ) (e : EntryNo) (k : ℕ) → e.0 < z.entries → ascends_from z es c used (suc fuel) e k ≡ true → (k ≤ key e) × (ascends_from z es c used fuel (next e) (key e + 1) ≡ true)
    unfolding ascends_from
    ascends-step fuel e k h a =
        let n : is_none e.0 ≡ false = ne_eqb e.0 NONE (λ q. absurd (omega arith)) in
        let a' = rw n at a in
        (leb-true k (key e) (and_right (ltb e.0 used) _ (and_left (pick (ltb e.0 used) (leb k (key e)) false) _ a')), and_right (pick (ltb e.0 used) (leb k (key e)) false) _ a')

    -- linked entries of a list that ascends have its keys
    linked-above : (fuel : ℕ) (e : EntryNo) (k : ℕ) (x : EntryNo) → ascends_from z es c used fuel e k ≡ true → linked_from z es c fuel e x ≡ true → k ≤ key x
    unfolding linked_from
    linked-above zero e k x a l = absurd (false≢true l)
    linked-above (suc fuel) e k x a l = go (dec_lt e.0 z.entries) (ℕ_discrete x.0 e.0) (linked-above fuel (next e) (key e + 1) x)
      where
        go : Dec (e.0 < z.entries) → Dec (x.0 ≡ e.0) → (ascends_from z es c used fuel (next e) (key e + 1) ≡ true → linked_from z es c fuel (next e) x ≡ true → key e + 1 ≤ key x) → k ≤ key x
        go (no h) d on = absurd (false≢true (sym (linked-past z es c (suc fuel) e x (omega arith)) ∙ l))
        go (yes h) (yes q) on = omega (arith, same_key x e q, (ascends-step fuel e k h a).0)
        go (yes h) (no m) on =
            let s = ascends-step fuel e k h a in
            omega (arith, s.0, on s.1 (sym (linked_on fuel e x h m) ∙ l))

    -- a word that is not the entry at hand says the same of the entries after it
    passes : (fuel : ℕ) (e : EntryNo) (k : ℕ) (x : EntryNo) (w : List EntryNo) → e.0 < z.entries → ascends_from z es c used (suc fuel) e k ≡ true → (x.0 ≡ e.0 → ⊥) → rises_in (suc fuel) e k (x ∷ w) ≡ rises_in fuel (next e) (key e + 1) (x ∷ w)
    passes fuel e k x w h a m = go (ℕ_discrete x.0 NONE) (linked_from z es c fuel (next e) x) refl
      where
        s : (k ≤ key e) × (ascends_from z es c used fuel (next e) (key e + 1) ≡ true)
        s = ascends-step fuel e k h a

        go : Dec (x.0 ≡ NONE) → (b : Bool) → linked_from z es c fuel (next e) x ≡ b → rises_in (suc fuel) e k (x ∷ w) ≡ rises_in fuel (next e) (key e + 1) (x ∷ w)
        go (yes n) b l = word_none (suc fuel) e k x w n ∙ sym (word_none fuel (next e) (key e + 1) x w n)
        go (no n) false l = word-unlinked (suc fuel) e k x w n (linked_on fuel e x h m ∙ l) ∙ sym (word-unlinked fuel (next e) (key e + 1) x w n l)
        go (no n) true l =
            let b : key e + 1 ≤ key x = linked-above fuel (next e) (key e + 1) x s.1 l in
            word-rises (suc fuel) e k x w n (linked_on fuel e x h m ∙ l) (omega (arith, s.0))
            ∙ skips fuel e h (key x + 1) w (omega arith)
            ∙ sym (word-rises fuel (next e) (key e + 1) x w n l b)

    beside-in : (fuel : ℕ) (e : EntryNo) (k : ℕ) (w : List EntryNo) → ascends_from z es c used fuel e k ≡ true → rises_in fuel e k w ≡ beside_from z es c fuel e w
    unfolding rises_in beside_from linked_from
    beside-in zero e k w a = none-linked zero e k w (λ x. refl)
    beside-in (suc fuel) e k [] a = refl
    beside-in (suc fuel) e k (x ∷ w) a = go (dec_lt e.0 z.entries) (ℕ_discrete x.0 e.0) (beside-in fuel (next e) (key e + 1))
      where
        go : Dec (e.0 < z.entries) → Dec (x.0 ≡ e.0) → ((l : List EntryNo) → ascends_from z es c used fuel (next e) (key e + 1) ≡ true → rises_in fuel (next e) (key e + 1) l ≡ beside_from z es c fuel (next e) l) → rises_in (suc fuel) e k (x ∷ w) ≡ beside_from z es c (suc fuel) e (x ∷ w)
        go (no h) d on = none-linked (suc fuel) e k (x ∷ w) (λ y. linked-past z es c (suc fuel) e y (omega arith)) ∙ sym (beside-past z es c (suc fuel) e (x ∷ w) (omega arith))
        go (yes h) (yes q) on =
            let s = ascends-step fuel e k h a in
            word-rises (suc fuel) e k x w (λ n. absurd (omega arith)) (linked-one fuel e x h q) (omega (arith, s.0, same_key x e q))
            ∙ skips fuel e h (key x + 1) w (omega (arith, same_key x e q))
            ∙ ap (λ (n : ℕ). rises_in fuel (next e) (n + 1) w) (same_key x e q)
            ∙ on w s.1
            ∙ rw (lt-ltb e.0 z.entries h, eq-eqb x.0 e.0 q)
        go (yes h) (no m) on =
            passes fuel e k x w h a m
            ∙ on (x ∷ w) (ascends-step fuel e k h a).1
            ∙ rw (lt-ltb e.0 z.entries h, ne_eqb x.0 e.0 m)

-- every list is right, so one is
module _ (z : Sizes) (t : Tables) (c : ChunkNo) (long : length t.chunks ≡ z.chunks) (all : each (chunk_right z t) 0 t.chunks ≡ true) (inside : c.0 < z.chunks) where
  list_right : ascends_from z t.entries c (chunk t c).used z.entries (chunk t c).head 0 ≡ true
  list_right =
      let x = chunk t c in
      let one = each_at (chunk_right z t) 0 t.chunks c.0 empty_chunk all (rw long inside) in
      let own = rw zero-add at one in
      and_right (each (slot_right z t x.used) 0 (slots_of z t.entries c)) _ (and_right (pick (eqb x.status unused) (is_empty_chunk x) (chunk_numbers z t x)) _ own)

  pub beside-rises : (head : EntryNo) (w : List EntryNo) → z.entries ≤ NONE → head ≡ (chunk t c).head → rises_from z t.entries c (chunk t c).head 0 w ≡ beside_from z t.entries c z.entries head w
  beside-rises head w fits q =
      rises-in z t.entries c _ 0 w
      ∙ beside-in z t.entries c (chunk t c).used fits z.entries _ 0 w list_right
      ∙ ap (λ (e : EntryNo). beside_from z t.entries c z.entries e w) (sym q)
