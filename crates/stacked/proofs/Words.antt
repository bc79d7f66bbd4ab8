-- A stack's words, one after the other: none from a word on, and beside a list.
use Prim.Native.Nat.{ℕ, zero, suc, ◌+◌, ◌-◌, ◌≤◌, ◌<◌, zero-le}
use mathlib.Core.Path.{◌≡◌, refl, sym, ap, ◌∙◌}
use mathlib.Core.Bool.{Bool, true, false}
use mathlib.Core.List.{List, [], ◌∷◌}
use native.Mathlib.Nat.{le_antisymm}
use native.Mathlib.Numerals.{add-one}
use native.Mathlib.Omega.{arith}
use lib.Dec.{eqb, ltb}
use lib.ListN.{length, get_or, drop, drop_of_length-le}
use lib.Seq.{drop-cons}
use borrow.Author.Tests.{lt-ltb, le-ltb}
use Rattle.rules.specs.declared.Sizes.{Sizes}
use Rattle.rules.specs.declared.Entry.{Entry}
use Rattle.rules.specs.declared.ChunkNo.{ChunkNo}
use Rattle.rules.specs.declared.EntryNo.{EntryNo}
use Rattle.rules.specs.Words.{pick, no_entry}
use Rattle.rules.specs.Tables.{stack, entry_at}
use Rattle.rules.specs.Shape.{each, is_none, all_none}
use Rattle.rows.specs.declared.lent.Lent.{Lent}
use Rattle.rows.specs.Rows.{rows_from, stack_of}
use Rattle.rows.specs.Seen.{seen}
use Rattle.rows.proofs.Laws.{length-rows, row_read}

-- a stack has as many words as a chunk has entries
pub stack-long : (s : Lent) (n : ℕ) → n < s.z.tasks → length (stack (seen s) n) ≡ s.z.entries
stack-long s n h = ap length (row_read (stack_of s.z s.tasks.now) s.z.tasks n [] h) ∙ length-rows _ 0 s.z.entries

-- ---- words that are none
any-number : (i j : ℕ) (w : List EntryNo) → each (λ n e. is_none e.0) i w ≡ each (λ n e. is_none e.0) j w
unfolding each
any-number i j [] = refl
any-number i j (e ∷ w) = ap (λ (b : Bool). pick (is_none e.0) b false) (any-number (i + 1) (j + 1) w)

pub none-cons : (e : EntryNo) (w : List EntryNo) → all_none (e ∷ w) ≡ pick (is_none e.0) (all_none w) false
unfolding each
none-cons e w = ap (λ (b : Bool). pick (is_none e.0) b false) (any-number (0 + 1) 0 w)

module _ (w : List EntryNo) (size : ℕ) (long : length w ≡ size) (i : ℕ) where
  word : i < size → drop i w ≡ get_or w i no_entry ∷ drop (i + 1) w
  word h = drop-cons w i no_entry (rw long h) ∙ ap (λ (n : ℕ). get_or w i no_entry ∷ drop n w) (sym (add-one i))

  none_end : size ≤ i → all_none (drop i w) ≡ true
  unfolding each
  none_end h = ap all_none (drop_of_length-le w {i = i} (rw long h))

-- the words from one on, by their numbers
pub none-rows : (w : List EntryNo) (size : ℕ) → length w ≡ size → (i n : ℕ) → n ≡ size - i → each (λ k e. is_none e.0) i (rows_from (λ k. get_or w k no_entry) i n) ≡ all_none (drop i w)
unfolding each rows_from
none-rows w size long i zero q = sym (none_end w size long i (omega arith))
none-rows w size long i (suc n) q =
    ap (λ (b : Bool). pick (is_none (get_or w i no_entry).0) b false) (none-rows w size long (i + 1) n (omega arith))
    ∙ sym (ap all_none (word w size long i (omega arith)) ∙ none-cons (get_or w i no_entry) (drop (i + 1) w))

-- ---- the words beside the list
-- the words beside the list from e on: the entry at hand goes with the word that names it, and words that the list leaves are none
module _ (z : Sizes) (es : List Entry) (c : ChunkNo) where
  unfoldable pub beside_from : ℕ → EntryNo → List EntryNo → Bool
  beside_from zero e w = all_none w
  beside_from (suc fuel) e [] = true
  beside_from (suc fuel) e (x ∷ w) =
      let named = beside_from fuel (entry_at z es c e).next w in
      let on = beside_from fuel (entry_at z es c e).next (x ∷ w) in
      let none = all_none (x ∷ w) in
      pick (ltb e.0 z.entries) (pick (eqb x.0 e.0) named on) none

module _ (z : Sizes) (es : List Entry) (c : ChunkNo) (left : ℕ) (e : EntryNo) (w : List EntryNo) where
  pub beside-spent : left ≤ 0 → beside_from z es c left e w ≡ all_none w
  unfolding beside_from
  beside-spent h = rw (le_antisymm h zero-le)

  pub beside-past : z.entries ≤ e.0 → beside_from z es c left e w ≡ all_none w
  unfolding beside_from each
  beside-past h = go left w
    where
      go : (n : ℕ) (l : List EntryNo) → beside_from z es c n e l ≡ all_none l
      go zero l = refl
      go (suc n) [] = refl
      go (suc n) (x ∷ l) = rw (le-ltb e.0 z.entries h)

  module _ (rest : ℕ) (long : length w ≡ z.entries) (i : ℕ) (l : left ≡ rest + 1) (h : e.0 < z.entries) (b : i < z.entries) (x : EntryNo) (q : x ≡ get_or w i no_entry) (y : Entry) (r : y ≡ entry_at z es c e) where
    turn : beside_from z es c left e (drop i w) ≡ pick (eqb x.0 e.0) (beside_from z es c rest y.next (drop (i + 1) w)) (beside_from z es c rest y.next (drop i w))
    unfolding beside_from
    turn =
        let l' : left ≡ suc rest = omega arith in
        let d : drop i w ≡ x ∷ drop (i + 1) w = word w z.entries long i b ∙ ap (λ (x : EntryNo). x ∷ drop (i + 1) w) (sym q) in
        rw (l', d, lt-ltb e.0 z.entries h, r)

    pub beside-named : eqb x.0 e.0 ≡ true → beside_from z es c left e (drop i w) ≡ beside_from z es c rest y.next (drop (i + 1) w)
    beside-named m = turn ∙ rw m

    pub beside-on : eqb x.0 e.0 ≡ false → beside_from z es c left e (drop i w) ≡ beside_from z es c rest y.next (drop i w)
    beside-on m = turn ∙ rw m
