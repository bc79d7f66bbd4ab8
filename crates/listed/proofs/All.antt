-- A table whose rows are asked by their numbers, through `all`.
use Prim.Native.Nat.{ℕ, zero, suc, ◌+◌, ◌-◌, ◌≤◌, ◌<◌}
use mathlib.Core.Path.{◌≡◌, refl, sym, ap, ◌∙◌, subst}
use mathlib.Core.Bool.{Bool, true, false, false≢true, ◌&&◌}
use native.Mathlib.Nat.{sub-zero, zero-add}
use native.Mathlib.Omega.{arith}
use native.Mathlib.Decide.{ℕ_discrete}
use lib.ListN.{length, get_or}
use denote.Param.Members.{Mut}
use Rattle.std.specs.declared.ops.Range.{Range}
use Rattle.std.specs.Bool.{⊤, MatchBool}
use Rattle.std.specs.Fn.{Called}
use Rattle.std.specs.Iterator.{ChecksAll}
use Rattle.std.specs.List.{fold, range_with_len, AllWithin, HoldsAt}
use Rattle.std.proofs.iter.Yields.{nat_range_steps}
use Rattle.std.proofs.lemmas.Iterator.{cases_from_all, YieldsList-from_range}
use Rattle.std.proofs.lemmas.List.FromFn.{length-range_with_len, get_or-range_with_len}
use Rattle.rules.specs.Words.{pick}
use Rattle.rules.specs.Shape.{each}
use Rattle.rows.specs.Rows.{rows_from}
use Rattle.listed.proofs.Tests.{and_is, and-and, and-true, and-false}

number : (a n k d : ℕ) → k < length (range_with_len a n) → (k < n) × (get_or (range_with_len a n) k d ≡ a + k)
number a n k d b = let b' : k < n = omega (arith, b, length-range_with_len a n) in (b', get_or-range_with_len a n k d b')

module _ {A : Type 0} (p : ℕ → A → Bool) (f : ℕ → A) where
  all_hold : (i n : ℕ) → ((j : ℕ) → i ≤ j → j < i + n → p j (f j) ≡ true) → each p i (rows_from f i n) ≡ true
  unfolding each rows_from
  all_hold i zero h = refl
  all_hold i (suc n) h = rw (h i (omega arith) (omega arith)) (all_hold (i + 1) n (λ j a b. h j (omega arith) (omega arith)))

  one-fails : (i n j : ℕ) → i ≤ j → j < i + n → p j (f j) ≡ false → each p i (rows_from f i n) ≡ false
  unfolding each rows_from
  one-fails i zero j a b q = absurd (omega arith)
  one-fails i (suc n) j a b q = go (ℕ_discrete i j) (one-fails (i + 1) n j)
    where
      go : Dec (i ≡ j) → (i + 1 ≤ j → j < i + 1 + n → p j (f j) ≡ false → each p (i + 1) (rows_from f (i + 1) n) ≡ false) → pick (p i (f i)) (each p (i + 1) (rows_from f (i + 1) n)) false ≡ false
      go (yes e) on = let q' : p i (f i) ≡ false = rw e q in rw q'
      go (no m) on = ap (λ (b : Bool). pick (p i (f i)) b false) (on (omega arith) (omega arith) q) ∙ and-false (p i (f i))

  decided : (n : ℕ) (r : Bool) → MatchBool r (AllWithin (λ i. p i (f i) ≡ true) (range_with_len 0 n) 0 (length (range_with_len 0 n))) ((k : ℕ) × (k < length (range_with_len 0 n)) × HoldsAt (λ i. p i (f i) ≡ false) (range_with_len 0 n) k) → r ≡ each p 0 (rows_from f 0 n)
  decided n true h = sym (all_hold 0 n (λ j a b. let w = number 0 n j 0 (omega (arith, b, length-range_with_len 0 n)) in rw (w.1, zero-add) at (h j 0 a (omega (arith, b, length-range_with_len 0 n)))))
  decided n false h = let w = number 0 n h.0 0 h.1 in sym (one-fails 0 n h.0 (omega arith) (omega (arith, w.0)) (rw (w.1, zero-add) at (h.2 0)))

-- what `all` gave of a range, by what the test gives at a number
module _ {F : Type 0} {g : Mut F (ℕ × Unit {0}) Bool} (s u : Range ℕ) (q : F) (r : Bool) (ran : ChecksAll nat_range_steps g s q r u) where
  -- each row's test
  pub all-rows : {A : Type 0} (p : ℕ → A → Bool) (f : ℕ → A) (n : ℕ) → s ≡ record { start = 0; end = n } → ((i : ℕ) (b : Bool) (q' : F) → Called g q (i, tt) b q' → (q' ≡ q) × (b ≡ p i (f i))) → r ≡ each p 0 (rows_from f 0 n)
  all-rows p f n e by =
      decided p f n r (cases_from_all u q r (λ i. p i (f i) ≡ true) (λ i. p i (f i) ≡ false) ran (YieldsList-from_range 0 n n e (sub-zero n)) (λ i q' k. let w = by i true q' k in (w.0, sym w.1)) (λ i q' k. let w = by i false q' k in sym w.1))

  -- where it is true, what the test shows of each
  pub all-of : (P : ℕ → Type 0) (a b : ℕ) → s ≡ record { start = a; end = b } → ((i : ℕ) (q' : F) → Called g q (i, tt) true q' → (q' ≡ q) × P i) → r ≡ true → (i : ℕ) → a ≤ i → i < b → P i
  all-of P a b e by = shown r (cases_from_all u q r P (λ i. ⊤) ran (YieldsList-from_range a b (b - a) e refl) by (λ i q' k. tt))
    where
      shown : (t : Bool) → MatchBool t (AllWithin P (range_with_len a (b - a)) 0 (length (range_with_len a (b - a)))) ((k : ℕ) × (k < length (range_with_len a (b - a))) × HoldsAt (λ i. ⊤) (range_with_len a (b - a)) k) → t ≡ true → (i : ℕ) → a ≤ i → i < b → P i
      shown true h w i l m =
          let k : i - a < length (range_with_len a (b - a)) = omega (arith, length-range_with_len a (b - a)) in
          subst P ((number a (b - a) (i - a) 0 k).1 ∙ omega arith) (h (i - a) 0 (omega arith) k)
      shown false h w i l m = absurd (false≢true w)

-- what a fold of the same tests gave
module _ {A : Type 0} (p : ℕ → A → Bool) (f : ℕ → A) where
  fold-on : (ok : Bool) (i n : ℕ) → fold (λ (t : Bool) (j : ℕ). t && p j (f j)) ok (range_with_len i n) ≡ pick ok (each p i (rows_from f i n)) false
  unfolding each rows_from
  fold-on ok i zero = sym (and-true ok)
  fold-on ok i (suc n) =
      fold-on (ok && p i (f i)) (i + 1) n
      ∙ ap (λ (b : Bool). pick b (each p (i + 1) (rows_from f (i + 1) n)) false) (and_is ok (p i (f i)))
      ∙ and-and ok (p i (f i)) (each p (i + 1) (rows_from f (i + 1) n))

  pub fold-rows : (i n : ℕ) → fold (λ (t : Bool) (j : ℕ). t && p j (f j)) true (range_with_len i n) ≡ each p i (rows_from f i n)
  fold-rows i n = fold-on true i n
