-- A loop that writes one word at every other place: each turn, its end, and the two passes together.
use Prim.Native.Nat.{ℕ, zero, suc, ◌+◌, ◌-◌, ◌≤◌}
use mathlib.Core.Path.{◌≡◌, refl, ap, ◌∙◌}
use mathlib.Core.List.{List, [], ◌∷◌, ◌++◌}
use native.Mathlib.Nat.{sub-zero, zero-sub, suc-sub-suc}
use native.Mathlib.Omega.{arith}
use native.Mathlib.Numerals.{add-one}
use lib.ListN.{length, set, take, replicate}
use Rattle.making.specs.Clearing.{every_other}

module _ (v : ℕ) where
  past : (i : ℕ) (l : List ℕ) → every_other v i l ≡ every_other v (suc (suc i)) (set l i v)
  unfolding every_other
  past zero [] = refl
  past (suc i) [] = refl
  past zero (x ∷ xs) = refl
  past (suc i) (x ∷ xs) = ap (λ (l : List ℕ). x ∷ l) (past i xs)

  -- the word at place i is v, and the rest starts two places on
  pub other-next : (i : ℕ) (l : List ℕ) → every_other v i l ≡ every_other v (i + 2) (set l i v)
  other-next i l = past i l ∙ ap (λ (n : ℕ). every_other v n (set l i v)) (omega arith)

  -- past the last word nothing is left
  pub other_none : (i : ℕ) (l : List ℕ) → length l ≤ i → every_other v i l ≡ l
  unfolding every_other
  other_none zero [] h = refl
  other_none (suc i) [] h = refl
  other_none zero (x ∷ xs) h = absurd (omega arith)
  other_none (suc i) (x ∷ xs) h = ap (λ (l : List ℕ). x ∷ l) (other_none i xs (omega arith))

  either_way : (l : List ℕ) → (every_other v 1 (every_other v 0 l) ≡ replicate (length l) v) × (every_other v 0 (every_other v 1 l) ≡ replicate (length l) v)
  unfolding every_other
  either_way [] = (refl, refl)
  either_way (x ∷ xs) = (ap (λ (l : List ℕ). v ∷ l) (either_way xs).1, ap (λ (l : List ℕ). v ∷ l) (either_way xs).0)

  from_place : (n : ℕ) (l : List ℕ) → every_other v (suc n) (every_other v n l) ≡ take n l ++ replicate (length l - n) v
  unfolding every_other
  from_place zero l = rw sub-zero (either_way l).0
  from_place (suc n) [] = rw zero-sub
  from_place (suc n) (x ∷ l) = rw suc-sub-suc (ap (λ (l : List ℕ). x ∷ l) (from_place n l))

  -- the two passes, one place apart, write every word from place n on
  pub other-all : (n : ℕ) (l : List ℕ) → every_other v (n + 1) (every_other v n l) ≡ take n l ++ replicate (length l - n) v
  other-all n l = ap (λ (m : ℕ). every_other v m (every_other v n l)) (add-one n) ∙ from_place n l
