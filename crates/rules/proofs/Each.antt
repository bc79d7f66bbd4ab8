-- Laws of `each`: it holds of a table exactly when its test holds of every row.
use Prim.Native.Nat.{ℕ, zero, suc, ◌+◌, ◌<◌, suc-le-suc}
use mathlib.Core.Path.{◌≡◌, refl, sym, ap, ◌∙◌}
use mathlib.Core.Bool.{Bool, true}
use mathlib.Core.List.{List, [], ◌∷◌}
use native.Mathlib.Nat.{le_of_suc-le-suc, not-suc-le-zero, zero-lt-suc, add-zero, add-suc, suc-add}
use native.Mathlib.Numerals.{add-one}
use lib.ListN.{length, get_or, set, replicate}
use Rattle.rules.specs.Shape.{each}
use Rattle.rules.proofs.Tests.{and_left, and_right, both}

-- the number of a row past the first
past : (n i : ℕ) → n + 1 + i ≡ n + suc i
past n i = ap (λ (m : ℕ). m + i) (add-one n) ∙ suc-add n i ∙ sym (add-suc n i)

module _ {A : Type 0} (p : ℕ → A → Bool) where
  pub each_at : (n : ℕ) (l : List A) (i : ℕ) (d : A) → each p n l ≡ true → i < length l → p (n + i) (get_or l i d) ≡ true
  unfolding each
  each_at n [] i d h b = absurd (not-suc-le-zero b)
  each_at n (x ∷ l) zero d h b = rw add-zero (and_left (p n x) _ h)
  each_at n (x ∷ l) (suc i) d h b = rw (← past n i) (each_at (n + 1) l i d (and_right (p n x) _ h) (le_of_suc-le-suc b))

  pub each-by : (n : ℕ) (l : List A) (d : A) → ((i : ℕ) → i < length l → p (n + i) (get_or l i d) ≡ true) → each p n l ≡ true
  unfolding each
  each-by n [] d h = refl
  each-by n (x ∷ l) d h =
      both (p n x) _ (rw add-zero at (h zero (zero-lt-suc _)))
      (each-by (n + 1) l d (λ i b. rw (past n i) (h (suc i) (suc-le-suc b))))

  pub each-replicate : (n m : ℕ) (x : A) → ((i : ℕ) → i < m → p (n + i) x ≡ true) → each p n (replicate m x) ≡ true
  unfolding each
  each-replicate n zero x h = refl
  each-replicate n (suc m) x h =
      both (p n x) _ (rw add-zero at (h zero (zero-lt-suc _)))
      (each-replicate (n + 1) m x (λ i b. rw (past n i) (h (suc i) (suc-le-suc b))))

  -- a row written anew has the test too
  pub each_set : (n : ℕ) (l : List A) (i : ℕ) (x : A) → each p n l ≡ true → (i < length l → p (n + i) x ≡ true) → each p n (set l i x) ≡ true
  unfolding each
  each_set n [] i x h q = refl
  each_set n (y ∷ l) zero x h q = both (p n x) _ (rw add-zero at (q (zero-lt-suc _))) (and_right (p n y) _ h)
  each_set n (y ∷ l) (suc i) x h q =
      both (p n y) _ (and_left (p n y) _ h)
      (each_set (n + 1) l i x (and_right (p n y) _ h) (λ b. rw (past n i) (q (suc-le-suc b))))

-- a test that follows from another holds where that one does
pub each_map : {A : Type 0} (p q : ℕ → A → Bool) (n : ℕ) (l : List A) → ((i : ℕ) (x : A) → p i x ≡ true → q i x ≡ true) → each p n l ≡ true → each q n l ≡ true
unfolding each
each_map p q n [] f h = refl
each_map p q n (x ∷ l) f h = both (q n x) _ (f n x (and_left (p n x) _ h)) (each_map p q (n + 1) l f (and_right (p n x) _ h))
