-- Laws of lists: rows of a table, a list without repetition, the number of a row.
use Prim.Native.Nat.{ℕ, zero, suc, ◌+◌, ◌*◌, ◌≤◌, ◌<◌, suc-le-suc, zero-le}
use mathlib.Core.Path.{◌≡◌, refl, sym, ap, ◌∙◌}
use mathlib.Core.Logic.{⊎_elim, ◌≢◌}
use mathlib.Core.Bool.{Bool, true}
use mathlib.Core.List.Memᴰ
use mathlib.Core.List.{List, [], ◌∷◌, Memᴰ}
use native.Mathlib.Nat.{not-suc-le-zero, zero-lt-suc, add-zero, add-suc, suc-add, mul-le-mul_right, suc-mul, le_trans}
use native.Mathlib.Numerals.{add-one}
use native.Mathlib.Decide.{ℕ_discrete, dec_lt}
use native.Mathlib.Omega.{arith}
use lib.Dec.{eqb}
use lib.ListN.{length, get_or, set}
use lib.Seq.{get_or-set_same, get_or-set_other, set_out}
use borrow.Author.Tests.{eqb-true, eqb-false}
use Rattle.rules.specs.Words.{pick}
use Rattle.rules.specs.Shape.{each}
use Rattle.laws.specs.Counts.{Every, Apart, all}
use Rattle.laws.proofs.Tests.{both, and_left, and_right, picked}

-- the number of a row past the first
past : (n i : ℕ) → n + 1 + i ≡ n + suc i
past n i = ap (λ (m : ℕ). m + i) (add-one n) ∙ suc-add n i ∙ sym (add-suc n i)

-- the test holds of a table where it holds of each row
pub each-by : {A : Type 0} (p : ℕ → A → Bool) (n : ℕ) (l : List A) (d : A) → ((i : ℕ) → i < length l → p (n + i) (get_or l i d) ≡ true) → each p n l ≡ true
unfolding each
each-by p n [] d h = refl
each-by p n (x ∷ l) d h = both (p n x) _ (rw add-zero at (h zero (zero-lt-suc _))) (each-by p (n + 1) l d (λ i b. rw (past n i) (h (suc i) (suc-le-suc b))))

-- a test of every member, and of what stands for none, holds at each number
pub all-at : {A : Type 0} (p : A → Bool) (l : List A) (i : ℕ) (d : A) → all p l ≡ true → p d ≡ true → p (get_or l i d) ≡ true
unfolding all
all-at p [] i d h q = q
all-at p (x ∷ l) zero d h q = and_left (p x) _ h
all-at p (x ∷ l) (suc i) d h q = all-at p l i d (and_right (p x) _ h) q

module _ {A : Type 0} where
  -- a row after one was written: that one, or what it was
  pub get_d_set : (l : List A) (i : ℕ) (a d : A) (j : ℕ) (P : A → Type 0) → i < length l → (j ≡ i → P a) → (j ≢ i → P (get_or l j d)) → P (get_or (set l i a) j d)
  get_d_set l i a d j P b f g = elim (ℕ_discrete j i) [ yes e ↦ here e | no ne ↦ rw (get_or-set_other l i j a d ne) (g ne) ]
    where
      here : j ≡ i → P (get_or (set l i a) j d)
      here e = rw (e, get_or-set_same l i a d b) (f e)

  -- what every row had, and the new one has, every row has
  pub set_keeps : (P : A → Type 0) (l : List A) (i : ℕ) (a d : A) → P a → ((j : ℕ) → P (get_or l j d)) → (j : ℕ) → P (get_or (set l i a) j d)
  set_keeps P l i a d p h j = elim (dec_lt i (length l)) [ yes b ↦ get_d_set l i a d j P b (λ e. p) (λ ne. h j) | no out ↦ rw (set_out l i a (omega arith)) (h j) ]

-- ---- as many members as numbers at the most
module _ {A : Type 0} (num : A → ℕ) where
  without : ℕ → List A → List A
  without u [] = []
  without u (x ∷ l) = let on = x ∷ without u l in pick (eqb (num x) u) l on

  without_in : (u : ℕ) (l : List A) (y : A) → Memᴰ y (without u l) → Memᴰ y l
  unfolding without
  without_in u [] y m = m
  without_in u (x ∷ l) y m =
      picked (λ r. Memᴰ y r → Memᴰ y (x ∷ l)) (eqb (num x) u) {x = l} {y = x ∷ without u l} (λ _ n. Memᴰ.tail n)
      (λ _ n. ⊎_elim (λ e. Memᴰ.head e) (λ o. Memᴰ.tail (without_in u l y o)) (Memᴰ.cases_cons n)) m

  without_other : (u : ℕ) (l : List A) → Apart num l → Every (λ y. num y ≢ u) (without u l)
  unfolding without Apart
  without_other u [] a = λ y m. absurd (Memᴰ.not-nil m)
  without_other u (x ∷ l) a =
      picked (λ r. Every (λ y. num y ≢ u) r) (eqb (num x) u) {x = l} {y = x ∷ without u l}
      (λ e y m q. a.0 y m (eqb-true _ _ e ∙ sym q))
      (λ e y m. ⊎_elim (λ (p : y ≡ x). λ q. eqb-false _ _ e (ap num (sym p) ∙ q)) (λ o. without_other u l a.1 y o) (Memᴰ.cases_cons m))

  without-apart : (u : ℕ) (l : List A) → Apart num l → Apart num (without u l)
  unfolding without Apart
  without-apart u [] a = a
  without-apart u (x ∷ l) a =
      picked (λ r. Apart num r) (eqb (num x) u) {x = l} {y = x ∷ without u l} (λ _. a.1) (λ _. (λ y m. a.0 y (without_in u l y m), without-apart u l a.1))

  without-length : (u : ℕ) (l : List A) → length l ≤ suc (length (without u l))
  unfolding without
  without-length u [] = zero-le
  without-length u (x ∷ l) =
      picked (λ r. suc (length l) ≤ suc (length r)) (eqb (num x) u) {x = l} {y = x ∷ without u l} (λ _. omega arith) (λ _. suc-le-suc (without-length u l))

  -- a list whose members have numbers below u, no two the same, has at most u members
  pub at_most : (u : ℕ) (l : List A) → Every (λ x. num x < u) l → Apart num l → length l ≤ u
  at_most zero [] h a = zero-le
  at_most zero (x ∷ l) h a = absurd (not-suc-le-zero (h x (Memᴰ.head refl)))
  at_most (suc u) l h a =
      le_trans (without-length u l)
      (suc-le-suc (at_most u (without u l) (λ x m. below x (h x (without_in u l x m)) (without_other u l a x m)) (without-apart u l a)))
    where
      below : (x : A) → num x < suc u → num x ≢ u → num x < u
      below x p q = omega arith

-- ---- the number of a row: row e of block c
pub row_within : (c e many size : ℕ) → c < many → e < size → c * size + e < many * size
row_within c e many size b d = omega (arith, mul-le-mul_right size b, suc-mul c size)

-- two rows of one number are one row of one block
pub row_block : (c e c' e' size : ℕ) → e < size → e' < size → c * size + e ≡ c' * size + e' → c ≡ c'
row_block c e c' e' size b b' q = elim (ℕ_discrete c c') [ yes p ↦ p | no ne ↦ absurd (apart ne) ]
  where
    below : (a x d y : ℕ) → a < d → x < size → a * size + x ≡ d * size + y → ⊥
    below a x d y lt bx p = omega (arith, mul-le-mul_right size lt, suc-mul a size)

    apart : c ≢ c' → ⊥
    apart ne = elim (dec_lt c c') [ yes lt ↦ below c e c' e' lt b q | no ge ↦ below c' e' c e (omega arith) b' (sym q) ]

pub row-place : (c e c' e' size : ℕ) → e < size → e' < size → c * size + e ≡ c' * size + e' → e ≡ e'
row-place c e c' e' size b b' q = omega (arith, ap (λ (n : ℕ). n * size) (row_block c e c' e' size b b' q))
