-- Which stages an operation fits, by trying the eight operations.
use Prim.Native.Nat.{ℕ, zero, suc, ◌<◌}
use mathlib.Core.Path.{◌≡◌}
use mathlib.Core.Bool.{Bool, true, false, false≢true}
use native.Mathlib.Nat.{not-suc-le-zero, eq-or-lt_of_le, le_of_suc-le-suc}
use native.Mathlib.Omega.{arith}
use lib.Dec.{eqb}
use borrow.Author.Tests.{eqb-true}
use Rattle.rules.specs.Words.{pick, ◌and◌, ◌or◌, get, put, put_if_absent, upsert, compute, remove, scan, scan_down}
use Rattle.rules.specs.Shape.{fits_operation}
use Rattle.laws.proofs.Tests.{picked, both, and_left, and_right, or_cases}
use mathlib.Core.Logic.{⊎_elim}

-- it holds of the numbers below n
abbrev pub throughout : ℕ → (ℕ → Bool) → Bool
throughout zero p = true
throughout (suc n) p = let on = throughout n p in p n and on

abbrev pub implies : Bool → Bool → Bool
implies a b = pick a b true

pub through : (p : ℕ → Bool) (m : ℕ) → throughout m p ≡ true → (n : ℕ) → n < m → p n ≡ true
through p zero h n b = absurd (not-suc-le-zero b)
through p (suc m) h n b = ⊎_elim (λ (e : n ≡ m). rw e (and_left (p m) _ h)) (λ lt. through p m (and_right (p m) _ h) n lt) (eq-or-lt_of_le (le_of_suc-le-suc b))

-- an operation that fits a stage is one of the eight
fits-known : (op n : ℕ) → fits_operation op n ≡ true → op < 9
fits-known op n =
    picked (λ (b : Bool). b ≡ true → op < 9) (eqb op get) (λ e _. omega (arith, eqb-true op get e))
    (λ _. picked (λ (b : Bool). b ≡ true → op < 9) (eqb op put_if_absent) (λ e _. omega (arith, eqb-true op put_if_absent e))
    (λ _. picked (λ (b : Bool). b ≡ true → op < 9) (eqb op put or eqb op upsert) (λ e _. ⊎_elim (λ (q : eqb op put ≡ true). omega (arith, eqb-true op put q)) (λ (q : eqb op upsert ≡ true). omega (arith, eqb-true op upsert q)) (or_cases _ _ e))
    (λ _. picked (λ (b : Bool). b ≡ true → op < 9) (eqb op compute) (λ e _. omega (arith, eqb-true op compute e))
    (λ _. picked (λ (b : Bool). b ≡ true → op < 9) (eqb op remove) (λ e _. omega (arith, eqb-true op remove e))
    (λ _. picked (λ (b : Bool). b ≡ true → op < 9) (eqb op scan) (λ e _. omega (arith, eqb-true op scan e))
    (λ _. picked (λ (b : Bool). b ≡ true → op < 9) (eqb op scan_down) (λ e _. omega (arith, eqb-true op scan_down e)) (λ _ h. absurd (false≢true h))))))))

imply : (a b : Bool) → a ≡ true → implies a b ≡ true → b ≡ true
imply true b p q = q
imply false b p q = absurd (false≢true p)

-- what each operation that fits a stage passes
pub fits-test : (n : ℕ) (p : ℕ → Bool) → throughout 9 (λ op. implies (fits_operation op n) (p op)) ≡ true → (op : ℕ) → fits_operation op n ≡ true → p op ≡ true
fits-test n p all op f = imply _ _ f (through (λ op. implies (fits_operation op n) (p op)) 9 all op (fits-known op n f))

-- from a stage that an operation fits, under a test of the operation, to another
pub fits-move : (n m : ℕ) (when : ℕ → Bool) → throughout 9 (λ op. implies (fits_operation op n and when op) (fits_operation op m)) ≡ true →
    (op : ℕ) → fits_operation op n ≡ true → when op ≡ true → fits_operation op m ≡ true
fits-move n m when all op f w = imply _ _ (both _ _ f w) (through (λ op. implies (fits_operation op n and when op) (fits_operation op m)) 9 all op (fits-known op n f))
