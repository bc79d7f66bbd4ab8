-- A number's binary digits: of a conjunction, of a complement, of a power of two, and of a number's trailing zeros.
use Prim.Native.Nat.{ℕ, zero, suc, ◌+◌, ◌-◌, ◌/◌, ◌%◌, ◌^◌, ◌<◌, min, max, suc-le-suc}
use mathlib.Core.Path.{◌≡◌, refl, sym, ap, ◌∙◌}
use mathlib.Core.Logic.{◌≢◌}
use native.Mathlib.Nat.{mod-lt, min-le_left, max-le, lt_of_le_of_lt, zero-lt-suc, not-suc-le-zero, le_of_suc-le-suc, pow-suc, lt_irrefl, div-one}
use native.Mathlib.Omega.{arith}
use lib.Arith.{digits_mod, lt-one}
use lib.Bits.{bit_and, and_step, and_shr, bit_or, or_step, or_shr}
use lib.Count.{count_trailing_zeros, under}
use lib.Pow.{shr-shr}
use Rattle.taking.specs.Left.{digit}

-- the digits above the lowest are those of the half
pub digit-suc : (w i : ℕ) → digit w (suc i) ≡ digit (w / 2) i
digit-suc w i = ap (λ (n : ℕ). w / 2 ^ n % 2) (sym (add-comm-one i)) ∙ ap (λ (x : ℕ). x % 2) (sym (shr-shr w 1 i))
  where
    add-comm-one : (i : ℕ) → 1 + i ≡ suc i
    add-comm-one i = omega arith

pub digit-of-zero : (i : ℕ) → digit 0 i ≡ 0
digit-of-zero zero = refl
digit-of-zero (suc i) = digit-suc 0 i ∙ digit-of-zero i

pub digit_lt : (w i : ℕ) → digit w i < 2
digit_lt w i = mod-lt (w / 2 ^ i) (zero-lt-suc 1)

pub and-digit : (a b i : ℕ) → digit (bit_and a b) i ≡ min (digit a i) (digit b i)
and-digit a b i =
    ap (λ (x : ℕ). x % 2) (and_shr a b i ∙ and_step (a / 2 ^ i) (b / 2 ^ i))
    ∙ digits_mod _ (lt_of_le_of_lt (min-le_left (digit a i) (digit b i)) (digit_lt a i))

pub or-digit : (a b i : ℕ) → digit (bit_or a b) i ≡ max (digit a i) (digit b i)
or-digit a b i =
    ap (λ (x : ℕ). x % 2) (or_shr a b i ∙ or_step (a / 2 ^ i) (b / 2 ^ i))
    ∙ digits_mod _ (suc-le-suc (max-le (le_of_suc-le-suc (digit_lt a i)) (le_of_suc-le-suc (digit_lt b i))))

pub not_digit : (k w i : ℕ) → w < 2 ^ k → i < k → digit (2 ^ k - 1 - w) i ≡ 1 - digit w i
not_digit zero w i h l = absurd (not-suc-le-zero l)
not_digit (suc k) w zero h l = omega (arith, pow-suc 2 k, h)
not_digit (suc k) w (suc i) h l =
    let half : (2 ^ suc k - 1 - w) / 2 ≡ 2 ^ k - 1 - w / 2 = omega (arith, pow-suc 2 k, h) in
    digit-suc (2 ^ suc k - 1 - w) i ∙ ap (λ (x : ℕ). digit x i) half
    ∙ not_digit k (w / 2) i (omega (arith, pow-suc 2 k, h)) (omega arith) ∙ ap (λ (x : ℕ). 1 - x) (sym (digit-suc w i))

-- a power of two has one digit
pub pow-here : (i : ℕ) → digit (2 ^ i) i ≡ 1
pow-here zero = refl
pow-here (suc i) = digit-suc (2 ^ suc i) i ∙ ap (λ (x : ℕ). digit x i) (omega (arith, pow-suc 2 i)) ∙ pow-here i

pub pow-other : (k i : ℕ) → k ≢ i → digit (2 ^ k) i ≡ 0
pow-other zero zero ne = absurd (ne refl)
pow-other zero (suc i) ne = digit-suc 1 i ∙ digit-of-zero i
pow-other (suc k) zero ne = omega (arith, pow-suc 2 k)
pow-other (suc k) (suc i) ne = digit-suc (2 ^ suc k) i ∙ ap (λ (x : ℕ). digit x i) (omega (arith, pow-suc 2 k)) ∙ pow-other k i (λ e. ne (ap suc e))

-- under a number's trailing zeros every digit is 0, and the one after them is 1
pub under-trailing : (k w i : ℕ) → i < count_trailing_zeros k w → digit w i ≡ 0
unfolding count_trailing_zeros
under-trailing zero w i h = absurd (not-suc-le-zero h)
under-trailing (suc k) w i h = go (w % 2) refl i h (under-trailing k (w / 2))
  where
    go : (d : ℕ) → w % 2 ≡ d → (i : ℕ) → i < under d (count_trailing_zeros k (w / 2)) → ((i : ℕ) → i < count_trailing_zeros k (w / 2) → digit (w / 2) i ≡ 0) → digit w i ≡ 0
    go zero e zero h on = ap (λ (x : ℕ). x % 2) (div-one w) ∙ e
    go zero e (suc i) h on = digit-suc w i ∙ on i (le_of_suc-le-suc h)
    go (suc d) e i h on = absurd (not-suc-le-zero h)

pub after-trailing : (k w : ℕ) → 0 < w → w < 2 ^ k → digit w (count_trailing_zeros k w) ≡ 1
unfolding count_trailing_zeros
after-trailing zero w p h = absurd (lt_irrefl 0 (rw (lt-one h) at p))
after-trailing (suc k) w p h = go (w % 2) refl (after-trailing k (w / 2))
  where
    go : (d : ℕ) → w % 2 ≡ d → (0 < w / 2 → w / 2 < 2 ^ k → digit (w / 2) (count_trailing_zeros k (w / 2)) ≡ 1) → digit w (under d (count_trailing_zeros k (w / 2))) ≡ 1
    go zero e on = digit-suc w _ ∙ on (omega arith) (omega (arith, pow-suc 2 k))
    go (suc d) e on = omega (arith, mod-lt w (zero-lt-suc 1))
