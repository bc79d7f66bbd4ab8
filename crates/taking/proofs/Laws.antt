-- One handle struck off, and the lowest bit left; and that this is the lowest free handle.
use Prim.Native.Nat.{ℕ, zero, suc, ◌+◌, ◌-◌, ◌*◌, ◌/◌, ◌%◌, ◌^◌, ◌≤◌, ◌<◌, min, max, zero-le}
use mathlib.Core.Path.{◌≡◌, refl, sym, ap, ◌∙◌}
use mathlib.Core.Logic.{◌≢◌}
use mathlib.Core.Bool.{Bool, true, false, not}
use mathlib.Core.List.{List}
use native.Mathlib.Nat.{lt_of_not-le, le-max_left, le-max_right, zero-max, le_of_suc-le-suc, min-zero, min-eq_left, zero-add, one-mul}
use native.Mathlib.Omega.{arith}
use native.Mathlib.Decide.{ℕ_discrete, dec_le}
use lib.Bits.{bit_and, bit_or, or_lt}
use lib.Count.{count_trailing_zeros}
use lib.Dec.{eqb, ltb}
use lib.Pow.{pow-lt, shl_exact}
use lib.ListN.{get_or, set, length, replicate, get_or-replicate}
use lib.Seq.{get_or-set_same, get_or-set_other}
use borrow.Author.Tests.{lt-ltb, le-ltb, eq-eqb, ne_eqb}
use Rattle.std.specs.Prelude.{Some, None}
use Rattle.rules.specs.declared.Task.{Task}
use Rattle.rules.specs.declared.Entry.{Entry}
use Rattle.rules.specs.Words.{pick, handle_no, no_handle}
use Rattle.rules.specs.Walks.{named_in, held_in, free, free_from}
use Rattle.taking.specs.Left.{room, digit, bit_at, Struck, Joined, First, Lowest}
use Rattle.taking.proofs.Digits.{digit-of-zero, digit_lt, and-digit, or-digit, not_digit, pow-here, pow-other, under-trailing, after-trailing}

-- ---- one handle
-- a word without one of its digits
struck-word : (w k i : ℕ) → k < 64 → i < 64 → digit (bit_and w (2 ^ 64 - 1 - 2 ^ k)) i ≡ pick (eqb k i) 0 (digit w i)
struck-word w k i kb ib = and-digit w (2 ^ 64 - 1 - 2 ^ k) i ∙ ap (min (digit w i)) (not_digit 64 (2 ^ k) i (pow-lt kb) ib) ∙ go (ℕ_discrete k i)
  where
    go : Dec (k ≡ i) → min (digit w i) (1 - digit (2 ^ k) i) ≡ pick (eqb k i) 0 (digit w i)
    go (yes e) = rw (e, pow-here i, eq-eqb i i refl) (min-zero (digit w i))
    go (no ne) = rw (pow-other k i ne, ne_eqb k i ne) (min-eq_left (le_of_suc-le-suc (digit_lt w i)))

-- the bit of a handle is cleared; it stands at n, past the room where the number is
module _ (w : List ℕ) (long : length w ≡ 128) (h n : ℕ) (in_words_lem : n < 8192) (own : h < room → n ≡ h) (past : room ≤ h → room ≤ n) where
  abbrev word : ℕ
  word = bit_and (get_or w (n % 128) 0) (2 ^ 64 - 1 - 1 * 2 ^ (n / 128) % 2 ^ 64)

  abbrev cleared : List ℕ
  cleared = set w (n % 128) word

  has : 1 * 2 ^ (n / 128) % 2 ^ 64 ≡ 2 ^ (n / 128)
  has = shl_exact 1 (n / 128) 64 (omega arith) (omega arith) ∙ one-mul (2 ^ (n / 128))

  inside : n % 128 < length w
  inside = omega (arith, long)

  same : (m : ℕ) → m < room → eqb n m ≡ eqb h m
  same m b = elim (dec_le room h) [ yes l ↦ rw (ne_eqb h m (λ q. absurd (omega arith)), ne_eqb n m (λ q. absurd (omega (arith, past l)))) | no l ↦ rw (own (lt_of_not-le l)) ]

  place : (m : ℕ) → m % 128 ≡ n % 128 → eqb (n / 128) (m / 128) ≡ eqb n m
  place m e = elim (ℕ_discrete n m) [ yes q ↦ rw (q, eq-eqb m m refl) (eq-eqb (m / 128) (m / 128) refl) | no ne ↦ rw (ne_eqb n m ne) (ne_eqb (n / 128) (m / 128) (λ q. ne (omega arith))) ]

  here : (m : ℕ) → m < room → m % 128 ≡ n % 128 → bit_at cleared m ≡ pick (eqb n m) 0 (bit_at w m)
  here m b e = rw (e, get_or-set_same w (n % 128) word 0 inside, ← place m e, has) (struck-word (get_or w (n % 128) 0) (n / 128) (m / 128) (omega arith) (omega arith))

  other : (m : ℕ) → m % 128 ≢ n % 128 → bit_at cleared m ≡ pick (eqb n m) 0 (bit_at w m)
  other m ne = rw (get_or-set_other w (n % 128) (m % 128) word 0 ne, ne_eqb n m (λ q. ne (ap (λ (x : ℕ). x % 128) (sym q))))

  pub strikes : Struck w cleared (λ m. eqb h m)
  strikes = record { bits = λ m b. elim (ℕ_discrete (m % 128) (n % 128)) [ yes e ↦ here m b e | no ne ↦ other m ne ] ∙ ap (λ (t : Bool). pick t 0 (bit_at w m)) (same m b) }

-- ---- all are left
pub all_left : (h : ℕ) → h < room → bit_at (replicate 128 137438953471) h ≡ 1
all_left h b = rw (get_or-replicate {A = ℕ} 128 (h % 128) 137438953471 0 (omega arith)) (not_digit 37 0 (h / 128) (omega arith) (omega arith) ∙ ap (λ (x : ℕ). 1 - x) (digit-of-zero (h / 128)))

-- ---- the lowest that is left
module _ (w : List ℕ) where
  pub joined-more : (n any : ℕ) → get_or w n 0 < 2 ^ 64 → Joined w n any → Joined w (n + 1) (bit_or any (get_or w n 0))
  joined-more n any fits j = record {
    fits = or_lt 64 any (get_or w n 0) j.fits fits;
    none = λ b e i l. elim (ℕ_discrete i n) [ yes q ↦ rw q (omega (arith, or-digit any (get_or w n 0) b, le-max_right (digit any b) (digit (get_or w n 0) b))) | no ne ↦ j.none b (omega (arith, or-digit any (get_or w n 0) b, le-max_left (digit any b) (digit (get_or w n 0) b))) i (omega arith) ];
    some = λ b e. elim (ℕ_discrete (digit any b) 1) [ yes q ↦ let s = j.some b q in (s.0, omega (arith, s.1), s.2) | no ne ↦ (n, omega arith, last b e ne) ];
  }
    where
      last : (b : ℕ) → digit (bit_or any (get_or w n 0)) b ≡ 1 → digit any b ≢ 1 → digit (get_or w n 0) b ≡ 1
      last b e ne = let z : digit any b ≡ 0 = omega (arith, digit_lt any b) in sym (zero-max (digit (get_or w n 0) b)) ∙ ap (λ (x : ℕ). max x (digit (get_or w n 0) b)) (sym z) ∙ sym (or-digit any (get_or w n 0) b) ∙ e

  -- some word has the bit of the lowest
  pub some-has : (any : ℕ) → Joined w 128 any → any ≢ 0 → First w (count_trailing_zeros 64 any) None → ⊥
  some-has any j ne f = let s = j.some (count_trailing_zeros 64 any) (after-trailing 64 any (omega arith) j.fits) in omega (arith, s.2, f s.0 s.1)

  pub lowest-found : (any i : ℕ) → Joined w 128 any → any ≢ 0 → First w (count_trailing_zeros 64 any) (Some i) → Lowest w (count_trailing_zeros 64 any * 128 + i)
  lowest-found any i j ne f = record { under = under; here = λ b. rw (quotient, remainder) f.2 }
    where
      quotient : (count_trailing_zeros 64 any * 128 + i) / 128 ≡ count_trailing_zeros 64 any
      quotient = omega (arith, f.0)

      remainder : (count_trailing_zeros 64 any * 128 + i) % 128 ≡ i
      remainder = omega (arith, f.0)

      under : (h : ℕ) → h < room → h < count_trailing_zeros 64 any * 128 + i → bit_at w h ≡ 0
      under h b l = elim (ℕ_discrete (h / 128) (count_trailing_zeros 64 any)) [ yes e ↦ rw e (f.1 (h % 128) (omega (arith, e))) | no d ↦ j.none (h / 128) (under-trailing 64 any (h / 128) (omega (arith, f.0))) (h % 128) (omega arith) ]

-- ---- it is the lowest free one
module _ (es : List Entry) (ts : List Task) where
  lowest-from : (left h n : ℕ) → h ≤ n → ((i : ℕ) → h ≤ i → i < n → i < h + left → free es ts (handle_no i) ≡ false) → (n < h + left → free es ts (handle_no n) ≡ true) → free_from es ts left h ≡ pick (ltb n (h + left)) (handle_no n) no_handle
  unfolding free_from
  lowest-from zero h n a none some = rw (le-ltb n (h + 0) (omega arith))
  lowest-from (suc left) h n a none some =
      elim (ℕ_discrete h n) [
        | yes e ↦ rw (e, some (omega arith), lt-ltb n (n + suc left) (omega arith))
        | no ne ↦
            let same : h + suc left ≡ h + 1 + left = omega arith in
            rw (none h (omega arith) (omega arith) (omega arith), same) (lowest-from left (h + 1) n (omega arith) (λ i b c d. none i (omega arith) c (omega arith)) (λ b. some (omega arith)))
      ]

  -- what is left when those named and those held are struck off is what is free
  module _ (start named held : List ℕ) (all : (h : ℕ) → h < room → bit_at start h ≡ 1) (first : Struck start named (λ h. named_in es (handle_no h))) (then : Struck named held (λ h. held_in ts (handle_no h))) where
    free-bit : (h : ℕ) → h < room → free es ts (handle_no h) ≡ eqb (bit_at held h) 1
    free-bit h b = both (named_in es (handle_no h)) (held_in ts (handle_no h)) ∙ ap (λ (n : ℕ). eqb n 1) (sym (then.bits h b ∙ ap (pick (held_in ts (handle_no h)) 0) (first.bits h b ∙ ap (pick (named_in es (handle_no h)) 0) (all h b))))
      where
        both : (a b : Bool) → not (pick a true b) ≡ eqb (pick b 0 (pick a 0 1)) 1
        both true true = refl
        both true false = refl
        both false true = refl
        both false false = refl

    pub lowest-free-is : (handles n : ℕ) → handles ≤ room → Lowest held n → free_from es ts handles 0 ≡ pick (ltb n handles) (handle_no n) no_handle
    lowest-free-is handles n fits l = rw (zero-add handles) at (lowest-from handles 0 n zero-le (λ i a b c. free-bit i (omega arith) ∙ rw (l.under i (omega arith) b)) (λ b. free-bit n (omega arith) ∙ rw (l.here (omega arith))))
