-- A number's words, one byte more and one word more.
use Prim.Native.Nat.{ℕ, ◌+◌, ◌*◌, ◌-◌}
use mathlib.Core.Path.{◌≡◌, refl, sym, ap, ◌∙◌}
use mathlib.Core.Bool.{Bool, true, false}
use mathlib.Core.List.{List, [], ◌∷◌, ◌++◌}
use native.Mathlib.Omega.{arith}
use lib.Dec.{leb}
use borrow.Author.Tests.{lt-leb, leb-false}
use Rattle.rules.specs.Words.{◌and◌}
use Rattle.script.specs.Lines.{is_digit, all_digits, value_from, value, is_number, all_numbers}

pub and-false : (a : Bool) → (a and false) ≡ false
and-false true = refl
and-false false = refl

and_assoc : (a b c : Bool) → ((a and b) and c) ≡ (a and (b and c))
and_assoc true b c = refl
and_assoc false b c = refl

pub and-true : (a : Bool) → (a and true) ≡ a
and-true true = refl
and-true false = refl

pub value-snoc : (v : ℕ) (w : List ℕ) (b : ℕ) → value_from v (w ++ (b ∷ [])) ≡ value_from v w * 10 + (b - 48)
unfolding value_from
value-snoc v [] b = refl
value-snoc v (a ∷ w) b = value-snoc (v * 10 + (a - 48)) w b

digits-snoc : (w : List ℕ) (b : ℕ) → all_digits (w ++ (b ∷ [])) ≡ (all_digits w and is_digit b)
unfolding all_digits
digits-snoc [] b = and-true (is_digit b)
digits-snoc (a ∷ w) b = ap (λ (t : Bool). is_digit a and t) (digits-snoc w b) ∙ sym (and_assoc (is_digit a) (all_digits w) (is_digit b))

pub numbers-snoc : (ws : List (List ℕ)) (w : List ℕ) → all_numbers (ws ++ (w ∷ [])) ≡ (all_numbers ws and is_number w)
unfolding all_numbers
numbers-snoc [] w = and-true (is_number w)
numbers-snoc (v ∷ ws) w = ap (λ (t : Bool). is_number v and t) (numbers-snoc ws w) ∙ sym (and_assoc (is_number v) (all_numbers ws) (is_number w))

-- a word is a number with one digit more exactly where it is one, the byte is a digit, and the value does not grow too large
pub number-snoc : (w : List ℕ) (b : ℕ) → is_number (w ++ (b ∷ [])) ≡ (is_number w and is_digit b and leb (value w * 10 + (b - 48)) 18446744073709551615)
number-snoc w b = rw (digits-snoc w b, value-snoc 0 w b) (go (all_digits w) (is_digit b) (leb (value w) 18446744073709551615) refl)
  where
    go : (a d t : Bool) → leb (value w) 18446744073709551615 ≡ t → ((a and d) and leb (value w * 10 + (b - 48)) 18446744073709551615) ≡ ((a and t) and d and leb (value w * 10 + (b - 48)) 18446744073709551615)
    go false d t e = refl
    go true d true e = refl
    go true d false e = let above = leb-false (value w) 18446744073709551615 e in ap (λ (t : Bool). d and t) (lt-leb (value w * 10 + (b - 48)) 18446744073709551615 (omega arith)) ∙ and-false d
