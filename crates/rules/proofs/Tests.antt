-- Laws of the tests: `pick`, `and`, `or`, and the comparisons against each other.
use Prim.Native.Nat.{ℕ}
use mathlib.Core.Path.{◌≡◌, refl}
use mathlib.Core.Logic.{◌⊎◌, inl, inr}
use mathlib.Core.Bool.{Bool, true, false, not, false≢true}
use lib.Dec.{ltb, leb}
use borrow.Author.Tests.{lt-ltb, le-ltb, leb-true, leb-false}
use Rattle.rules.specs.Words.{pick, ◌and◌, ◌or◌}

-- ---- from a conjunction to its parts and back
pub and_left : (a b : Bool) → (a and b) ≡ true → a ≡ true
and_left true b h = refl
and_left false b h = h

pub and_right : (a b : Bool) → (a and b) ≡ true → b ≡ true
and_right true b h = h
and_right false b h = absurd (false≢true h)

pub both : (a b : Bool) → a ≡ true → b ≡ true → (a and b) ≡ true
both a b p q = rw (p, q)

pub or_cases : (a b : Bool) → (a or b) ≡ true → (a ≡ true) ⊎ (b ≡ true)
or_cases true b h = inl refl
or_cases false b h = inr h

-- ---- a choice
-- what holds of both arms holds of the one that is picked
pub picked {ℓ κ} : {A : Type ℓ} (P : A → Type κ) (b : Bool) {x y : A} → P x → P y → P (pick b x y)
picked P true p q = p
picked P false p q = q

-- the same, where each arm may use how the test came out
pub picked-by {ℓ κ} : {A : Type ℓ} (P : A → Type κ) (b : Bool) {x y : A} → (b ≡ true → P x) → (b ≡ false → P y) → P (pick b x y)
picked-by P true p q = p refl
picked-by P false p q = q refl

-- what follows from each arm follows from the one that is picked
pub from-picked {ℓ} : {R : Type ℓ} (b x y : Bool) → (b ≡ true → x ≡ true → R) → (b ≡ false → y ≡ true → R) → pick b x y ≡ true → R
from-picked true x y p q h = p refl h
from-picked false x y p q h = q refl h

pub not-true≡false : (b : Bool) → (b ≡ true → ⊥) → b ≡ false
not-true≡false true h = absurd (h refl)
not-true≡false false h = refl

-- ---- a comparison's negation is the other one
pub not-leb : (a b : ℕ) → not (leb a b) ≡ ltb b a
not-leb a b = go (leb a b) refl
  where
    go : (t : Bool) → leb a b ≡ t → not (leb a b) ≡ ltb b a
    go true e = rw (e, le-ltb b a (leb-true a b e))
    go false e = rw (e, lt-ltb b a (leb-false a b e))

not-and : (a b : Bool) → not (a and b) ≡ (not a or not b)
not-and true b = refl
not-and false b = refl

pub or_assoc : (a b c : Bool) → ((a or b) or c) ≡ (a or b or c)
or_assoc true b c = refl
or_assoc false b c = refl

pub pick_same {ℓ} : {A : Type ℓ} (b : Bool) (x : A) → pick b x x ≡ x
pick_same true x = refl
pick_same false x = refl

-- a number that is not one of a to b lies below or above
pub outside : (a b n : ℕ) → not (leb a n and leb n b) ≡ (ltb n a or ltb b n)
outside a b n = rw (← not-leb a n, ← not-leb n b) (not-and (leb a n) (leb n b))
