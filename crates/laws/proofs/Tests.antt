-- Laws of `pick` and of tests joined by `or`, beside those that the rules bring.
use mathlib.Core.Path.{◌≡◌, refl, sym}
use mathlib.Core.Bool.{Bool, true, false, false≢true}
use Rattle.rules.specs.Words.{pick, ◌or◌}
pub use Rattle.rules.proofs.Tests.{and_left, and_right, both, or_cases, pick_same, picked-by as picked}

-- what is made of the picked one is picked of what is made of either
pub pick-of {ℓ κ} : {A : Type ℓ} {B : Type κ} (f : A → B) (b : Bool) (x y : A) → f (pick b x y) ≡ pick b (f x) (f y)
pick-of f true x y = refl
pick-of f false x y = refl

-- by how the test comes out
pub by-test {κ} : {P : Type κ} (b : Bool) → (b ≡ true → P) → (b ≡ false → P) → P
by-test true f g = f refl
by-test false f g = g refl

pub or_left : (a b : Bool) → (a or b) ≡ false → a ≡ false
or_left true b h = h
or_left false b h = refl

pub or_right : (a b : Bool) → (a or b) ≡ false → b ≡ false
or_right true b h = absurd (false≢true (sym h))
or_right false b h = h
