-- What the laws of lists speak of.
use Rattle.std.specs.Prelude.{ℕ, ◌≡◌, Bool, true}
use mathlib.Core.List.{List, [], ◌∷◌, Memᴰ}
use Rattle.rules.specs.Words.{◌and◌}

module _ {A : Type 0} where
  -- it holds of each member
  abbrev pub Every : (A → Type 0) → List A → Type 0
  Every P l = (x : A) → Memᴰ x l → P x

  -- no two members have one number
  unfoldable pub Apart : (A → ℕ) → List A → Type 0
  Apart num [] = Unit {0}
  Apart num (x ∷ l) = Every (λ y. num x ≡ num y → ⊥) l × Apart num l

  unfoldable pub all : (A → Bool) → List A → Bool
  all p [] = true
  all p (x ∷ l) = let on = all p l in p x and on
