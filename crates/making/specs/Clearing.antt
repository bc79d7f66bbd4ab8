-- Words of which every other one is written anew.
use Rattle.std.specs.Prelude.{ℕ, zero, suc, List, [], ◌∷◌}

-- from place n on the word there is v, the next is as it was, and so on
unfoldable pub every_other : ℕ → ℕ → List ℕ → List ℕ
every_other v n [] = []
every_other v zero (x ∷ xs) = v ∷ every_other v 1 xs
every_other v (suc n) (x ∷ xs) = x ∷ every_other v n xs
