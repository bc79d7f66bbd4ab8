-- A stage by its number.
use Prim.Native.Nat.{ℕ}
use mathlib.Core.Path.{◌≡◌, sym, ap}
use Rattle.rules.specs.declared.Sizes.{Sizes}
use Rattle.rules.specs.declared.Task.{Task}
use Rattle.rules.specs.Tables.{Tables}
use Rattle.rules.specs.Stages.{stage_does, decide}

pub at : (n i : ℕ) (z : Sizes) (s : Tables) (t : Task) → t.stage ≡ n → stage_does n i z s t ≡ decide z s i t
at n i z s t e = ap (λ (m : ℕ). stage_does m i z s t) (sym e)
