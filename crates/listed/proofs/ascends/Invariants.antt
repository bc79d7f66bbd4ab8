use Prim.Native.Nat.{◌-◌}
use mathlib.Core.Path.{◌≡◌}
use Rattle.rules.specs.Shape.{ascends_from}
use Rattle.rows.specs.Seen.{seen}
use Rattle.listed.specs.Parts.{least}
use Rattle.listed.proofs.ascends.Given as goal

abbrev pub invariant-loop : goal.invariant-loop
invariant-loop l = let s = l.s in
    ascends_from s.z (seen s).entries l.c l.used s.z.entries l.fn.head 0 ≡ ascends_from s.z (seen s).entries l.c l.used (s.z.entries - l.counter) l.at (least l.last)
