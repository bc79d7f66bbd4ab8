use Prim.Native.Nat.{◌-◌}
use Rattle.locating.proofs.Laws.{Halved}
use Rattle.locating.proofs.halve.Given as goal

abbrev pub invariant-loop-low : goal.invariant-loop-low
invariant-loop-low l = Halved l.directory l.many l.k l.low l.high

abbrev pub decreases-loop-low : goal.decreases-loop-low
decreases-loop-low l = l.high - l.low
