use Rattle.taking.proofs.Rows.{Going}
use Rattle.taking.proofs.Left.strike_named.Given as goal

abbrev pub invariant-loop-c : goal.invariant-loop-c
invariant-loop-c l = Going l.z l.entries l.initial.self.words l.self.words l.c
