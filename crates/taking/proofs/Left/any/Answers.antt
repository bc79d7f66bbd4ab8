use native.Mathlib.Omega.{arith}
use Rattle.taking.proofs.Laws.{joined-more}
use Rattle.taking.proofs.Left.any.Goals as goal

pub loop-w-preserved : goal.loop-w-preserved
loop-w-preserved c = joined-more _ _ _ (omega arith) c.loop-w.invariant
