use Rattle.taking.specs.Left.{Joined}
use Rattle.taking.proofs.Left.any.Given as goal

abbrev pub invariant-loop-w : goal.invariant-loop-w
invariant-loop-w l = Joined l.self.words l.w-index l.any
