use Rattle.indexing.proofs.Laws.{Emptying}
use Rattle.indexing.proofs.empty_from.Given as goal

abbrev pub invariant-loop-i : goal.invariant-loop-i
invariant-loop-i l = Emptying l.fn.z.chunks l.initial.directory l.directory l.from l.i
