use Prim.Native.Nat.{◌*◌}
use Rattle.rows.specs.Rows.{entry_rows}
use Rattle.copying.proofs.Laws.{Along}
use Rattle.copying.proofs.fill.Given as goal

abbrev pub invariant-loop-n : goal.invariant-loop-n
invariant-loop-n l = Along l.z (entry_rows (l.z.chunks * l.z.entries) l.initial.entries) (entry_rows (l.z.chunks * l.z.entries) l.entries) l.into l.fn.from l.at l.many l.n
