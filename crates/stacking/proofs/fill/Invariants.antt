use Prim.Native.Nat.{◌*◌, ◌-◌}
use Rattle.rules.specs.Walks.{within_from}
use Rattle.rows.specs.Rows.{entry_rows}
use Rattle.stacking.proofs.Filling.{Filling}
use Rattle.stacking.proofs.fill.Given as goal

abbrev pub invariant-loop : goal.invariant-loop
invariant-loop l = Filling l.z l.initial.tasks l.tasks l.n l.i (l.z.entries - l.counter) (within_from l.z (entry_rows (l.z.chunks * l.z.entries) l.entries) l.c l.from l.to l.z.entries l.fn.head) (within_from l.z (entry_rows (l.z.chunks * l.z.entries) l.entries) l.c l.from l.to (l.z.entries - l.counter) l.at)
