use Prim.Native.Nat.{◌*◌, ◌-◌}
use mathlib.Core.Path.{◌≡◌}
use Rattle.rules.specs.Walks.{find_from}
use Rattle.rows.specs.Rows.{entry_rows}
use Rattle.walks.proofs.find.Given as goal

abbrev pub invariant-loop : goal.invariant-loop
invariant-loop l = find_from l.z (entry_rows (l.z.chunks * l.z.entries) l.entries) l.c l.z.entries l.fn.head l.k ≡ find_from l.z (entry_rows (l.z.chunks * l.z.entries) l.entries) l.c (l.z.entries - l.counter) l.at l.k
