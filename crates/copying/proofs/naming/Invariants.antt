use Prim.Native.Nat.{◌*◌}
use mathlib.Core.Path.{◌≡◌}
use Rattle.rules.specs.Rebalance.{naming_from}
use Rattle.rows.specs.Rows.{entry_rows}
use Rattle.copying.specs.Copied.{naming_at}
use Rattle.copying.proofs.naming.Given as goal

abbrev pub invariant-loop-left : goal.invariant-loop-left
invariant-loop-left l = naming_at l.z (entry_rows (l.z.chunks * l.z.entries) l.entries) l.from ≡ naming_from l.z (entry_rows (l.z.chunks * l.z.entries) l.entries) l.from.chunk l.left l.at
