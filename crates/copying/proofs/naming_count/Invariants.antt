use Prim.Native.Nat.{◌+◌, ◌*◌, ◌≤◌}
use mathlib.Core.Path.{◌≡◌}
use lib.ListN.{length}
use Rattle.rows.specs.Rows.{entry_rows}
use Rattle.copying.specs.Copied.{naming_at}
use Rattle.copying.proofs.naming_count.Given as goal

abbrev pub invariant-loop-x : goal.invariant-loop-x
invariant-loop-x l = (length (naming_at l.z (entry_rows (l.z.chunks * l.z.entries) l.entries) l.fn.from) ≡ l.count + length (naming_at l.z (entry_rows (l.z.chunks * l.z.entries) l.entries) l.at)) × (l.count + l.at.left ≤ l.fn.from.left) × (l.at.chunk ≡ l.fn.from.chunk)

abbrev pub decreases-loop-x : goal.decreases-loop-x
decreases-loop-x l = l.at.left
