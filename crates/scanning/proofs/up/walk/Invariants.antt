use Prim.Native.Nat.{◌*◌, ◌-◌, ◌<◌}
use mathlib.Core.Path.{◌≡◌}
use Rattle.rules.specs.Tables.{chunk_at}
use Rattle.rules.specs.Walks.{locate_from, present_from}
use Rattle.rows.specs.Rows.{directory_of, chunk_rows, entry_rows}
use Rattle.scanning.proofs.up.walk.Given as goal

abbrev pub invariant-loop : goal.invariant-loop
invariant-loop l = (locate_from l.z (chunk_rows l.z.chunks l.chart.chunks.now) l.z.chunks (directory_of l.chart.directory.now).first l.from ≡ l.at) × (l.at.0 < l.z.chunks) × (present_from l.z (entry_rows (l.z.chunks * l.z.entries) l.entries) l.marks l.at l.from l.to l.z.entries (chunk_at (chunk_rows l.z.chunks l.chart.chunks.now) l.at).head ≡ present_from l.z (entry_rows (l.z.chunks * l.z.entries) l.entries) l.marks l.at l.from l.to (l.z.entries - l.counter) l.e)

abbrev pub invariant-walk : goal.invariant-walk
invariant-walk l = (locate_from l.z (chunk_rows l.z.chunks l.chart.chunks.now) l.z.chunks (directory_of l.chart.directory.now).first l.from ≡ locate_from l.z (chunk_rows l.z.chunks l.chart.chunks.now) l.left l.at l.from) × (l.at.0 < l.z.chunks)

abbrev pub decreases-walk : goal.decreases-walk
decreases-walk l = l.left
