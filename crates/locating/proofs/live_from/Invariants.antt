use mathlib.Core.Path.{◌≡◌}
use Rattle.rows.specs.Rows.{chunk_rows}
use Rattle.locating.specs.Charted.{last_live}
use Rattle.locating.proofs.live_from.Given as goal

abbrev pub invariant-loop-i : goal.invariant-loop-i
invariant-loop-i l = last_live l.directory (chunk_rows l.z.chunks l.chunks) l.many ≡ last_live l.directory (chunk_rows l.z.chunks l.chunks) l.i
