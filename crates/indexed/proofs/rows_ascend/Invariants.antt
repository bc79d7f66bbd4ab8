use mathlib.Core.Path.{◌≡◌}
use Rattle.rules.specs.Shape.{rows_ascend}
use Rattle.rows.specs.Rows.{chunk_rows, index_of, index_rows}
use Rattle.listed.specs.Parts.{least}
use Rattle.indexed.proofs.Laws.{asked}
use Rattle.indexed.proofs.rows_ascend.Given as goal

abbrev pub invariant-loop-i : goal.invariant-loop-i
invariant-loop-i l = rows_ascend l.z (chunk_rows l.z.chunks l.chunks) l.many 0 (index_rows l.z.chunks l.directory) ≡ asked l.z (chunk_rows l.z.chunks l.chunks) (index_of l.directory) l.z.chunks l.many l.i (least l.last)
