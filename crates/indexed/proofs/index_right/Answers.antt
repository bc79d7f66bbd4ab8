use Rattle.std.proofs.Common.{rules}
use mathlib.Core.Path.{sym, ◌∙◌}
use Rattle.indexed.proofs.Laws.{index-over}
use Rattle.indexed.proofs.index_right.Goals as goal
use Rattle.indexed.proofs.index_right.Goals.{then-many-z, else-many-z}

pub returns-else-rows_ascend : goal.returns-else-rows_ascend
returns-else-rows_ascend c = elim c.if-many-z.branch [ then-many-z w ↦ search rules | else-many-z w ↦ c.if-rows_ascend.false ∙ sym (index-over c.args.z c.args.directory.now c.args.chunks.now _ c.directory_row-d.ensures w.if-many-z.false) ]
