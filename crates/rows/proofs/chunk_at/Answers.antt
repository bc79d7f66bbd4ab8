use mathlib.Core.Path.{◌∙◌, sym}
use Rattle.rows.proofs.Laws.{row_read, row-past}
use Rattle.rows.proofs.chunk_at.Goals as goal

pub returns-then-i-z : goal.returns-then-i-z
returns-then-i-z c = c.chunk_row.ensures ∙ sym (row_read _ _ _ _ c.if-i-z.true)

pub returns-else-i-z : goal.returns-else-i-z
returns-else-i-z c = c.empty_chunk.ensures ∙ sym (row-past _ _ _ _ c.if-i-z.false)
