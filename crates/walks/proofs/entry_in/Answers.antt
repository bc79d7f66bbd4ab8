use mathlib.Core.Path.{◌∙◌, sym}
use Rattle.rows.proofs.Laws.{row-past}
use Rattle.walks.proofs.Laws.{row-above}
use Rattle.walks.proofs.entry_in.Goals as goal

pub returns-else-i-z : goal.returns-else-i-z
returns-else-i-z c = c.empty_entry.ensures ∙ sym (row-past _ _ _ _ (row-above _ _ _ _ c.if-i-z.false))
