use Rattle.rows.proofs.Laws.{set_past}
use Rattle.rows.proofs.put_chunk.Goals as goal

pub returns-else-i-z : goal.returns-else-i-z
returns-else-i-z c = set_past _ _ _ _ c.if-i-z.false
