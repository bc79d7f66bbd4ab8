use mathlib.Core.List.{append_assoc}
use Rattle.std.proofs.Common.{rules}
use Rattle.script.proofs.Putting.{puts-more, puts-same}
use Rattle.script.proofs.tables.chunk_line.Goals as goal

pub returns : goal.returns
returns c = puts-same (puts-more c.chunk_begins.ensures (puts-more c.field.ensures (puts-more c.perhaps.ensures (puts-more c.perhaps-2.ensures c.last.ensures)))) (search (rules, append_assoc))
