use mathlib.Core.List.{append_assoc}
use Rattle.std.proofs.Common.{rules}
use Rattle.script.proofs.Putting.{puts-more, puts-same}
use Rattle.script.proofs.tables.entry_line.Goals as goal

pub returns : goal.returns
returns c = puts-same (puts-more c.field.ensures (puts-more c.field-2.ensures (puts-more c.field-3.ensures (puts-more c.perhaps.ensures (puts-more c.perhaps-2.ensures c.put.ensures.put))))) (search (rules, append_assoc))
