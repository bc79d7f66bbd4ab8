use mathlib.Core.List.{append_assoc}
use Rattle.std.proofs.Common.{rules}
use Rattle.script.proofs.Putting.{puts-more, puts-same}
use Rattle.script.proofs.tables.task_holds.Goals as goal

pub returns : goal.returns
returns c = puts-same (puts-more c.perhaps.ensures (puts-more c.perhaps-2.ensures (puts-more c.perhaps-3.ensures (puts-more c.perhaps-4.ensures (puts-more c.field.ensures c.last.ensures))))) (search (rules, append_assoc))
