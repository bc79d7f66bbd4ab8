use mathlib.Core.List.{append_assoc}
use Rattle.std.proofs.Common.{rules}
use Rattle.script.proofs.Putting.{puts-more, puts-same}
use Rattle.script.proofs.tables.task_line.Goals as goal

pub returns : goal.returns
returns c = puts-same (puts-more c.task_work.ensures c.task_holds.ensures) (search (rules, append_assoc))
