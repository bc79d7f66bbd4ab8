use mathlib.Core.List.{append_assoc}
use Rattle.std.proofs.Common.{rules}
use Rattle.script.proofs.Putting.{puts-more, puts-same}
use Rattle.script.proofs.tables.directory_lines.Goals as goal

pub returns : goal.returns
returns c = puts-same (puts-more c.last.ensures c.rebalance_line.ensures) (search (rules, append_assoc))
