use Rattle.std.proofs.Common.{rules}
use Rattle.records.proofs.Rows.{freshens}
use Rattle.records.proofs.fresh.Goals as goal

pub returns-then-i-records : goal.returns-then-i-records
returns-then-i-records c = freshens c.args.records.now c.args.h _ (search rules)
