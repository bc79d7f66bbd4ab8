use Rattle.std.proofs.Common.{rules}
use Rattle.records.proofs.Rows.{stores}
use Rattle.records.proofs.store.Goals as goal

pub returns-then-i-records : goal.returns-then-i-records
returns-then-i-records c = stores c.args.records.now c.args.h c.args.v _ (search rules) _ (search rules)
