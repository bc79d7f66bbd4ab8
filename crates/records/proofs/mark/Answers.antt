use mathlib.Core.Path.{refl}
use Rattle.records.proofs.Rows.{marks}
use Rattle.records.proofs.mark.Goals as goal

pub returns-then-i-records : goal.returns-then-i-records
returns-then-i-records c = marks c.args.records.now c.args.h _ refl _ refl
