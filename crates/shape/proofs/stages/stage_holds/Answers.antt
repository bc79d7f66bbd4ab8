use mathlib.Core.Path.{refl, sym}
use lib.ListN.{get_or-eq_default}
use Rattle.rules.specs.Shape.{stage_list}
use Rattle.shape.proofs.Holds.{table-listed}
use Rattle.shape.proofs.stages.stage_holds.Goals as goal

pub returns-then-i-lt24 : goal.returns-then-i-lt24
returns-then-i-lt24 c = table-listed c.args.stage

pub returns-else-i-lt24 : goal.returns-else-i-lt24
returns-else-i-lt24 c = record { row = sym (get_or-eq_default stage_list _ c.if-i-lt24.false); paired = refl }
