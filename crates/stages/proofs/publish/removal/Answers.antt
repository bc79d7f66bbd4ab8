use mathlib.Core.Path.{◌∙◌}
use Rattle.rules.specs.Stages.{stage_does}
use Rattle.rows.specs.Rows.{tables}
use Rattle.stages.proofs.Laws.{at}
use Rattle.stages.proofs.publish.removal.Goals as goal

pub returns-in-19 : goal.returns-in-19
unfolding stage_does
returns-in-19 c = let s = c.args.s.now in λ n d ts ms. c.publish.ensures d ts s.entries.now s.values.now ms ∙ at 19 n s.z (tables s.z d ts s.chunks.now s.entries.now s.values.now ms) c.args.t c.in-19.is

pub returns-in-20 : goal.returns-in-20
unfolding stage_does
returns-in-20 c = let s = c.args.s.now in λ n d ts ms. c.swap.ensures d ts s.chunks.now s.values.now ms ∙ at 20 n s.z (tables s.z d ts s.chunks.now s.entries.now s.values.now ms) c.args.t c.in-20.is
