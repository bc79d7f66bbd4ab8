use mathlib.Core.Path.{◌∙◌}
use native.Mathlib.Omega.{arith}
use Rattle.rules.specs.Stages.{stage_does}
use Rattle.rows.specs.Rows.{tables}
use Rattle.stages.proofs.Laws.{at}
use Rattle.stages.proofs.publish.insertion.Goals as goal

pub returns-in-10 : goal.returns-in-10
unfolding stage_does
returns-in-10 c = let s = c.args.s.now in λ n d ts vs ms. c.publish.ensures d ts s.entries.now vs ms ∙ at 10 n s.z (tables s.z d ts s.chunks.now s.entries.now vs ms) c.args.t c.in-10.is

pub returns-in-11 : goal.returns-in-11
unfolding stage_does
returns-in-11 c = let s = c.args.s.now in λ n d ts vs ms. c.swap.ensures d ts s.chunks.now vs ms ∙ at 11 n s.z (tables s.z d ts s.chunks.now s.entries.now vs ms) c.args.t c.in-11.is

pub returns-in_default : goal.returns-in_default
unfolding stage_does
returns-in_default c = let s = c.args.s.now in λ n d ts vs ms. c.end_insertion.ensures s.z (tables s.z d ts s.chunks.now s.entries.now vs ms) ∙ at 12 n s.z (tables s.z d ts s.chunks.now s.entries.now vs ms) c.args.t (omega arith)
