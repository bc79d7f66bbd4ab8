use mathlib.Core.Path.{◌∙◌}
use native.Mathlib.Omega.{arith}
use Rattle.rules.specs.Stages.{stage_does}
use Rattle.rows.specs.Rows.{tables}
use Rattle.stages.proofs.Laws.{at}
use Rattle.stages.proofs.publish.absence.Goals as goal

pub returns-in-13 : goal.returns-in-13
unfolding stage_does
returns-in-13 c = let s = c.args.s.now in λ n d ts vs ms. c.publish.ensures d ts s.entries.now vs ms ∙ at 13 n s.z (tables s.z d ts s.chunks.now s.entries.now vs ms) c.args.t c.in-13.is

pub returns-in-14 : goal.returns-in-14
unfolding stage_does
returns-in-14 c = let s = c.args.s.now in λ n d ts vs ms. c.swap.ensures d ts s.chunks.now vs ms ∙ at 14 n s.z (tables s.z d ts s.chunks.now s.entries.now vs ms) c.args.t c.in-14.is

pub returns-in_default : goal.returns-in_default
unfolding stage_does
returns-in_default c = let s = c.args.s.now in λ n d ts vs ms. c.end_absent.ensures s.z (tables s.z d ts s.chunks.now s.entries.now vs ms) ∙ at 15 n s.z (tables s.z d ts s.chunks.now s.entries.now vs ms) c.args.t (omega arith)
