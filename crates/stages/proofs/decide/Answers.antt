use mathlib.Core.Path.{◌∙◌}
use mathlib.Core.Logic.{⊎_elim}
use Rattle.rules.specs.Stages.{stage_does}
use Rattle.rows.specs.Seen.{seen}
use Rattle.stages.proofs.Laws.{at}
use Rattle.stages.proofs.decide.Goals as goal

pub returns-in-0 : goal.returns-in-0
unfolding stage_does
returns-in-0 c = let s = c.args.s.now.lent in c.stays.ensures s.z (seen s) ∙ at 0 c.args.n s.z (seen s) c.args.t c.in-0.is

pub returns-in-1 : goal.returns-in-1
unfolding stage_does
returns-in-1 c =
    let s = c.args.s.now.lent in
    let located = c.locate.ensures s.tasks.now s.entries.now s.values.now s.marks.now in
    ⊎_elim (λ w. located ∙ at 1 c.args.n s.z (seen s) c.args.t w) (λ w. located ∙ at 16 c.args.n s.z (seen s) c.args.t w) c.in-1.is

pub returns-in-2 : goal.returns-in-2
unfolding stage_does
returns-in-2 c = let s = c.args.s.now.lent in c.find.ensures s.directory.now s.tasks.now s.values.now s.marks.now ∙ at 2 c.args.n s.z (seen s) c.args.t c.in-2.is

pub returns-in-3 : goal.returns-in-3
unfolding stage_does
returns-in-3 c = let s = c.args.s.now.lent in c.read.ensures s.directory.now s.tasks.now s.chunks.now s.values.now s.marks.now ∙ at 3 c.args.n s.z (seen s) c.args.t c.in-3.is

pub returns-in-4 : goal.returns-in-4
unfolding stage_does
returns-in-4 c = let s = c.args.s.now.lent in c.check.ensures s.z s.directory.now s.tasks.now s.chunks.now s.entries.now ∙ at 4 c.args.n s.z (seen s) c.args.t c.in-4.is

pub returns-in-5 : goal.returns-in-5
unfolding stage_does
returns-in-5 c = let s = c.args.s.now.lent in c.apply.ensures s.z s.directory.now s.tasks.now s.chunks.now s.entries.now ∙ at 5 c.args.n s.z (seen s) c.args.t c.in-5.is

pub returns-in-6 : goal.returns-in-6
unfolding stage_does
returns-in-6 c = let s = c.args.s.now.lent in c.take_entry.ensures s.directory.now s.tasks.now s.entries.now s.values.now s.marks.now ∙ at 6 c.args.n s.z (seen s) c.args.t c.in-6.is

pub returns-in-7 : goal.returns-in-7
unfolding stage_does
returns-in-7 c = let s = c.args.s.now.lent in c.link.ensures s.directory.now s.tasks.now s.values.now s.marks.now ∙ at 7 c.args.n s.z (seen s) c.args.t c.in-7.is

pub returns-in-8 : goal.returns-in-8
unfolding stage_does
returns-in-8 c = let s = c.args.s.now.lent in c.take_handle.ensures s.directory.now s.values.now s.marks.now ∙ at 8 c.args.n s.z (seen s) c.args.t c.in-8.is

pub returns-in-9 : goal.returns-in-9
unfolding stage_does
returns-in-9 c = let s = c.args.s.now.lent in c.write.ensures s.z (seen s) ∙ at 9 c.args.n s.z (seen s) c.args.t c.in-9.is

pub returns-in-17 : goal.returns-in-17
unfolding stage_does
returns-in-17 c = let s = c.args.s.now.lent in c.find_again.ensures s.directory.now s.tasks.now s.marks.now ∙ at 17 c.args.n s.z (seen s) c.args.t c.in-17.is

pub returns-in-18 : goal.returns-in-18
unfolding stage_does
returns-in-18 c = let s = c.args.s.now.lent in c.read_again.ensures s.directory.now s.tasks.now s.chunks.now s.marks.now ∙ at 18 c.args.n s.z (seen s) c.args.t c.in-18.is

pub returns-in-22 : goal.returns-in-22
unfolding stage_does
returns-in-22 c = let s = c.args.s.now.lent in c.scan.ensures s.tasks.now ∙ at 22 c.args.n s.z (seen s) c.args.t c.in-22.is
