use Rattle.script.proofs.tables.stack_line.Goals.{else-loop-e-test, then-loop-e-test+then-e}
use mathlib.Core.List.{append_assoc}
use Rattle.std.proofs.Common.{rules}
use Rattle.script.proofs.Putting.{puts-more, puts-same}
use Rattle.script.proofs.Stacks.{stacked-end, stacked-none, stacked-next}
use Rattle.script.proofs.tables.stack_line.Goals as goal

pub loop-e-preserved : goal.loop-e-preserved
loop-e-preserved c = λ after next rest.
    c.loop-e.invariant after next (rw (stacked-next c.args.words.now c.loop-e.e-index c.loop-e-test.true c.if-e.false) (puts-same (puts-more c.stack_entry.ensures rest) (search (rules, append_assoc))))

pub returns : goal.returns
returns c =
    elim c.loop-e-test.branch [
      | else-loop-e-test w ↦ c.loop-e.invariant _ _ (rw (stacked-end c.args.words.now c.loop-e.e-index w.loop-e-test.false) c.stack_ends.ensures)
      | then-loop-e-test+then-e w ↦ c.loop-e.invariant _ _ (rw (stacked-none c.args.words.now c.loop-e.e-index w.loop-e-test.true w.if-e.true) c.stack_ends.ensures)
    ]
