use mathlib.Core.Path.{refl}
use Rattle.taking.proofs.Rows.{striking-more, striking-done, held_next, held-done}
use Rattle.taking.proofs.Left.strike_held.Goals as goal

pub loop-task-preserved : goal.loop-task-preserved
loop-task-preserved c =
    let old = striking-more _ _ _ _ _ _ _ c.loop-task.invariant c.strike.ensures (λ h b. held_next _ _ _ c.loop-task-test.true _ c.task_row-t.ensures h) in
    striking-more _ _ _ _ _ _ _ old c.strike-in-loop-task.ensures (λ h b. refl)

pub returns : goal.returns
returns c = striking-done _ _ _ _ c.loop-task.invariant (held-done _ _ _ c.loop-task-test.false)
