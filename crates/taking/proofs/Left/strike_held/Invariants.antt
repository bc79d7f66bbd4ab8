use Prim.Native.Nat.{◌-◌}
use Rattle.rules.specs.Words.{handle_no}
use Rattle.rules.specs.Walks.{held_in}
use Rattle.rows.specs.Rows.{rows_from, task_of, task_rows}
use Rattle.taking.proofs.Rows.{Striking}
use Rattle.taking.proofs.Left.strike_held.Given as goal

abbrev pub invariant-loop-task : goal.invariant-loop-task
invariant-loop-task l = Striking l.initial.self.words l.self.words (λ h. held_in (task_rows l.n l.tasks) (handle_no h)) (λ h. held_in (rows_from (task_of l.tasks) l.task (l.n - l.task)) (handle_no h))
