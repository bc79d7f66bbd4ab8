use mathlib.Core.Path.{◌∙◌}
use native.Mathlib.Omega.{arith}
use Rattle.making.proofs.Filling.{tasks-kept, stacks-empty}
use Rattle.making.proofs.clear_tasks.Goals as goal

pub returns : goal.returns
returns c =
    let z = c.args.z in
    (tasks-kept z.tasks _ _ _ (omega arith) c.fill.ensures ∙ c.idle_tasks.ensures.0, stacks-empty z _ _ (omega arith) c.fill.ensures)
