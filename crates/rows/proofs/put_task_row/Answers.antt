use native.Mathlib.Numerals.{towards_suc}
use Rattle.rows.proofs.Layouts.{nine, ten, task-put}
use Rattle.rows.proofs.put_task_row.Goals as goal

pub returns : goal.returns
returns c = simp (towards_suc, nine, ten) (task-put c.args.words.now c.args.i c.args.x c.requires)
