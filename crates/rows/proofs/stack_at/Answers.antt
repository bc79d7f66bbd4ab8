use mathlib.Core.Path.{sym}
use Rattle.rows.proofs.Layouts.{stack-read}
use Rattle.rows.proofs.stack_at.Goals as goal

pub returns : goal.returns
returns c = rw c.stack_number-at.ensures.0 (sym (stack-read c.args.z c.args.tasks.now c.args.n c.args.i c.requires.task c.requires.entry))
