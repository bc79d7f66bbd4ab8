use Rattle.rows.proofs.Layouts.{stack-put}
use Rattle.rows.proofs.put_stack_at.Goals as goal

pub returns : goal.returns
returns c = let at = c.stack_number-at.ensures.0 in rw at (stack-put _ _ _ _ _ c.requires)
