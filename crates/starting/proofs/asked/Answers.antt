use Rattle.std.proofs.Common.{rules}
use Rattle.starting.proofs.asked.Goals as goal

pub returns : goal.returns
returns c = λ z s. rw (c.started.ensures z s) (search rules)
