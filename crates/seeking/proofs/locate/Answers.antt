use Rattle.std.proofs.Common.{rules}
use Rattle.seeking.proofs.locate.Goals as goal

pub returns : goal.returns
returns c = λ ts es vs ms. rw (← c.locate.ensures ts es vs ms) c.moves.ensures
