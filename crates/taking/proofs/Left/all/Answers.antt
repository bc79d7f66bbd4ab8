use Rattle.taking.proofs.Laws.{all_left}
use Rattle.taking.proofs.Left.all.Goals as goal

pub returns : goal.returns
returns c = all_left
