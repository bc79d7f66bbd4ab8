use Rattle.taking.proofs.Laws.{strikes}
use Rattle.taking.proofs.Left.strike.Goals as goal

pub returns : goal.returns
returns c = let n = c.bit_of-n.ensures in strikes c.args.self.now.words c.told-self c.args.h.0 c.bit_of-n.result n.0 n.1 n.2
