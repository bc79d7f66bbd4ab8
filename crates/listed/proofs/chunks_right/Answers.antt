use Rattle.std.proofs.Common.{rules}
use Rattle.listed.proofs.All.{all-rows}
use Rattle.listed.proofs.chunks_right.Goals as goal

pub returns : goal.returns
returns c = all-rows _ _ _ _ c.all.ensures.ran _ _ _ (cc) (λ i b q h. search rules)
