use Rattle.std.proofs.Common.{rules}
use Rattle.listed.proofs.All.{all-of}
use Rattle.listed.proofs.few_empty.Goals as goal

pub returns : goal.returns
returns c = all-of _ _ _ _ c.all.ensures.ran _ _ _ (cc) (λ i q k. search rules)
