use Rattle.taking.proofs.Laws.{some-has, lowest-found}
use Rattle.taking.proofs.Left.lowest.Goals as goal

pub returns-in_err-word : goal.returns-in_err-word
returns-in_err-word c = absurd (some-has _ _ c.any-any.ensures c.if-any-eq0.false (rw c.in_err-word.was at c.first_with.ensures))

pub returns : goal.returns
returns c = lowest-found _ _ _ c.any-any.ensures c.if-any-eq0.false (rw c.in_ok-word.was at c.first_with.ensures)
