use mathlib.Core.Path.{sym, ◌∙◌}
use native.Mathlib.Omega.{arith}
use Rattle.walks.proofs.Laws.{find-spent, find-out, find-here, find-next}
use Rattle.walks.proofs.find.Goals as goal

pub returns-then-z-at : goal.returns-then-z-at
returns-then-z-at c = (sym (c.loop.invariant ∙ find-out _ _ _ _ _ _ c.if-z-at.true), tt)

pub returns-then-x-k : goal.returns-then-x-k
returns-then-x-k c = (sym (c.loop.invariant ∙ find-here _ _ _ _ _ _ (omega arith) (omega arith) _ c.entry_at-x.ensures c.if-x-k.true), omega arith)

pub loop-preserved : goal.loop-preserved
loop-preserved c = c.loop.invariant ∙ find-next _ _ _ _ _ _ _ (omega arith) (omega arith) _ c.entry_at-x.ensures c.if-x-k.false

pub returns : goal.returns
returns c = (sym (c.loop.invariant ∙ find-spent _ _ _ _ _ _ (omega arith)), tt)
