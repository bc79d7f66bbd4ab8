use mathlib.Core.Path.{sym, ◌∙◌}
use native.Mathlib.Omega.{arith}
use Rattle.walks.proofs.Laws.{place-spent, place_out, place_here, place-next}
use Rattle.walks.proofs.place.Goals as goal

pub returns-then-z-at : goal.returns-then-z-at
returns-then-z-at c = (sym (c.loop.invariant.0 ∙ place_out _ _ _ _ _ _ _ c.if-z-at.true), c.loop.invariant.1)

pub returns-then-k-x : goal.returns-then-k-x
returns-then-k-x c = (sym (c.loop.invariant.0 ∙ place_here _ _ _ _ _ _ _ (omega arith) _ c.entry_at-x.ensures c.if-k-x.true), c.loop.invariant.1)

pub loop-preserved : goal.loop-preserved
loop-preserved c = (c.loop.invariant.0 ∙ place-next _ _ _ _ _ _ _ _ (omega arith) (omega arith) _ c.entry_at-x.ensures c.if-k-x.false, omega arith)

pub returns : goal.returns
returns c = (sym (c.loop.invariant.0 ∙ place-spent _ _ _ _ _ _ _ (omega arith)), c.loop.invariant.1)
