use mathlib.Core.Path.{sym, ◌∙◌}
use native.Mathlib.Omega.{arith}
use borrow.Author.Tests.{eqb-true, eqb-false}
use Rattle.listed.proofs.Lists.{linked-spent, linked-past, linked-here, linked-next}
use Rattle.shape.proofs.tasks.is_linked.Goals as goal

pub returns-then-s-at : goal.returns-then-s-at
returns-then-s-at c = sym (c.loop.invariant ∙ linked-past _ _ _ _ _ _ c.if-s-at.true)

pub returns-then-eq : goal.returns-then-eq
returns-then-eq c = sym (c.loop.invariant ∙ linked-here _ _ _ _ _ _ (omega arith) c.if-s-at.false (eqb-true _ _ (sym c.eq.ensures ∙ c.if-eq.true)))

pub loop-preserved : goal.loop-preserved
loop-preserved c = c.loop.invariant ∙ linked-next _ _ _ _ _ _ _ (omega arith) c.if-s-at.false (eqb-false _ _ (sym c.eq.ensures ∙ c.if-eq.false)) _ c.entry_at.ensures

pub returns : goal.returns
returns c = sym (c.loop.invariant ∙ linked-spent _ _ _ _ _ _ (omega arith))
