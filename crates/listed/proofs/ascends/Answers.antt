use Prim.Native.Nat.{◌-◌, ◌+◌}
use mathlib.Core.Path.{sym, ◌∙◌}
use native.Mathlib.Omega.{arith}
use borrow.Author.Tests.{eqb-true}
use Rattle.listed.proofs.Lists.{ascends-spent, ascends_none, ascends-unused, ascends-falls, ascends-next}
use Rattle.listed.proofs.ascends.Goals as goal

pub returns-then-eq : goal.returns-then-eq
returns-then-eq c = sym (c.loop.invariant ∙ ascends_none _ _ _ _ _ _ _ (eqb-true _ _ (sym c.eq.ensures ∙ c.if-eq.true)))

pub returns-then-used-at : goal.returns-then-used-at
returns-then-used-at c = sym (c.loop.invariant ∙ ascends-unused _ _ _ _ _ _ _ (sym c.eq.ensures ∙ c.if-eq.false) c.if-used-at.true)

pub returns-then-not-follows : goal.returns-then-not-follows
returns-then-not-follows c = sym (c.loop.invariant ∙ ascends-falls _ _ _ _ _ _ _ (c.args.s.now.z.entries - (c.loop.counter + 1)) (sym c.eq.ensures ∙ c.if-eq.false) c.if-used-at.false (omega arith) _ c.entry_at-x.ensures (sym c.follows.ensures ∙ c.if-not-follows.true))

pub loop-preserved : goal.loop-preserved
loop-preserved c = c.loop.invariant ∙ ascends-next _ _ _ _ _ _ _ _ (sym c.eq.ensures ∙ c.if-eq.false) c.if-used-at.false (omega arith) _ c.entry_at-x.ensures (sym c.follows.ensures ∙ c.if-not-follows.false)

pub returns : goal.returns
returns c = c.eq-2.ensures ∙ sym (c.loop.invariant ∙ ascends-spent _ _ _ _ _ _ _ (omega arith))
