use mathlib.Core.Path.{refl, ◌∙◌}
use native.Mathlib.Omega.{arith}
use Rattle.copying.proofs.Laws.{naming-spent, naming-out, naming-here, naming-past}
use Rattle.copying.proofs.naming.Goals as goal

pub returns-then-z-at : goal.returns-then-z-at
returns-then-z-at c = c.loop-left.invariant ∙ naming-out _ _ _ _ _ c.if-z-at.true

pub returns-then-x-z : goal.returns-then-x-z
returns-then-x-z c = (c.loop-left.invariant ∙ naming-here _ _ _ _ _ _ (omega arith) (omega arith) _ c.entry_at-x.ensures c.if-x-z.true, omega arith, refl, omega arith, c.entry_at-x.ensures, c.if-x-z.true, refl)

pub loop-left-preserved : goal.loop-left-preserved
loop-left-preserved c = c.loop-left.invariant ∙ naming-past _ _ _ _ _ _ (omega arith) (omega arith) _ c.entry_at-x.ensures c.if-x-z.false

pub returns : goal.returns
returns c = c.loop-left.invariant ∙ naming-spent _ _ _ _ _ (omega arith)
