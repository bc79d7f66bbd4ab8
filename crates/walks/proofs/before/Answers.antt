use mathlib.Core.Path.{refl, sym, ap, ◌∙◌}
use native.Mathlib.Omega.{arith}
use Rattle.rules.specs.declared.Chunk.{Chunk}
use Rattle.walks.proofs.Laws.{before-spent, before_here, before-out, before-next}
use Rattle.walks.proofs.before.Goals as goal

pub returns-then-eq : goal.returns-then-eq
returns-then-eq c = (sym (c.loop.invariant.0 ∙ before_here _ _ _ _ (ap (λ (x : Chunk). x.next) c.chunk_at.ensures) _ _ (omega arith) (sym c.eq.ensures ∙ c.if-eq.true)), c.loop.invariant.1)

pub returns-then-z-next : goal.returns-then-z-next
returns-then-z-next c = (sym (c.loop.invariant.0 ∙ before-out _ _ _ _ (ap (λ (x : Chunk). x.next) c.chunk_at.ensures) _ _ (sym c.eq.ensures ∙ c.if-eq.false) c.if-z-next.true), λ h. tt)

pub loop-preserved : goal.loop-preserved
loop-preserved c = (c.loop.invariant.0 ∙ before-next _ _ _ _ (ap (λ (x : Chunk). x.next) c.chunk_at.ensures) _ _ _ (omega arith) (sym c.eq.ensures ∙ c.if-eq.false) c.if-z-next.false, λ h. c.if-z-next.false)

pub returns : goal.returns
returns c = (sym (c.loop.invariant.0 ∙ before-spent _ _ _ _ refl _ _ (omega arith)), λ h. tt)
