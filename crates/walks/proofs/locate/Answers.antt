use mathlib.Core.Path.{sym, ap, ◌∙◌}
use native.Mathlib.Omega.{arith}
use Rattle.rules.specs.declared.Chunk.{Chunk}
use Rattle.walks.proofs.Laws.{locate-spent, locate-out, locate-above, locate-next}
use Rattle.walks.proofs.locate.Goals as goal

pub returns-then-z-next : goal.returns-then-z-next
returns-then-z-next c = sym (c.loop.invariant.0 ∙ locate-out _ _ _ _ c.loop.invariant.1 _ _ c.if-z-next.true)

pub returns-then-k-x : goal.returns-then-k-x
returns-then-k-x c = sym (c.loop.invariant.0 ∙ locate-above _ _ _ _ c.loop.invariant.1 _ _ (omega arith) _ c.chunk_at-x.ensures c.if-k-x.true)

pub loop-preserved : goal.loop-preserved
loop-preserved c = (c.loop.invariant.0 ∙ locate-next _ _ _ _ c.loop.invariant.1 _ _ _ (omega arith) (omega arith) _ c.chunk_at-x.ensures c.if-k-x.false, ap (λ (x : Chunk). x.next) c.chunk_at-x.ensures)

pub returns : goal.returns
returns c = sym (c.loop.invariant.0 ∙ locate-spent _ _ _ _ c.loop.invariant.1 _ _ (omega arith))
