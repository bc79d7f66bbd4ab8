use Prim.Native.Nat.{◌-◌, ◌+◌}
use mathlib.Core.Path.{sym, ◌∙◌}
use native.Mathlib.Omega.{arith}
use Rattle.listed.proofs.Tests.{and_is}
use Rattle.listed.proofs.Chain.{chain-spent, chain-past, chain-breaks, chain-ends, chain_next}
use Rattle.listed.proofs.chain_count.Goals as goal

pub returns-then-s-at : goal.returns-then-s-at
returns-then-s-at c = sym (c.loop-n.invariant ∙ chain-past _ _ _ _ _ _ c.if-s-at.true)

pub returns-then-not-x-follows : goal.returns-then-not-x-follows
returns-then-not-x-follows c = sym (c.loop-n.invariant ∙ chain-breaks _ _ _ _ _ _ c.if-s-at.false _ c.chunk_at-x.ensures (rw (← c.follows.ensures, ← and_is) (c.if-not-x-follows.true)))

pub returns-then-eq : goal.returns-then-eq
returns-then-eq c = sym (c.loop-n.invariant ∙ chain-ends _ _ _ _ _ _ (c.args.s.now.z.chunks - (c.loop-n.n + 1)) (omega arith) c.if-s-at.false _ c.chunk_at-x.ensures (rw (← c.follows.ensures, ← and_is) (c.if-not-x-follows.false)) (sym c.eq.ensures ∙ c.if-eq.true))

pub loop-n-preserved : goal.loop-n-preserved
loop-n-preserved c = c.loop-n.invariant ∙ chain_next _ _ _ _ _ _ _ (omega arith) c.if-s-at.false _ c.chunk_at-x.ensures (rw (← c.follows.ensures, ← and_is) (c.if-not-x-follows.false)) (sym c.eq.ensures ∙ c.if-eq.false)

pub returns : goal.returns
returns c = sym (c.loop-n.invariant ∙ chain-spent _ _ _ _ _ _ (omega arith))
