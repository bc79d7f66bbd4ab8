use mathlib.Core.Path.{sym, ap, ◌∙◌}
use native.Mathlib.Nat.{sub-zero}
use native.Mathlib.Omega.{arith}
use Rattle.rules.specs.declared.Chunk.{Chunk}
use Rattle.rules.specs.Tables.{stack}
use Rattle.rows.specs.Seen.{seen}
use Rattle.rows.proofs.Laws.{length-rows}
use Rattle.stacked.proofs.Rises.{beside-rises}
use Rattle.stacked.proofs.Words.{stack-long, beside-spent, beside-past, beside-named, beside-on}
use Rattle.stacked.proofs.beside.Goals.{then-named, else-named}
use Rattle.stacked.proofs.beside.Goals as goal

pub loop-init : goal.loop-init
loop-init c = let s = c.args.s.now in
    (rw sub-zero (beside-rises s.z (seen s) c.args.c (length-rows _ 0 _) c.requires.2 c.requires.1 _ _ (omega arith) (ap (λ (x : Chunk). x.head) c.chunk_at.ensures)), omega arith)

pub returns-then-s-at : goal.returns-then-s-at
returns-then-s-at c = sym (c.loop.invariant.0 ∙ beside-past _ _ _ _ _ _ c.if-s-at.true ∙ sym c.none_from.ensures)

pub loop-preserved : goal.loop-preserved
loop-preserved c = let s = c.args.s.now in
    elim c.if-named.branch [ then-named w ↦ (rw w.i-is (c.loop.invariant.0 ∙ beside-named _ _ _ _ _ (stack (seen s) c.args.n) _ (stack-long s c.args.n c.requires.0) c.loop.i (omega arith) c.if-s-at.false (omega arith) _ c.stack_at-e.ensures _ c.entry_at-x.ensures (sym c.eq-named.ensures ∙ w.if-named.true)), omega arith) | else-named w ↦ (rw w.i-is (c.loop.invariant.0 ∙ beside-on _ _ _ _ _ (stack (seen s) c.args.n) _ (stack-long s c.args.n c.requires.0) c.loop.i (omega arith) c.if-s-at.false (omega arith) _ c.stack_at-e.ensures _ c.entry_at-x.ensures (sym c.eq-named.ensures ∙ w.if-named.false)), omega arith) ]

pub returns : goal.returns
returns c = sym (c.loop.invariant.0 ∙ beside-spent _ _ _ _ _ _ (omega arith) ∙ sym c.none_from-2.ensures)
