use mathlib.Core.Path.{refl, sym, ◌∙◌}
use native.Mathlib.Nat.{sub-zero}
use native.Mathlib.Omega.{arith}
use borrow.Author.Tests.{ltb-true}
use Rattle.rules.proofs.Tests.{and_left}
use Rattle.walks.proofs.Laws.{locate-spent}
use Rattle.scanning.proofs.Laws.{on-next, on-stop, present-spent, present-out, present-here, present-next}
use Rattle.scanning.proofs.up.walk.Goals.{else-left-gt0-via-then-left-gt0+else-goes_on, else-left-gt0-via-else-left-gt0}
use Rattle.scanning.proofs.up.walk.Goals as goal

pub walk-preserved : goal.walk-preserved
walk-preserved c = let on = sym c.goes_on.ensures ∙ c.if-goes_on.true in (c.walk.invariant.0 ∙ on-next _ _ _ _ c.chunk_at-x.ensures _ _ _ (omega arith) on, ltb-true _ _ (and_left _ _ on))

pub loop-init : goal.loop-init
loop-init c = let x = c.chunk_at-x in let walk = c.walk in elim c.else-left-gt0.branch [ else-left-gt0-via-then-left-gt0+else-goes_on w ↦ (walk.invariant.0 ∙ on-stop _ _ _ _ x.ensures _ _ (sym w.goes_on.ensures ∙ w.if-goes_on.false), walk.invariant.1, rw (← x.ensures, sub-zero)) | else-left-gt0-via-else-left-gt0 w ↦ (walk.invariant.0 ∙ locate-spent _ _ _ _ refl _ _ w.if-left-gt0.false, walk.invariant.1, rw (← x.ensures, sub-zero)) ]

pub loop-preserved : goal.loop-preserved
loop-preserved c = let turn = c.loop in (turn.invariant.0, turn.invariant.1, turn.invariant.2 ∙ present-next _ _ _ _ _ _ _ _ _ (omega arith) (omega arith) _ c.entry_at-y.ensures (sym c.gives.ensures ∙ c.if-gives.false))

pub returns-then-z-e : goal.returns-then-z-e
returns-then-z-e c = let turn = c.loop in λ ts vs. record { chunk = sym turn.invariant.0; entry = (rw turn.invariant.0 (sym (turn.invariant.2 ∙ present-out _ _ _ _ _ _ _ _ c.if-z-e.true)), tt); numbered = turn.invariant.1 }

pub returns-then-gives : goal.returns-then-gives
returns-then-gives c = let turn = c.loop in λ ts vs. record { chunk = sym turn.invariant.0; entry = (rw turn.invariant.0 (sym (turn.invariant.2 ∙ present-here _ _ _ _ _ _ _ _ (omega arith) (omega arith) _ c.entry_at-y.ensures (sym c.gives.ensures ∙ c.if-gives.true))), omega arith); numbered = turn.invariant.1 }

pub returns-after-loop : goal.returns-after-loop
returns-after-loop c = let turn = c.loop in λ ts vs. record { chunk = sym turn.invariant.0; entry = (rw turn.invariant.0 (sym (turn.invariant.2 ∙ present-spent _ _ _ _ _ _ _ _ (omega arith))), tt); numbered = turn.invariant.1 }
