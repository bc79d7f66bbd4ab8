use native.Mathlib.Omega.{arith}
use Rattle.copying.proofs.Laws.{along-next, along-end}
use Rattle.copying.proofs.fill.Goals as goal

pub loop-n-preserved : goal.loop-n-preserved
loop-n-preserved c = along-next _ _ _ _ _ _ _ _ c.loop-n.invariant c.loop-n-test.true _ _ c.in-Some.ensures.0 c.in-Some.ensures.2 c.requires.other (omega (arith, c.requires.fits)) _ c.copied-row.ensures _ c.put_entry.ensures

pub returns : goal.returns
returns c = along-end _ _ _ _ _ _ _ _ c.loop-n.invariant c.loop-n-test.false
