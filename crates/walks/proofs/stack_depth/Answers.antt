use native.Mathlib.Omega.{arith}
use Rattle.walks.proofs.Laws.{depth-here, depth-next, depth-done}
use Rattle.walks.proofs.stack_depth.Goals as goal

pub returns-then-z-e : goal.returns-then-z-e
returns-then-z-e c = (omega (arith, c.loop-i.invariant, depth-here c.args.z c.args.tasks.now c.args.n c.requires.0 _ c.loop-i-test.true _ c.stack_at-e.ensures c.if-z-e.true), omega arith)

pub loop-i-preserved : goal.loop-i-preserved
loop-i-preserved c = omega (arith, c.loop-i.invariant, depth-next c.args.z c.args.tasks.now c.args.n c.requires.0 _ c.loop-i-test.true _ c.stack_at-e.ensures c.if-z-e.false)

pub returns : goal.returns
returns c = (omega (arith, c.loop-i.invariant, c.loop-i-test.false, depth-done c.args.z c.args.tasks.now c.args.n c.requires.0 c.loop-i.i c.loop-i-test.false), omega arith)
