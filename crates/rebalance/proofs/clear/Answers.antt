use mathlib.Core.Path.{sym, ◌∙◌}
use native.Mathlib.Omega.{arith}
use Rattle.rebalance.proofs.Laws.{cleared-all, cleared-next}
use Rattle.rebalance.proofs.clear.Goals as goal

pub loop-n-preserved : goal.loop-n-preserved
loop-n-preserved c = c.loop-n.invariant ∙ cleared-next c.args.z _ _ _ c.args.c (omega arith) _ c.empty_entry.ensures _ c.put_entry.ensures

pub returns : goal.returns
returns c = sym (c.loop-n.invariant ∙ cleared-all _ _ _ _ (omega arith))
