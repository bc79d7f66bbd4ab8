use Prim.Native.Nat.{◌+◌, ◌≤◌}
use mathlib.Core.Path.{sym, ◌∙◌}
use native.Mathlib.Omega.{arith}
use lib.ListN.{length, set, length-set}
use Rattle.making.proofs.Clearing.{other-next, other_none}
use Rattle.making.proofs.every_other.Goals as goal

pub loop-i-preserved : goal.loop-i-preserved
loop-i-preserved c = sym (other-next c.args.v c.loop-i.i c.loop-i.words) ∙ c.loop-i.invariant

pub returns : goal.returns
returns c = sym (other_none c.args.v c.loop-i.i c.loop-i.words (omega arith)) ∙ c.loop-i.invariant

pub returns-2 : goal.returns-2
returns-2 c =
    let past : length (set c.loop-i.words c.loop-i.i c.args.v) ≤ c.loop-i.i + 2 = rw length-set (omega arith) in
    sym (other_none c.args.v (c.loop-i.i + 2) (set c.loop-i.words c.loop-i.i c.args.v) past) ∙ sym (other-next c.args.v c.loop-i.i c.loop-i.words) ∙ c.loop-i.invariant
