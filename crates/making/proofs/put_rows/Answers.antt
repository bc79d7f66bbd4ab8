use native.Mathlib.Nat.{le_antisymm}
use native.Mathlib.Omega.{arith}
use Rattle.making.proofs.Filling.{filled_more, filled-all}
use Rattle.making.proofs.put_rows.Goals as goal

pub loop-i-preserved : goal.loop-i-preserved
loop-i-preserved g c =
    let row = g.R.Row in
    (rw (c.put_fresh.ensures.0 c.args.n) (filled_more row.fresh (row.rows c.args.n c.loop-i.words) c.loop-i.i (rw (g.met.R.Row.counted c.args.n c.loop-i.words) c.loop-i-test.true) c.loop-i.invariant.0), g.met.R.Row.past_next _ _ _ _ c.loop-i.invariant.1 c.put_fresh.ensures.1)

pub returns : goal.returns
returns g c =
    let row = g.R.Row in
    (filled-all row.fresh (row.rows c.args.n c.loop-i.words) c.args.n c.loop-i.i (g.met.R.Row.counted c.args.n c.loop-i.words) (omega arith) (omega arith) c.loop-i.invariant.0, rw (le_antisymm {n = c.loop-i.i} {m = c.args.n} (omega arith) (omega arith)) at c.loop-i.invariant.1)
