use Rattle.taking.proofs.Rows.{going_more, going_done}
use Rattle.taking.proofs.Left.strike_named.Goals as goal

pub loop-c-preserved : goal.loop-c-preserved
loop-c-preserved c = going_more _ _ _ _ c.requires _ _ _ c.loop-c-test.true _ c.chunk_row-x.ensures _ c.first_number-first.ensures.0 c.loop-c.invariant c.strike_rows.ensures

pub returns : goal.returns
returns c = going_done c.args.z c.args.entries.now c.args.self.now.words _ _ c.loop-c-test.false c.loop-c.invariant
