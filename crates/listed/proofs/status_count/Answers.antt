use native.Mathlib.Omega.{arith}
use Rattle.rows.specs.Rows.{chunk_of}
use Rattle.listed.proofs.Chain.{count-end, count-one, count_none}
use Rattle.listed.proofs.status_count.Goals.{then-chunk_row-status, else-chunk_row-status}
use Rattle.listed.proofs.status_count.Goals as goal

pub loop-i-preserved : goal.loop-i-preserved
loop-i-preserved c =
    elim c.if-chunk_row-status.branch [
      | then-chunk_row-status w ↦ (omega (arith, c.loop-i.invariant.0, w.n-is, count-one c.args.status (chunk_of c.args.chunks.now) c.args.z.chunks c.loop-i.i c.loop-i-test.true _ c.chunk_row.ensures w.if-chunk_row-status.true), omega (arith, w.n-is))
      | else-chunk_row-status w ↦ (omega (arith, c.loop-i.invariant.0, w.n-is, count_none c.args.status (chunk_of c.args.chunks.now) c.args.z.chunks c.loop-i.i c.loop-i-test.true _ c.chunk_row.ensures w.if-chunk_row-status.false), omega (arith, w.n-is))
    ]

pub returns-clause-count : goal.returns-clause-count
returns-clause-count c = omega (arith, c.loop-i.invariant.0, count-end c.args.status (chunk_of c.args.chunks.now) c.args.z.chunks c.loop-i.i c.loop-i-test.false)
