use mathlib.Core.Path.{◌∙◌}
use native.Mathlib.Omega.{arith}
use Rattle.rows.specs.Rows.{tables}
use Rattle.rebalance.proofs.Laws.{begin-few, begin-froze}
use Rattle.rebalance.proofs.Unused.{unused-is}
use Rattle.rebalance.proofs.begin.Goals as goal

pub returns-then-status_count-lt2 : goal.returns-then-status_count-lt2
returns-then-status_count-lt2 c ts es vs ms =
    let a = c.args in
    begin-few a.z (tables a.z a.directory.now ts a.chunks.now es vs ms) _ c.directory_row-d.ensures _ _ c.if-d-ne0.false (c.status_count.ensures.count ∙ unused-is _) (omega arith)

pub returns : goal.returns
returns c ts es vs ms =
    let a = c.args in
    let put = c.put_directory_row.ensures in
    begin-froze a.z (tables a.z a.directory.now ts a.chunks.now es vs ms) _ c.directory_row-d.ensures _ _ c.if-d-ne0.false (c.status_count.ensures.count ∙ unused-is _) (omega arith) _ (c.locate-c.ensures ts es vs ms) _ c.chunk_at-x.ensures _ put.row _ (put.index a.z.chunks) _ c.put_chunk.ensures
