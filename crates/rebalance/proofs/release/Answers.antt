use mathlib.Core.Path.{sym, ◌∙◌}
use Rattle.rows.specs.Rows.{tables}
use Rattle.rebalance.proofs.Laws.{release-ends}
use Rattle.rebalance.proofs.release.Goals as goal

pub returns : goal.returns
returns c vs ms =
    let a = c.args in
    let put = c.put_directory_row.ensures in
    release-ends a.z (tables a.z a.directory.now a.tasks.now a.chunks.now a.entries.now vs ms) _ c.directory_row-d.ensures (sym c.held_chunk.ensures ∙ c.if-held_chunk.false) _ c.clear.ensures _ (rw (← c.empty_chunk.ensures) c.put_chunk.ensures) _ put.row _ (put.index a.z.chunks)
