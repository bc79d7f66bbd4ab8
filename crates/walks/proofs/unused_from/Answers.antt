use mathlib.Core.Path.{sym, ap, ◌∙◌}
use mathlib.Core.List.{List}
use Rattle.rules.specs.declared.Chunk.{Chunk}
use Rattle.rules.specs.Rebalance.{unused_from}
use Rattle.rows.proofs.Laws.{drop-rows}
use Rattle.walks.proofs.Laws.{unused-done, unused-here, unused-next}
use Rattle.walks.proofs.unused_from.Goals as goal

pub loop-i-init : goal.loop-i-init
loop-i-init c = ap (λ (l : List Chunk). unused_from l c.args.from) (drop-rows _ _ _ c.requires.1)

pub returns-then-chunk_row-eq-UNUSED : goal.returns-then-chunk_row-eq-UNUSED
returns-then-chunk_row-eq-UNUSED c = (sym (c.loop-i.invariant ∙ unused-here _ _ _ c.loop-i-test.true _ c.chunk_row.ensures c.if-chunk_row-eq-UNUSED.true), c.loop-i-test.true)

pub loop-i-preserved : goal.loop-i-preserved
loop-i-preserved c = c.loop-i.invariant ∙ unused-next _ _ _ c.loop-i-test.true _ c.chunk_row.ensures c.if-chunk_row-eq-UNUSED.false

pub returns : goal.returns
returns c = (sym (c.loop-i.invariant ∙ unused-done _ _ _ c.loop-i-test.false), tt)
