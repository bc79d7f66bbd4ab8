use mathlib.Core.Path.{refl}
use native.Mathlib.Omega.{arith}
use Rattle.indexing.proofs.Laws.{along-spent, along-out, along-next, writing_more, writing-done}
use Rattle.indexing.proofs.write_rows.Goals as goal

pub returns-then-size-at : goal.returns-then-size-at
returns-then-size-at c = writing-done _ _ _ _ _ _ _ c.loop-n.invariant (along-out _ _ _ _ c.if-size-at.true) refl

pub loop-n-preserved : goal.loop-n-preserved
loop-n-preserved c = let put = c.put_index_row in writing_more _ _ _ _ _ _ _ _ _ c.loop-n.invariant (along-next _ _ _ _ _ (omega arith) c.if-size-at.false _ c.chunk_at-x.ensures) c.loop-n-test.true put.ensures put.auto.words

pub returns : goal.returns
returns c = writing-done _ _ _ _ _ _ _ c.loop-n.invariant (along-spent _ _ _ _ (omega arith)) (omega arith)
