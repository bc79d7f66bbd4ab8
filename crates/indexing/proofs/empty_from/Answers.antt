use Rattle.indexing.proofs.Laws.{emptying-more, emptying-done}
use Rattle.indexing.proofs.empty_from.Goals as goal

pub loop-i-preserved : goal.loop-i-preserved
loop-i-preserved c = let put = c.put_index_row in emptying-more _ _ _ _ _ _ _ c.loop-i.invariant c.loop-i-test.true c.empty_row.ensures put.ensures put.auto.words

pub returns : goal.returns
returns c = emptying-done _ _ _ _ _ c.loop-i.invariant c.loop-i-test.false
