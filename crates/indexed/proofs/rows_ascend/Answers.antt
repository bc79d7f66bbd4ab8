use mathlib.Core.Path.{◌∙◌}
use native.Mathlib.Omega.{arith}
use Rattle.indexed.proofs.Laws.{asked-fails, asked-passes, asked-past}
use Rattle.indexed.proofs.rows_ascend.Goals as goal

pub returns-then-not-follows-names_chunk : goal.returns-then-not-follows-names_chunk
returns-then-not-follows-names_chunk c = c.loop-i.invariant ∙ asked-fails _ _ _ _ _ _ _ c.loop-i-test.true c.requires.1 _ c.index_row-x.ensures (rw (← c.follows.ensures, ← c.names_chunk.ensures) (c.if-not-follows-names_chunk.true))

pub loop-i-preserved : goal.loop-i-preserved
loop-i-preserved c = c.loop-i.invariant ∙ asked-passes _ _ _ _ _ _ _ c.loop-i-test.true c.requires.1 _ c.index_row-x.ensures (rw (← c.follows.ensures, ← c.names_chunk.ensures) (c.if-not-follows-names_chunk.false))

pub returns : goal.returns
returns c = c.loop-i.invariant ∙ asked-past _ _ _ _ _ _ _ c.loop-i-test.false (omega arith)
