use borrow.Author.Tests.{lt-ltb}
use Rattle.rows.proofs.Laws.{row_read}
use Rattle.listed.proofs.Tests.{and_is, or_is}
use Rattle.indexed.proofs.names_chunk.Goals as goal

pub returns : goal.returns
returns c = let left = c.if-z-i.false in rw (lt-ltb _ _ left, row_read _ _ _ _ left, c.chunk_row-row.ensures) (simp (and_is, or_is))
