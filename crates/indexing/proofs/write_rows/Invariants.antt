use Prim.Native.Nat.{◌-◌}
use Rattle.rows.specs.Rows.{chunk_rows}
use Rattle.indexing.specs.Written.{rows_along}
use Rattle.indexing.proofs.Laws.{Writing}
use Rattle.indexing.proofs.write_rows.Given as goal

abbrev pub invariant-loop-n : goal.invariant-loop-n
invariant-loop-n l = Writing l.size l.initial.directory l.directory (rows_along l.z (chunk_rows l.z.chunks l.chunks) l.size l.fn.first) (rows_along l.z (chunk_rows l.z.chunks l.chunks) (l.size - l.n) l.at) l.n
