use Prim.Native.Nat.{◌+◌, ◌≤◌}
use mathlib.Core.Path.{◌≡◌}
use Rattle.rows.specs.Rows.{chunk_rows, chunk_of}
use Rattle.listed.specs.Parts.{count_of}
use Rattle.listed.proofs.Chain.{left-of}
use Rattle.listed.proofs.status_count.Given as goal

abbrev pub invariant-loop-i : goal.invariant-loop-i
invariant-loop-i l = (count_of l.status (chunk_rows l.fn.z.chunks l.chunks) ≡ l.n + left-of l.status (chunk_of l.chunks) l.fn.z.chunks l.i) × (l.n ≤ l.i)
