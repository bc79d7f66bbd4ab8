use Prim.Native.Nat.{◌-◌}
use mathlib.Core.Path.{◌≡◌}
use Rattle.rules.specs.Tables.{chunk_at}
use Rattle.rules.specs.Walks.{locate_from}
use Rattle.rows.specs.Rows.{chunk_rows}
use Rattle.walks.proofs.locate.Given as goal

abbrev pub invariant-loop : goal.invariant-loop
invariant-loop l = (locate_from l.z (chunk_rows l.z.chunks l.chunks) l.z.chunks l.fn.first l.k ≡ locate_from l.z (chunk_rows l.z.chunks l.chunks) (l.z.chunks - l.counter) l.at l.k) × (l.next ≡ (chunk_at (chunk_rows l.z.chunks l.chunks) l.at).next)
