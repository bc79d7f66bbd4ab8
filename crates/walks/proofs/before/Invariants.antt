use Prim.Native.Nat.{◌-◌, ◌<◌}
use mathlib.Core.Path.{◌≡◌}
use Rattle.rules.specs.Walks.{before_from}
use Rattle.rows.specs.Rows.{chunk_rows}
use Rattle.walks.proofs.before.Given as goal

abbrev pub invariant-loop : goal.invariant-loop
invariant-loop l = (before_from l.z (chunk_rows l.z.chunks l.chunks) l.z.chunks l.fn.first l.x ≡ before_from l.z (chunk_rows l.z.chunks l.chunks) (l.z.chunks - l.counter) l.at l.x) × (l.fn.first.0 < l.z.chunks → l.at.0 < l.z.chunks)
