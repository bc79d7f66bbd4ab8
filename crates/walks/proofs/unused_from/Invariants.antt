use Prim.Native.Nat.{◌-◌}
use mathlib.Core.Path.{◌≡◌}
use lib.ListN.{drop}
use Rattle.rules.specs.Rebalance.{unused_from}
use Rattle.rows.specs.Rows.{rows_from, chunk_of, chunk_rows}
use Rattle.walks.proofs.unused_from.Given as goal

abbrev pub invariant-loop-i : goal.invariant-loop-i
invariant-loop-i l = unused_from (drop l.from (chunk_rows l.n l.chunks)) l.from ≡ unused_from (rows_from (chunk_of l.chunks) l.i (l.n - l.i)) l.i
