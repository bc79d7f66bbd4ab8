use Prim.Native.Nat.{◌+◌}
use mathlib.Core.Path.{◌≡◌}
use mathlib.Core.List.{[]}
use lib.ListN.{get_or, drop}
use Rattle.rules.specs.Walks.{depth}
use Rattle.rows.specs.Rows.{stack_rows}
use Rattle.walks.proofs.stack_depth.Given as goal

abbrev pub invariant-loop-i : goal.invariant-loop-i
invariant-loop-i l = depth l.z (get_or (stack_rows l.z l.tasks) l.n []) ≡ l.i + depth l.z (drop l.i (get_or (stack_rows l.z l.tasks) l.n []))
