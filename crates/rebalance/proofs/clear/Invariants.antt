use Prim.Native.Nat.{◌*◌}
use mathlib.Core.Path.{◌≡◌}
use Rattle.rows.specs.Rows.{entry_rows}
use Rattle.rebalance.specs.Parts.{cleared}
use Rattle.rebalance.proofs.clear.Given as goal

abbrev pub invariant-loop-n : goal.invariant-loop-n
invariant-loop-n l = cleared l.z l.z.entries (entry_rows (l.z.chunks * l.z.entries) l.initial.entries) l.c ≡ cleared l.z l.n (entry_rows (l.z.chunks * l.z.entries) l.entries) l.c
