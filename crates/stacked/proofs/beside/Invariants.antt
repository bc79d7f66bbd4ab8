use Prim.Native.Nat.{◌-◌, ◌≤◌}
use mathlib.Core.Path.{◌≡◌}
use lib.ListN.{drop}
use Rattle.rules.specs.Tables.{stack, chunk}
use Rattle.rules.specs.Shape.{rises_from}
use Rattle.rows.specs.Seen.{seen}
use Rattle.stacked.proofs.Words.{beside_from}
use Rattle.stacked.proofs.beside.Given as goal

abbrev pub invariant-loop : goal.invariant-loop
invariant-loop l = let s = l.s in
    let w = stack (seen s) l.n in
    (rises_from s.z (seen s).entries l.c (chunk (seen s) l.c).head 0 w ≡ beside_from s.z (seen s).entries l.c (s.z.entries - l.counter) l.at (drop l.i w)) × (l.i ≤ l.counter)
