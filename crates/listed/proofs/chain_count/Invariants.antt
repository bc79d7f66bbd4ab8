use Prim.Native.Nat.{◌-◌}
use mathlib.Core.Path.{◌≡◌}
use Rattle.rules.specs.Shape.{chain_count}
use Rattle.rows.specs.Seen.{seen}
use Rattle.listed.specs.Parts.{least}
use Rattle.listed.proofs.chain_count.Given as goal

abbrev pub invariant-loop-n : goal.invariant-loop-n
invariant-loop-n l = let s = l.s in
    chain_count s.z (seen s).chunks s.z.chunks l.fn.first 0 0 ≡ chain_count s.z (seen s).chunks (s.z.chunks - l.n) l.at (least l.last) l.n
