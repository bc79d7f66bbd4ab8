use Prim.Native.Nat.{◌+◌, ◌*◌}
use Rattle.listed.specs.Plain.{AllEmpty}
use Rattle.listed.proofs.all_empty.Given as goal

abbrev pub invariant-loop-turn : goal.invariant-loop-turn
invariant-loop-turn l = AllEmpty l.entries l.from (l.from + l.turn * 8)
