use Rattle.std.proofs.Common.{take}
use Rattle.script.specs.Reading.{Reads}
use Rattle.script.proofs.line.meant.Given as goal

abbrev pub invariant-loop-b : goal.invariant-loop-b
invariant-loop-b l = Reads l.s (take l.b-index l.line)
