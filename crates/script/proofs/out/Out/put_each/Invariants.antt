use Rattle.std.proofs.Common.{take}
use Rattle.script.specs.Puts.{Puts}
use Rattle.script.proofs.out.Out.put_each.Given as goal

abbrev pub invariant-loop-b : goal.invariant-loop-b
invariant-loop-b l = Puts l.initial.self.bytes.now l.self.bytes.now l.initial.self.at (take l.b-index l.text) l.self.at
