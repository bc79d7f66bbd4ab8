use Rattle.std.proofs.Common.{ℕ, List, drop}
use Rattle.script.specs.Puts.{PutsLine}
use Rattle.script.specs.Texts.{stacked_text, stack_text}
use Rattle.script.proofs.tables.stack_line.Given as goal

abbrev pub invariant-loop-e : goal.invariant-loop-e
invariant-loop-e l = (after : List ℕ) (next : ℕ) → PutsLine l.out.bytes.now after l.out.at (stacked_text (drop l.e-index l.words)) next → PutsLine l.fn.out.bytes.now after l.fn.out.at (stack_text l.i l.words) next
