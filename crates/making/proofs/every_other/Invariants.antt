use mathlib.Core.Path.{◌≡◌}
use Rattle.making.specs.Clearing.{every_other}
use Rattle.making.proofs.every_other.Given as goal

abbrev pub invariant-loop-i : goal.invariant-loop-i
invariant-loop-i l = every_other l.v l.i l.words ≡ every_other l.v l.fn.from l.initial.words
