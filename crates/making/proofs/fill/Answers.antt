use Prim.Native.Nat.{◌+◌}
use mathlib.Core.Path.{ap, ◌∙◌}
use Rattle.making.specs.Clearing.{every_other}
use Rattle.making.proofs.Clearing.{other-all}
use Rattle.making.proofs.fill.Goals as goal

pub returns : goal.returns
returns c = c.every_other-2.ensures ∙ ap (every_other c.args.v (c.args.from + 1)) c.every_other.ensures ∙ other-all c.args.v c.args.from c.args.words.now
