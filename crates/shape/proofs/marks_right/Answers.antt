use Prim.Native.Nat.{ℕ}
use Rattle.std.proofs.Common.{rules}
use mathlib.Core.Path.{◌∙◌}
use mathlib.Core.Bool.{Bool, true, ◌&&◌}
use lib.Dec.{leb}
use Rattle.std.proofs.lemmas.Iterator.{YieldsList-from_slice}
use Rattle.std.proofs.lemmas.Iterator.Consumers.{fold_from_yields_List}
use Rattle.shape.proofs.Whole.{fold-marks}
use Rattle.shape.proofs.marks_right.Goals as goal

pub returns : goal.returns
returns c =
    fold_from_yields_List _ (λ (t : Bool) (m : ℕ). t && leb m 1) true _ c.fold.ensures.ran (YieldsList-from_slice c.args.marks.now (cc)) (λ t m b q h. search rules)
    ∙ fold-marks 0 c.args.marks.now
