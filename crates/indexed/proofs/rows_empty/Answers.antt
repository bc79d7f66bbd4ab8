use Prim.Native.Nat.{ℕ}
use Rattle.std.proofs.Common.{rules}
use mathlib.Core.Path.{refl, ◌∙◌}
use mathlib.Core.Bool.{Bool, true, ◌&&◌}
use Rattle.std.proofs.lemmas.Iterator.{YieldsList-from_range}
use Rattle.std.proofs.lemmas.Iterator.Consumers.{fold_from_yields_List}
use Rattle.rules.specs.declared.IndexRow.{IndexRow}
use Rattle.rules.specs.Shape.{is_empty_row}
use Rattle.rows.specs.Rows.{index_of}
use Rattle.listed.proofs.All.{fold-rows}
use Rattle.indexed.proofs.rows_empty.Goals as goal

abbrev empty : ℕ → IndexRow → Bool
empty n x = is_empty_row x

pub returns : goal.returns
returns c = let f = index_of c.args.directory.now in
    fold_from_yields_List _ (λ (t : Bool) (i : ℕ). t && empty i (f i)) true _ c.fold.ensures.ran (YieldsList-from_range c.args.from c.args.z.chunks _ (cc) refl) (λ t i b q h. search rules)
    ∙ fold-rows empty f c.args.from _
