use Prim.Native.Nat.{ℕ}
use Rattle.std.proofs.Common.{rules}
use mathlib.Core.Path.{refl, ◌∙◌}
use mathlib.Core.Bool.{Bool, true, ◌&&◌}
use lib.ListN.{get_or}
use Rattle.std.proofs.lemmas.Iterator.{YieldsList-from_range}
use Rattle.std.proofs.lemmas.Iterator.Consumers.{fold_from_yields_List}
use Rattle.rules.specs.declared.EntryNo.{EntryNo}
use Rattle.rules.specs.Words.{no_entry}
use Rattle.rules.specs.Tables.{stack}
use Rattle.rules.specs.Shape.{is_none}
use Rattle.rows.specs.Seen.{seen}
use Rattle.listed.proofs.All.{fold-rows}
use Rattle.stacked.proofs.Words.{stack-long, none-rows}
use Rattle.stacked.proofs.none_from.Goals as goal

abbrev none : ℕ → EntryNo → Bool
none n e = is_none e.0

pub returns : goal.returns
returns c = let s = c.args.s.now in
    let w = stack (seen s) c.args.n in
    fold_from_yields_List _ (λ (t : Bool) (i : ℕ). t && none i (get_or w i no_entry)) true _ c.fold.ensures.ran (YieldsList-from_range c.args.from s.z.entries _ (cc) refl) (λ t i b q h. search rules)
    ∙ fold-rows none (λ i. get_or w i no_entry) c.args.from _
    ∙ none-rows w s.z.entries (stack-long s c.args.n c.requires) c.args.from _ refl
