use Rattle.std.proofs.Common.{rules}
use mathlib.Core.Path.{sym, ap, ◌∙◌}
use Rattle.rules.specs.Words.{entry_no}
use Rattle.rules.specs.Tables.{entry_at}
use Rattle.rules.specs.Shape.{each, slot_right}
use Rattle.rows.specs.Seen.{seen}
use Rattle.rows.proofs.Laws.{length-rows}
use Rattle.listed.proofs.Rows.{slots-rows}
use Rattle.listed.proofs.All.{all-rows}
use Rattle.listed.proofs.slots_right.Goals as goal

pub returns : goal.returns
returns c = let s = c.args.s.now in
    let es = (seen s).entries in
    let right = slot_right s.z (seen s) c.args.used in
    all-rows _ _ _ _ c.all.ensures.ran right (λ e. entry_at s.z es c.args.c (entry_no e)) _ (cc) (λ i b q h. search rules)
    ∙ sym (ap (each right 0) (slots-rows s.z es c.args.c (length-rows _ 0 _) c.requires))
