use Prim.Native.Nat.{ℕ, ◌*◌}
use mathlib.Core.Path.{ap}
use lib.ListN.{get_or}
use Rattle.rules.specs.Tables.{empty_entry}
use Rattle.rows.specs.Rows.{rows_from, entry_of}
use mathlib.Core.Path.{◌∙◌, sym}
use Rattle.rows.proofs.Laws.{row_read}
use Rattle.rows.proofs.entry_at.Goals as goal

pub returns : goal.returns
returns c =
    let n = c.entry_number-i.ensures in
    let es = c.args.entries.now in
    let z = c.args.z in
    c.entry_row.ensures
    ∙ sym (row_read (entry_of es) (z.chunks * z.entries) c.entry_number-i.result empty_entry n.1)
    ∙ ap (λ (i : ℕ). get_or (rows_from (entry_of es) 0 (z.chunks * z.entries)) i empty_entry) n.0
