use native.Mathlib.Numerals.{towards_suc}
use Rattle.rows.proofs.Layouts.{entry-put}
use Rattle.rows.proofs.put_entry_row.Goals as goal

pub returns : goal.returns
returns c n = simp towards_suc (entry-put c.args.words.now c.args.i c.args.x c.requires n)
