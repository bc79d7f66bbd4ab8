use native.Mathlib.Numerals.{towards_suc}
use Rattle.rows.proofs.Layouts.{chunk-put}
use Rattle.rows.proofs.put_chunk_row.Goals as goal

pub returns : goal.returns
returns c n = simp towards_suc (chunk-put c.args.words.now c.args.i c.args.x c.requires n)
