use Rattle.std.proofs.Common.{rules}
use Rattle.listed.proofs.Plain.{is_plain}
use Rattle.listed.proofs.is_plain.Goals as goal
use Rattle.listed.proofs.is_plain.Goals.{then-in_table, else-in_table}

pub returns-then-all_empty : goal.returns-then-all_empty
returns-then-all_empty c e = elim c.if-in_table.branch [ then-in_table w ↦ is_plain _ _ _ _ _ c.requires.0 c.requires.1 _ c.first_number-first.ensures.0 (search rules) (search rules) (search rules) | else-in_table w ↦ search rules ]
