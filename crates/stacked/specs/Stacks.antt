-- A task's stack, beside the list of the chunk that the task holds (document 02, E1).
use Rattle.std.specs.Prelude.{true, ◌≡◌}
use Rattle.rules.specs.Shape.{each, chunk_right}
use Rattle.rows.specs.declared.lent.Lent.{Lent}
use Rattle.rows.specs.Seen.{seen}

-- every chunk's list is right
abbrev pub ListsRight : Lent → Type 0
ListsRight s = each (chunk_right s.z (seen s)) 0 (seen s).chunks ≡ true
