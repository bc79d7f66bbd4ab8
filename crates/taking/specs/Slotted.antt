-- What taking a handle asks of the sizes and of the words that it reads; the shape gives all but the room.
use Rattle.std.specs.Prelude.{ℕ, ◌+◌, ◌*◌, ◌≤◌, ◌<◌, ◌≡◌, List, length}
use Rattle.rules.specs.declared.Sizes.{Sizes}
use Rattle.rules.specs.Words.{NONE}
use Rattle.rows.specs.Rows.{chunk_of, entry_of}
use Rattle.taking.specs.Left.{room}

-- there is room for the handles, and a chunk's slots past its used ones name none
pub record Slotted (z : Sizes) (cs es : List ℕ) : Type 0 where
  pub handles : z.handles ≤ room
  pub chunks : length cs ≡ z.chunks * 6
  pub entries : length es ≡ z.chunks * z.entries * 3
  pub used : (c : ℕ) → c < z.chunks → (chunk_of cs c).used ≤ z.entries
  pub empty : (c e : ℕ) → c < z.chunks → (chunk_of cs c).used ≤ e → e < z.entries → (entry_of es (c * z.entries + e)).handle.0 ≡ NONE
