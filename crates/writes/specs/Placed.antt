-- What a write asks of the tables that it is done to.
use Rattle.std.specs.Prelude.{ℕ, ◌<◌, List}
use Rattle.rules.specs.declared.Sizes.{Sizes}
use Rattle.rules.specs.declared.Chunk.{Chunk}
use Rattle.rules.specs.declared.Write.{Write}
use Rattle.rules.specs.declared.Write.TheVariants as write
use Rattle.rules.specs.Tables.{chunk_at}
use Rattle.rows.specs.Rows.{chunk_rows}
use Rattle.outcome.specs.Lengths.{Chunks, Entries}

-- the chunk and the entry are of their tables, and a chunk of which a slot is taken has one
abbrev pub Placed : Sizes → List Chunk → Write → Type 0
Placed z cs write.Nothing = Unit {0}
Placed z cs (write.Slot c k) = (c.0 < z.chunks) × ((chunk_at cs c).used < z.entries)
Placed z cs (write.Link c e below) = (c.0 < z.chunks) × (e.0 < z.entries)
Placed z cs (write.Fresh h) = Unit {0}
Placed z cs (write.Store h v) = Unit {0}
Placed z cs (write.Delete h) = Unit {0}
Placed z cs (write.Name c e h) = (c.0 < z.chunks) × (e.0 < z.entries)

-- the two tables are as long as the sizes ask, and the write can be done to them
pub record Ready (z : Sizes) (cs es : List ℕ) (w : Write) : Type 0 where
  pub chunks : Chunks z cs
  pub entries : Entries z es
  pub placed : Placed z (chunk_rows z.chunks cs) w
