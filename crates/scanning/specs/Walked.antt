-- What the scan's walk comes to.
use Rattle.std.specs.Prelude.{ℕ, Option, ◌<◌, ◌≡◌}
use Rattle.rules.specs.declared.Sizes.{Sizes}
use Rattle.rules.specs.declared.ChunkNo.{ChunkNo}
use Rattle.rules.specs.declared.EntryNo.{EntryNo}
use Rattle.rules.specs.Tables.{Tables}
use Rattle.rules.specs.Walks.{locate, first_present}
use Rattle.walks.specs.Found.{Found}

-- the chunk that has the cursor, and the entry of its first present key in range, or none
pub record Walked (z : Sizes) (s : Tables) (from to : ℕ) (c : ChunkNo) (e : Option EntryNo) : Type 0 where
  pub chunk : c ≡ locate z s from
  pub entry : Found z e (first_present z s (locate z s from) from to)
  pub numbered : c.0 < z.chunks
