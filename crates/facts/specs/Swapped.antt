-- What swap in writes to the chunks' rows.
use Rattle.std.specs.Prelude.{◌+◌, ◌<◌, ◌≡◌, ◌≢◌, List, [], ◌∷◌, ltb, length}
use Rattle.rules.specs.declared.Sizes.{Sizes}
use Rattle.rules.specs.declared.Directory.{Directory}
use Rattle.rules.specs.declared.Chunk.{Chunk}
use Rattle.rules.specs.declared.ChunkNo.{ChunkNo}
use Rattle.rules.specs.Words.{pick, retired}
use Rattle.rules.specs.Tables.{Tables, chunk_at, chunk}
use Rattle.rules.specs.Walks.{before_from}
use Rattle.rules.specs.Rebalance.{with_status, live_before, with_next_chunk}
use Rattle.rules.specs.Shape.{live_count}

-- the new ones, of which there may be one
abbrev pub new_ones : Sizes → Directory → List ChunkNo
new_ones z d = pick (ltb d.second.0 z.chunks) (d.new ∷ d.second ∷ []) (d.new ∷ [])

-- the one before the old chunk
abbrev pub before_old : Sizes → Tables → ChunkNo
before_old z s = before_from z s.chunks z.chunks s.directory.first s.directory.old

-- what swap in writes to the chunks' rows
pub record Swapped (z : Sizes) (s : Tables) (cs : List Chunk) : Type 0 where
  pub sized : length cs ≡ length s.chunks
  pub counted : live_count cs + 1 ≡ live_count s.chunks + length (new_ones z s.directory)
  pub old : chunk_at cs s.directory.old ≡ with_status (chunk s s.directory.old) retired
  pub new : chunk_at cs s.directory.new ≡ live_before (chunk s s.directory.new) (pick (ltb s.directory.second.0 z.chunks) s.directory.second (chunk s s.directory.old).next)
  pub second : s.directory.second.0 < z.chunks → chunk_at cs s.directory.second ≡ live_before (chunk s s.directory.second) (chunk s s.directory.old).next
  pub before : s.directory.first ≢ s.directory.old → chunk_at cs (before_old z s) ≡ with_next_chunk (chunk s (before_old z s)) s.directory.new
  pub other : (f : ChunkNo) → f ≢ s.directory.old → f ≢ s.directory.new → f ≢ s.directory.second → (s.directory.first ≢ s.directory.old → f ≢ before_old z s) → chunk_at cs f ≡ chunk s f
