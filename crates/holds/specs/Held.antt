-- The fact of publishers.
use Rattle.std.specs.Prelude.{ℕ, ◌≤◌, ◌<◌, ◌≡◌, ◌≢◌, List}
use Rattle.rules.specs.declared.Sizes.{Sizes}
use Rattle.rules.specs.declared.Directory.{Directory}
use Rattle.rules.specs.declared.Task.{Task}
use Rattle.rules.specs.declared.Chunk.{Chunk}
use Rattle.rules.specs.Words.{live, to_copy}
use Rattle.rules.specs.Tables.{Tables, chunk_at, task}

-- publisher-live: a publisher's chunk is live, and if it is the rebalance's old one the rebalance has not drained
pub record PublisherLive (z : Sizes) (d : Directory) (cs : List Chunk) (t : Task) : Type 0 where
  pub numbered : t.chunk.0 < z.chunks
  pub is_live : (chunk_at cs t.chunk).status ≡ live
  pub drains : to_copy ≤ d.stage → t.chunk ≢ d.old

pub record Held (z : Sizes) (s : Tables) : Type 0 where
  pub publisher-live : (n : ℕ) → (task s n).published ≡ 1 → PublisherLive z s.directory s.chunks (task s n)
