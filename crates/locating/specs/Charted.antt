-- What locating asks of the words that it reads, which the shape gives, and what the index leads to (document 02, E3).
use Rattle.std.specs.Prelude.{ℕ, zero, suc, ◌+◌, ◌*◌, ◌≤◌, ◌<◌, ◌≡◌, true, List, eqb, length}
use Rattle.rules.specs.declared.Sizes.{Sizes}
use Rattle.rules.specs.declared.Chunk.{Chunk}
use Rattle.rules.specs.declared.ChunkNo.{ChunkNo}
use Rattle.rules.specs.Words.{pick, live}
use Rattle.rules.specs.Tables.{chunk_at}
use Rattle.rules.specs.Walks.{locate_from}
use Rattle.rules.specs.Shape.{chained, index_right}
use Rattle.rows.specs.Rows.{directory_of, index_of, chunk_rows, charted}

-- the directory's words and the chunks' have the length that the sizes ask, and the chain and the index are right, whatever the other tables hold
pub record Charted (z : Sizes) (d cs : List ℕ) : Type 0 where
  pub directory : length d ≡ 6 + z.chunks * 2
  pub chunks : length cs ≡ z.chunks * 6
  pub first : (directory_of d).first.0 < z.chunks
  pub chain : chained z (charted z d cs) ≡ true
  pub index : index_right z (charted z d cs) ≡ true

-- the minimum keys of so many rows ascend
abbrev pub Rises : List ℕ → ℕ → Type 0
Rises d many = (i j : ℕ) → i < j → j < many → (index_of d i).min < (index_of d j).min

-- of so many rows the first r have a minimum key at or under the key, and the next one has a larger
pub record Under (d : List ℕ) (many k r : ℕ) : Type 0 where
  pub within : r ≤ many
  pub below : (i : ℕ) → i < r → (index_of d i).min ≤ k
  pub above : r < many → k < (index_of d r).min

-- the chunk of the last of so many rows that names a live one, or the first live chunk
module _ (d : List ℕ) (cs : List Chunk) where
  unfoldable pub last_live : ℕ → ChunkNo
  last_live zero = (directory_of d).first
  last_live (suc many) = let on = last_live many in pick (eqb (chunk_at cs (index_of d many).chunk).status live) (index_of d many).chunk on

-- the chunk where the index leads, of its rows at or under the key; the walk to the key from it answers as from the first
pub record Starts (z : Sizes) (d cs : List ℕ) (k : ℕ) (c : ChunkNo) : Type 0 where
  pub many : ℕ
  pub under : Under d (directory_of d).indexed k many
  pub led : c ≡ last_live d (chunk_rows z.chunks cs) many
  pub numbered : c.0 < z.chunks
  pub same : locate_from z (chunk_rows z.chunks cs) z.chunks c k ≡ locate_from z (chunk_rows z.chunks cs) z.chunks (directory_of d).first k
