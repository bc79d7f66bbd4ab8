-- What is said of the index's rows after they are written (document 02, E3).
use Rattle.std.specs.Prelude.{ℕ, ◌-◌, ◌≤◌, ◌≡◌, List, ◌++◌, map, length, take, replicate}
use Rattle.rules.specs.declared.Sizes.{Sizes}
use Rattle.rules.specs.declared.Chunk.{Chunk}
use Rattle.rules.specs.declared.ChunkNo.{ChunkNo}
use Rattle.rules.specs.declared.IndexRow.{IndexRow}
use Rattle.rules.specs.Tables.{empty_row}
use Rattle.rules.specs.Walks.{row_of, chain_from}
use Rattle.rows.specs.Rows.{directory_of, index_rows}

-- the rows of the chunks from c on, along next
abbrev pub rows_along : Sizes → List Chunk → ℕ → ChunkNo → List IndexRow
rows_along z cs left c = map (row_of cs) (chain_from z cs left c)

-- of an index of that size the first rows are those of the list, so many; the directory's own row stays
pub record Written (size : ℕ) (before after : List ℕ) (l : List IndexRow) (many : ℕ) : Type 0 where
  pub rows : take many (index_rows size after) ≡ l
  pub counted : many ≡ length l
  pub room : many ≤ size
  pub row : directory_of after ≡ directory_of before

-- the rows from one on are empty; those before it stay, and the directory's own row
pub record Emptied (size : ℕ) (before after : List ℕ) (from : ℕ) : Type 0 where
  pub rows : index_rows size after ≡ take from (index_rows size before) ++ replicate (size - from) empty_row
  pub row : directory_of after ≡ directory_of before
