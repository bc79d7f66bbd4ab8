-- What a contract says of the slices that a call is lent.
use Rattle.std.specs.Prelude.{ℕ, ◌+◌, ◌*◌, ◌<◌, ◌≡◌, List, [], length, get_or, set}
use Rattle.rules.specs.declared.Sizes.{Sizes}
use Rattle.rules.specs.declared.Directory.{Directory}
use Rattle.rules.specs.declared.IndexRow.{IndexRow}
use Rattle.rules.specs.declared.Task.{Task}
use Rattle.rules.specs.declared.ChunkNo.{ChunkNo}
use Rattle.rules.specs.declared.EntryNo.{EntryNo}
use Rattle.rules.specs.Tables.{Tables}
pub use Rattle.rules.specs.Layout.{directory_of, index_of, task_of, chunk_of, entry_of, index_rows, task_rows, chunk_rows, entry_rows, stack_of, stack_rows, tables}
unfoldable pub use Rattle.rules.specs.Layout.{rows_from}

-- each table has the words that the sizes ask
pub record Lent (z : Sizes) (d ts cs es vs ms : List ℕ) : Type 0 where
  pub directory : length d ≡ 6 + z.chunks * 2
  pub tasks : length ts ≡ z.tasks * 11 + z.tasks * z.entries
  pub chunks : length cs ≡ z.chunks * 6
  pub entries : length es ≡ z.chunks * z.entries * 3
  pub values : length vs ≡ z.handles
  pub marks : length ms ≡ z.handles

-- tables of which the directory's words and the chunks' alone are asked
abbrev pub charted : Sizes → List ℕ → List ℕ → Tables
charted z d cs = tables z d [] cs [] [] []

-- ---- the slices that a call is lent: the words of each, at the moment that its contract names
abbrev pub Lend : Type 0
Lend = List ℕ

module _ (z : Sizes) (d ts cs es vs ms : Lend) where
  abbrev pub Lends : Type 0
  Lends = Lent z d ts cs es vs ms

  abbrev pub tables_now : Tables
  tables_now = tables z d ts cs es vs ms

  -- the tables as they are lent, and as they are left
  abbrev pub as_lent : Tables
  as_lent = tables_now

  abbrev pub as_left : Tables
  as_left = tables_now

-- an entry's numbers lie in the entries' table, which has the words that the sizes ask
pub record Numbers (z : Sizes) (es : List ℕ) (c : ChunkNo) (e : EntryNo) : Type 0 where
  pub chunk : c.0 < z.chunks
  pub entry : e.0 < z.entries
  pub long : length es ≡ z.chunks * z.entries * 3

-- the directory's own row is written: every row of the index stays
pub record DirectoryPut (before after : List ℕ) (x : Directory) : Type 0 where
  pub row : directory_of after ≡ x
  pub index : (n : ℕ) → index_rows n after ≡ index_rows n before

-- row i of the index is written: its other rows stay, and the directory's own row
pub record IndexPut (before after : List ℕ) (i : ℕ) (x : IndexRow) : Type 0 where
  pub rows : (n : ℕ) → index_rows n after ≡ set (index_rows n before) i x
  pub row : directory_of after ≡ directory_of before

-- task i's row is written in the tasks' table: the other rows stay, and every stack
pub record TaskPut (before after : List ℕ) (i : ℕ) (x : Task) : Type 0 where
  pub rows : (n : ℕ) → task_rows n after ≡ set (task_rows n before) i x
  pub stacks : (z : Sizes) → i < z.tasks → stack_rows z after ≡ stack_rows z before

-- a word of a stack: of a task of the table, and of as many as a chunk has entries
pub record StackWord (z : Sizes) (ts : List ℕ) (n i : ℕ) : Type 0 where
  pub task : n < z.tasks
  pub entry : i < z.entries
  pub long : length ts ≡ z.tasks * 11 + z.tasks * z.entries

-- word i of task n's stack is written: its other words stay, every other stack, and every task's row
pub record StackPut (z : Sizes) (before after : List ℕ) (n i : ℕ) (e : EntryNo) : Type 0 where
  pub stacks : stack_rows z after ≡ set (stack_rows z before) n (set (get_or (stack_rows z before) n []) i e)
  pub rows : task_rows z.tasks after ≡ task_rows z.tasks before
