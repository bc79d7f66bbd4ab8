-- What a stage asks of the words that it reads, and of the numbers that its task holds.
use Rattle.std.specs.Prelude.{ℕ, ◌*◌, ◌≤◌, ◌<◌, ◌≡◌, List, length, get_or}
use Rattle.rules.specs.declared.Sizes.{Sizes}
use Rattle.rules.specs.declared.Task.{Task}
use Rattle.rules.specs.Shape.{hold, stage_list}

abbrev pub Tasks : Sizes → List ℕ → Type 0
Tasks z ts = z.tasks * 11 ≤ length ts

abbrev pub Chunks : Sizes → List ℕ → Type 0
Chunks z cs = length cs ≡ z.chunks * 6

abbrev pub Entries : Sizes → List ℕ → Type 0
Entries z es = length es ≡ z.chunks * z.entries * 3

-- the task holds a chunk of the table, and an entry of it
pub record Holds (z : Sizes) (t : Task) : Type 0 where
  pub chunk : t.chunk.0 < z.chunks
  pub entry : t.entry.0 < z.entries

-- the same at those stages that the stage list says
pub record Held (z : Sizes) (t : Task) : Type 0 where
  pub chunk : (get_or stage_list t.stage (hold 0 0 0 0 0 0)).chunk ≡ 1 → t.chunk.0 < z.chunks
  pub entry : (get_or stage_list t.stage (hold 0 0 0 0 0 0)).entry ≡ 1 → t.entry.0 < z.entries
