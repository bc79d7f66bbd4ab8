-- What the shape says of the tasks and of the rebalance where the rules have no name for it.
use Rattle.std.specs.Prelude.{ℕ, ◌<◌, Bool, true, List, [], ◌≡◌, eqb, leb, get_or}
use Rattle.rules.specs.declared.Sizes.{Sizes}
use Rattle.rules.specs.declared.Directory.{Directory}
use Rattle.rules.specs.declared.Chunk.{Chunk}
use Rattle.rules.specs.declared.Task.{Task}
use Rattle.rules.specs.Words.{pick, ◌and◌, ◌or◌, uses_function, limits}
use Rattle.rules.specs.Tables.{Tables}
use Rattle.rules.specs.Rebalance.{unused_count}
use Rattle.rules.specs.Shape.{each, Hold, hold, stage_list, held_as, flag_as, chunk_fits, rebalance_fits}
use Rattle.shape.specs.declared.stages.How.{How}
use Rattle.shape.specs.declared.stages.How.TheVariants.{Never, Always, Perhaps, Deleted}
use Rattle.shape.specs.declared.stages.Holds.{Holds}

-- ---- the tasks
-- the rules' number for it
abbrev pub number : How → ℕ
number Never = 0
number Always = 1
number Perhaps = 2
number Deleted = 3

-- a row of the code's table of stages, as the rules have it
abbrev pub hold_of : Holds → Hold
hold_of h = hold (number h.chunk) (number h.entry) (number h.old) (number h.new) (number h.published) (number h.swapped)

-- an entry is held always or never, and with it a chunk
abbrev pub entry_with_chunk : Holds → Bool
entry_with_chunk h = eqb (number h.entry) 0 or (eqb (number h.entry) 1 and eqb (number h.chunk) 1)

pub record Listed (n : ℕ) (h : Holds) : Type 0 where
  pub row : hold_of h ≡ get_or stage_list n (hold 0 0 0 0 0 0)
  pub paired : entry_with_chunk h ≡ true

-- the function is known where the operation uses one
abbrev pub function_right : ℕ → ℕ → Bool
function_right op f = pick (uses_function op) (leb 1 f and leb f 3) true

-- the task's numbers and flags are as the row says
abbrev pub numbers_right : Sizes → Task → Hold → Bool
numbers_right z t h =
    held_as h.chunk z.chunks t.chunk.0
    and held_as h.entry z.entries t.entry.0
    and held_as h.old z.handles t.old.0
    and held_as h.new z.handles t.new.0
    and flag_as h.published t.published
    and flag_as h.swapped t.swapped

-- the task's chunk and entry are of the tables
pub record Held (z : Sizes) (t : Task) : Type 0 where
  pub chunk : t.chunk.0 < z.chunks
  pub entry : t.entry.0 < z.entries

-- ---- the rebalance
-- tables of which the directory's row and the chunks are asked
abbrev pub headed : Directory → List Chunk → Tables
headed d cs = record { directory = d; tasks = []; chunks = cs; entries = []; values = []; marks = []; stacks = []; index = [] }

-- whether a chunk fits the rebalance: neither the sizes nor a table is asked
abbrev pub fits_in : Directory → ℕ → Chunk → Bool
fits_in d n x = chunk_fits limits (headed d []) d n x

-- whether the rebalance's own numbers fit its stage, where two chunks are unused or not: what is left to ask is every chunk
abbrev pub StageFits : Sizes → Directory → Bool → Bool → Type 0
StageFits z d two fits = (cs : List Chunk) → leb 2 (unused_count cs) ≡ two → rebalance_fits z (headed d cs) ≡ (fits and each (fits_in d) 0 cs)
