-- A case of several chunks is computed in stages, since rows that a rebalance has copied are dear to look at until they are written out.
-- The stages make the whole case, and the tables between them are those of the scans down (document 02, E1).
use Prim.Native.Nat.{ℕ, zero, suc, ◌+◌, ◌-◌, ◌*◌}
use mathlib.Core.Path.{◌≡◌, refl, ◌∙◌, sym}
use mathlib.Core.List.{List, [], ◌∷◌, ◌++◌, map}
use lib.Dec.{eqb}
use lib.ListN.{length, replicate}
use borrow.Table.Elements.{map_app}
use Rattle.rules.specs.declared.Sizes.{Sizes}
use Rattle.rules.specs.declared.Chunk.{Chunk}
use Rattle.rules.specs.declared.Entry.{Entry}
use Rattle.rules.specs.declared.ChunkNo.{ChunkNo}
use Rattle.rules.specs.declared.IndexRow.{IndexRow}
use Rattle.rules.specs.Words.{pick, limits, chunk_no, entry_no, handle_no, no_chunk, no_entry, live, idle}
use Rattle.rules.specs.Tables.{Tables, idle_task, empty_chunk, empty_entry, empty_stack, empty_row}
use Rattle.rules.specs.Rebalance.{Outcome}
use Rattle.rules.specs.Calls.{Call, does}
use Rattle.rules.specs.Unbroken.{index_row}
use Rattle.rules.specs.Lines.{Line, says, runs}
use Rattle.rules.specs.Lines.Line.{reports, shows}

-- ---- one stage after another
-- what the rules say of the lines, from the tables on, is what the lines say
abbrev pub Holds : Tables → List Line → Type 0
Holds s l = runs does s l ≡ map says l

module _ (done : Sizes → Tables → Call → Outcome) where
  -- the tables that the lines leave
  unfoldable pub left_by : Tables → List Line → Tables
  left_by s [] = s
  left_by s (reports c r ∷ l) = left_by (done limits s c).tables l
  left_by s (shows v n ∷ l) = left_by s l

  runs_on : (s : Tables) (l m : List Line) → runs done s (l ++ m) ≡ runs done s l ++ runs done (left_by s l) m
  unfolding runs left_by
  runs_on s [] m = refl
  runs_on s (reports c r ∷ l) m = rw (runs_on (done limits s c).tables l m)
  runs_on s (shows v n ∷ l) m = rw (runs_on s l m)

-- the lines hold and leave the tables t
abbrev pub Stage : Tables → List Line → Tables → Type 0
Stage s l t = Holds s l × (left_by does s l ≡ t)

-- and then lines that hold from these on hold after them
pub then-holds : (s t : Tables) (l m : List Line) → Stage s l t → Holds t m → Holds s (l ++ m)
then-holds s t l m (h, e) g = runs_on does s l m ∙ rw (e, h, g) (sym (map_app says l m))

-- ---- the tables in between, written out
-- the rows of so many keys from k on, linked one to the next from entry e on, each key under the handle of the number below it
unfoldable pub rows_from : ℕ → ℕ → ℕ → List Entry
rows_from e k zero = []
rows_from e k (suc many) = record { key = k; handle = handle_no (k - 1); next = pick (eqb many 0) no_entry (entry_no (e + 1)) } ∷ rows_from (e + 1) (k + 1) many

-- a chunk's slots
abbrev slots : ℕ → ℕ → List Entry
slots k many = rows_from 0 k many ++ replicate (limits.entries - many) empty_entry

-- a live chunk's row
abbrev live_row : ChunkNo → ℕ → ℕ → Chunk
live_row next min used = record { status = live; frozen = 0; min = min; next = next; head = entry_no 0; used = used }

-- the keys 1 to n are in, each with the value 7, and nothing is under way; the first live chunk, the rows of the chunks 0 to 3, and those of the index
abbrev resting : ℕ → ℕ → List Chunk → List Entry → List IndexRow → Tables
resting n first cs es rows = record {
  directory = record { first = chunk_no first; stage = idle; old = no_chunk; new = no_chunk; second = no_chunk; indexed = length rows };
  tasks = replicate limits.tasks idle_task;
  chunks = cs ++ replicate (limits.chunks - 4) empty_chunk;
  entries = es ++ replicate ((limits.chunks - 4) * limits.entries) empty_entry;
  values = replicate n 7 ++ replicate (limits.handles - n) 0;
  marks = replicate limits.handles 0;
  stacks = replicate limits.tasks (empty_stack limits);
  index = rows ++ replicate (limits.chunks - length rows) empty_row;
}

-- the keys 1 to 9 in one chunk
abbrev pub one : Tables
one = resting 9 0 (live_row no_chunk 0 9 ∷ empty_chunk ∷ empty_chunk ∷ empty_chunk ∷ []) (slots 1 9 ++ slots 0 0 ++ slots 0 0 ++ slots 0 0) (index_row 0 0 ∷ [])

-- the keys 1 to 17 in two
abbrev pub two : Tables
two = resting 17 1 (empty_chunk ∷ live_row (chunk_no 2) 0 9 ∷ live_row no_chunk 10 8 ∷ empty_chunk ∷ []) (slots 0 0 ++ slots 1 9 ++ slots 10 8 ++ slots 0 0) (index_row 0 1 ∷ index_row 10 2 ∷ [])

-- the keys 1 to 26 in three
abbrev pub three : Tables
three = resting 26 1 (live_row (chunk_no 3) 10 9 ∷ live_row (chunk_no 0) 0 9 ∷ empty_chunk ∷ live_row no_chunk 19 8 ∷ []) (slots 10 9 ++ slots 1 9 ++ slots 0 0 ++ slots 19 8) (index_row 0 1 ∷ index_row 10 0 ∷ index_row 19 3 ∷ [])
