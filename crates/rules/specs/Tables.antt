-- The tables, and each row read and written (document 01, "What the tables hold").
use Rattle.std.specs.Prelude.{ℕ, ◌+◌, ◌*◌, List, [], get_or, set, replicate}
use Rattle.rules.specs.declared.Sizes.{Sizes}
use Rattle.rules.specs.declared.Directory.{Directory}
use Rattle.rules.specs.declared.IndexRow.{IndexRow}
use Rattle.rules.specs.declared.Task.{Task}
use Rattle.rules.specs.declared.Chunk.{Chunk}
use Rattle.rules.specs.declared.Entry.{Entry}
use Rattle.rules.specs.declared.ChunkNo.{ChunkNo}
use Rattle.rules.specs.declared.EntryNo.{EntryNo}
use Rattle.rules.specs.declared.HandleNo.{HandleNo}
use Rattle.rules.specs.Words.{no_chunk, no_entry, no_handle}

-- every table. The entries of chunk c stand in rows c * entries and on; a handle's record is its value and its mark, 1 where deleted; a task's stack has a word for each entry of a chunk, none past the top; the index has a row for each chunk, those past its count empty
pub record Tables : Type 0 where
  pub directory : Directory
  pub tasks : List Task
  pub chunks : List Chunk
  pub entries : List Entry
  pub values : List ℕ
  pub marks : List ℕ
  pub stacks : List (List EntryNo)
  pub index : List IndexRow

-- ---- rows that "hold only 0 and none"
abbrev pub idle_task : Task
idle_task = record { stage = 0; operation = 0; function = 0; key = 0; argument = 0; chunk = no_chunk; entry = no_entry; old = no_handle; new = no_handle; published = 0; swapped = 0 }

abbrev pub empty_chunk : Chunk
empty_chunk = record { status = 0; frozen = 0; min = 0; next = no_chunk; head = no_entry; used = 0 }

abbrev pub empty_entry : Entry
empty_entry = record { key = 0; handle = no_handle; next = no_entry }

abbrev pub empty_row : IndexRow
empty_row = record { min = 0; chunk = no_chunk }

-- an index without rows
abbrev pub empty_index : Sizes → List IndexRow
empty_index z = replicate z.chunks empty_row

-- a stack with nothing on it
abbrev pub empty_stack : Sizes → List EntryNo
empty_stack z = replicate z.entries no_entry

-- ---- a table written anew
abbrev pub with_directory : Tables → Directory → Tables
with_directory s x = record { directory = x; tasks = s.tasks; chunks = s.chunks; entries = s.entries; values = s.values; marks = s.marks; stacks = s.stacks; index = s.index }

abbrev pub with_tasks : Tables → List Task → Tables
with_tasks s x = record { directory = s.directory; tasks = x; chunks = s.chunks; entries = s.entries; values = s.values; marks = s.marks; stacks = s.stacks; index = s.index }

abbrev pub with_chunks : Tables → List Chunk → Tables
with_chunks s x = record { directory = s.directory; tasks = s.tasks; chunks = x; entries = s.entries; values = s.values; marks = s.marks; stacks = s.stacks; index = s.index }

abbrev pub with_entries : Tables → List Entry → Tables
with_entries s x = record { directory = s.directory; tasks = s.tasks; chunks = s.chunks; entries = x; values = s.values; marks = s.marks; stacks = s.stacks; index = s.index }

abbrev pub with_values : Tables → List ℕ → Tables
with_values s x = record { directory = s.directory; tasks = s.tasks; chunks = s.chunks; entries = s.entries; values = x; marks = s.marks; stacks = s.stacks; index = s.index }

abbrev pub with_marks : Tables → List ℕ → Tables
with_marks s x = record { directory = s.directory; tasks = s.tasks; chunks = s.chunks; entries = s.entries; values = s.values; marks = x; stacks = s.stacks; index = s.index }

abbrev pub with_stacks : Tables → List (List EntryNo) → Tables
with_stacks s x = record { directory = s.directory; tasks = s.tasks; chunks = s.chunks; entries = s.entries; values = s.values; marks = s.marks; stacks = x; index = s.index }

abbrev pub with_index : Tables → List IndexRow → Tables
with_index s x = record { directory = s.directory; tasks = s.tasks; chunks = s.chunks; entries = s.entries; values = s.values; marks = s.marks; stacks = s.stacks; index = x }

-- what is a task's own: the tasks' rows and their stacks
abbrev pub with_own : Tables → List Task → List (List EntryNo) → Tables
with_own s x y = record { directory = s.directory; tasks = x; chunks = s.chunks; entries = s.entries; values = s.values; marks = s.marks; stacks = y; index = s.index }

-- ---- a row read and written
abbrev pub task : Tables → ℕ → Task
task s n = get_or s.tasks n idle_task

abbrev pub put_task : Tables → ℕ → Task → Tables
put_task s n t = with_tasks s (set s.tasks n t)

-- a task's stack, its words from the bottom on
abbrev pub stack : Tables → ℕ → List EntryNo
stack s n = get_or s.stacks n []

abbrev pub put_stack : Tables → ℕ → List EntryNo → Tables
put_stack s n w = with_stacks s (set s.stacks n w)

abbrev pub chunk_at : List Chunk → ChunkNo → Chunk
chunk_at cs c = get_or cs c.0 empty_chunk

abbrev pub chunk : Tables → ChunkNo → Chunk
chunk s c = chunk_at s.chunks c

abbrev pub put_chunk : Tables → ChunkNo → Chunk → Tables
put_chunk s c x = with_chunks s (set s.chunks c.0 x)

abbrev pub row : Sizes → ChunkNo → EntryNo → ℕ
row z c e = c.0 * z.entries + e.0

abbrev pub entry_at : Sizes → List Entry → ChunkNo → EntryNo → Entry
entry_at z es c e = get_or es (row z c e) empty_entry

abbrev pub entry : Sizes → Tables → ChunkNo → EntryNo → Entry
entry z s c e = entry_at z s.entries c e

abbrev pub put_entry : Sizes → Tables → ChunkNo → EntryNo → Entry → Tables
put_entry z s c e x = with_entries s (set s.entries (row z c e) x)

abbrev pub value : Tables → HandleNo → ℕ
value s h = get_or s.values h.0 0

abbrev pub put_value : Tables → HandleNo → ℕ → Tables
put_value s h v = with_values s (set s.values h.0 v)

-- 1 where the handle is deleted
abbrev pub mark : Tables → HandleNo → ℕ
mark s h = get_or s.marks h.0 0

abbrev pub put_mark : Tables → HandleNo → ℕ → Tables
put_mark s h m = with_marks s (set s.marks h.0 m)
