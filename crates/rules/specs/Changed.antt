-- One change of a table, from which Broken.antt's are made: of a chunk's row, an entry's, a task's, a word of a stack, the directory's row.
use Rattle.std.specs.Prelude.{ℕ, set}
use Rattle.rules.specs.declared.Task.{Task}
use Rattle.rules.specs.declared.Chunk.{Chunk}
use Rattle.rules.specs.declared.Entry.{Entry}
use Rattle.rules.specs.Words.{limits, chunk_no, entry_no, handle_no}
use Rattle.rules.specs.Tables.{Tables, with_directory, task, put_task, stack, put_stack, chunk, put_chunk, entry, put_entry}
use Rattle.rules.specs.Stages.{goes_to, keeps, cursor_at, with_next, with_handle, with_head}
use Rattle.rules.specs.Rebalance.{with_status, with_next_chunk}

abbrev pub chunk_is : Tables → ℕ → (Chunk → Chunk) → Tables
chunk_is s c f = put_chunk s (chunk_no c) (f (chunk s (chunk_no c)))

abbrev pub status_is : ℕ → Chunk → Chunk
status_is n x = with_status x n

abbrev pub frozen_is : ℕ → Chunk → Chunk
frozen_is n x = record { status = x.status; frozen = n; min = x.min; next = x.next; head = x.head; used = x.used }

abbrev pub min_is : ℕ → Chunk → Chunk
min_is n x = record { status = x.status; frozen = x.frozen; min = n; next = x.next; head = x.head; used = x.used }

abbrev pub next_is : ℕ → Chunk → Chunk
next_is n x = with_next_chunk x (chunk_no n)

abbrev pub head_is : ℕ → Chunk → Chunk
head_is n x = with_head x (entry_no n)

abbrev pub used_is : ℕ → Chunk → Chunk
used_is n x = record { status = x.status; frozen = x.frozen; min = x.min; next = x.next; head = x.head; used = n }

-- of chunk 0's entries
abbrev pub entry_is : Tables → ℕ → (Entry → Entry) → Tables
entry_is s e f = put_entry limits s (chunk_no 0) (entry_no e) (f (entry limits s (chunk_no 0) (entry_no e)))

abbrev pub key_is : ℕ → Entry → Entry
key_is n x = record { key = n; handle = x.handle; next = x.next }

abbrev pub names_handle : ℕ → Entry → Entry
names_handle n x = with_handle x (handle_no n)

abbrev pub names_next : ℕ → Entry → Entry
names_next n x = with_next x (entry_no n)

abbrev pub task_is : Tables → ℕ → (Task → Task) → Tables
task_is s n f = put_task s n (f (task s n))

abbrev pub stage_is : ℕ → Task → Task
stage_is n t = keeps t n

abbrev pub asks : ℕ → ℕ → Task → Task
asks op f t = record { stage = t.stage; operation = op; function = f; key = t.key; argument = t.argument; chunk = t.chunk; entry = t.entry; old = t.old; new = t.new; published = t.published; swapped = t.swapped }

abbrev pub argument_is : ℕ → Task → Task
argument_is n t = record { stage = t.stage; operation = t.operation; function = t.function; key = t.key; argument = n; chunk = t.chunk; entry = t.entry; old = t.old; new = t.new; published = t.published; swapped = t.swapped }

abbrev pub of_key : ℕ → Task → Task
of_key k t = cursor_at t k

abbrev pub holds_chunk : ℕ → Task → Task
holds_chunk n t = goes_to t t.stage (chunk_no n) t.entry t.old t.new t.published t.swapped

abbrev pub holds_entry : ℕ → Task → Task
holds_entry n t = goes_to t t.stage t.chunk (entry_no n) t.old t.new t.published t.swapped

abbrev pub holds_old : ℕ → Task → Task
holds_old n t = goes_to t t.stage t.chunk t.entry (handle_no n) t.new t.published t.swapped

abbrev pub holds_new : ℕ → Task → Task
holds_new n t = goes_to t t.stage t.chunk t.entry t.old (handle_no n) t.published t.swapped

abbrev pub published_is : ℕ → Task → Task
published_is n t = goes_to t t.stage t.chunk t.entry t.old t.new n t.swapped

abbrev pub swapped_is : ℕ → Task → Task
swapped_is n t = goes_to t t.stage t.chunk t.entry t.old t.new t.published n

-- a word of a task's stack
abbrev pub stack_is : Tables → ℕ → ℕ → ℕ → Tables
stack_is s n i e = put_stack s n (set (stack s n) i (entry_no e))

-- the directory's row: its first live chunk, its rebalance's stage, old chunk and new ones
abbrev pub directory_is : Tables → ℕ → ℕ → ℕ → ℕ → ℕ → Tables
directory_is s first n old a b = with_directory s (record { first = chunk_no first; stage = n; old = chunk_no old; new = chunk_no a; second = chunk_no b; indexed = s.directory.indexed })
