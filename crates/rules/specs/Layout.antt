-- The tables as a host lends them: plain words, so many to a row (document 01, "What the tables hold").
use Rattle.std.specs.Prelude.{ℕ, zero, suc, ◌+◌, ◌*◌, List, [], ◌∷◌, get_or}
use Rattle.rules.specs.declared.Sizes.{Sizes}
use Rattle.rules.specs.declared.Directory.{Directory}
use Rattle.rules.specs.declared.IndexRow.{IndexRow}
use Rattle.rules.specs.declared.Task.{Task}
use Rattle.rules.specs.declared.Chunk.{Chunk}
use Rattle.rules.specs.declared.Entry.{Entry}
use Rattle.rules.specs.declared.EntryNo.{EntryNo}
use Rattle.rules.specs.Words.{chunk_no, entry_no, handle_no}
use Rattle.rules.specs.Tables.{Tables}

-- n rows, the first of number i
unfoldable pub rows_from : {A : Type 0} → (ℕ → A) → ℕ → ℕ → List A
rows_from f i zero = []
rows_from f i (suc n) = f i ∷ rows_from f (i + 1) n

-- ---- a row of words
abbrev pub directory_of : List ℕ → Directory
directory_of ws = record { first = chunk_no (get_or ws 0 0); stage = get_or ws 1 0; old = chunk_no (get_or ws 2 0); new = chunk_no (get_or ws 3 0); second = chunk_no (get_or ws 4 0); indexed = get_or ws 5 0 }

-- a row of the index: after the directory's own row two words for each chunk
abbrev pub index_of : List ℕ → ℕ → IndexRow
index_of ws i = record { min = get_or ws (6 + i * 2) 0; chunk = chunk_no (get_or ws (6 + i * 2 + 1) 0) }

abbrev pub task_of : List ℕ → ℕ → Task
task_of ws i = record { stage = get_or ws (i * 11) 0; operation = get_or ws (i * 11 + 1) 0; function = get_or ws (i * 11 + 2) 0; key = get_or ws (i * 11 + 3) 0; argument = get_or ws (i * 11 + 4) 0; chunk = chunk_no (get_or ws (i * 11 + 5) 0); entry = entry_no (get_or ws (i * 11 + 6) 0); old = handle_no (get_or ws (i * 11 + 7) 0); new = handle_no (get_or ws (i * 11 + 8) 0); published = get_or ws (i * 11 + 9) 0; swapped = get_or ws (i * 11 + 10) 0 }

-- a task's stack: after every task's row so many words for each task as a chunk has entries
abbrev pub stack_of : Sizes → List ℕ → ℕ → List EntryNo
stack_of z ws i = rows_from (λ e. entry_no (get_or ws (z.tasks * 11 + (i * z.entries + e)) 0)) 0 z.entries

abbrev pub chunk_of : List ℕ → ℕ → Chunk
chunk_of ws i = record { status = get_or ws (i * 6) 0; frozen = get_or ws (i * 6 + 1) 0; min = get_or ws (i * 6 + 2) 0; next = chunk_no (get_or ws (i * 6 + 3) 0); head = entry_no (get_or ws (i * 6 + 4) 0); used = get_or ws (i * 6 + 5) 0 }

abbrev pub entry_of : List ℕ → ℕ → Entry
entry_of ws i = record { key = get_or ws (i * 3) 0; handle = handle_no (get_or ws (i * 3 + 1) 0); next = entry_no (get_or ws (i * 3 + 2) 0) }

-- ---- a table of rows
abbrev pub index_rows : ℕ → List ℕ → List IndexRow
index_rows n ws = rows_from (index_of ws) 0 n

abbrev pub task_rows : ℕ → List ℕ → List Task
task_rows n ws = rows_from (task_of ws) 0 n

abbrev pub stack_rows : Sizes → List ℕ → List (List EntryNo)
stack_rows z ws = rows_from (stack_of z ws) 0 z.tasks

abbrev pub chunk_rows : ℕ → List ℕ → List Chunk
chunk_rows n ws = rows_from (chunk_of ws) 0 n

abbrev pub entry_rows : ℕ → List ℕ → List Entry
entry_rows n ws = rows_from (entry_of ws) 0 n

-- every table, of the words that are lent
abbrev pub tables : Sizes → List ℕ → List ℕ → List ℕ → List ℕ → List ℕ → List ℕ → Tables
tables z d ts cs es vs ms = record { directory = directory_of d; tasks = task_rows z.tasks ts; chunks = chunk_rows z.chunks cs; entries = entry_rows (z.chunks * z.entries) es; values = vs; marks = ms; stacks = stack_rows z ts; index = index_rows z.chunks d }
