-- The shape that every call tests first, and refuses by 10 where it fails (document 01, "Shape, checked by every call first").
use Rattle.std.specs.Prelude.{ℕ, zero, suc, ◌+◌, ◌*◌, Bool, true, false, not, List, [], ◌∷◌, eqb, ltb, leb, length, get_or, take, drop}
use Rattle.rules.specs.declared.Sizes.{Sizes}
use Rattle.rules.specs.declared.Directory.{Directory}
use Rattle.rules.specs.declared.Task.{Task}
use Rattle.rules.specs.declared.Chunk.{Chunk}
use Rattle.rules.specs.declared.Entry.{Entry}
use Rattle.rules.specs.declared.ChunkNo.{ChunkNo}
use Rattle.rules.specs.declared.EntryNo.{EntryNo}
use Rattle.rules.specs.declared.HandleNo.{HandleNo}
use Rattle.rules.specs.declared.IndexRow.{IndexRow}
use Rattle.rules.specs.Words.{pick, ◌and◌, ◌or◌, NONE, chunk_no, entry_no, no_chunk, no_entry, unused, live, new, retired, get, put, put_if_absent, upsert, compute, remove, scan, scan_down, uses_function, idle, to_drain, to_copy, to_swap, to_index, to_release}
use Rattle.rules.specs.Tables.{Tables, idle_task, empty_chunk, empty_entry, task, stack, chunk, chunk_at, entry, entry_at, mark}
use Rattle.rules.specs.Rebalance.{unused_count}

-- ---- tests on lists
-- the test holds of each row, and of its number, from n on
unfoldable pub each : {A : Type 0} → (ℕ → A → Bool) → ℕ → List A → Bool
each p n [] = true
each p n (x ∷ l) = let on = each p (n + 1) l in pick (p n x) on false

-- a chunk's slots
abbrev pub slots_of : Sizes → List Entry → ChunkNo → List Entry
slots_of z es c = take z.entries (drop (c.0 * z.entries) es)

-- ---- rows of 0 and none
abbrev pub is_none : ℕ → Bool
is_none n = eqb n NONE

-- a number of a table of that size, or none
abbrev pub numbers : ℕ → ℕ → Bool
numbers size n = ltb n size or is_none n

-- words of a stack that are none
abbrev pub all_none : List EntryNo → Bool
all_none w = each (λ n e. is_none e.0) 0 w

abbrev pub is_empty_entry : Entry → Bool
is_empty_entry x = eqb x.key 0 and is_none x.handle.0 and is_none x.next.0

abbrev pub is_empty_row : IndexRow → Bool
is_empty_row x = eqb x.min 0 and is_none x.chunk.0

abbrev pub is_empty_chunk : Chunk → Bool
is_empty_chunk x = eqb x.status 0 and eqb x.frozen 0 and eqb x.min 0 and is_none x.next.0 and is_none x.head.0 and eqb x.used 0

abbrev pub holds_nothing : Task → Bool
holds_nothing t = is_none t.chunk.0 and is_none t.entry.0 and is_none t.old.0 and is_none t.new.0 and eqb t.published 0 and eqb t.swapped 0

abbrev pub is_idle : Task → Bool
is_idle t = eqb t.operation 0 and eqb t.function 0 and eqb t.key 0 and eqb t.argument 0 and holds_nothing t

-- ---- "each stage is known, holds what the stage list says": what each of the 24 stages must hold and may hold
pub record Hold : Type 0 where
  pub chunk : ℕ
  pub entry : ℕ
  pub old : ℕ
  pub new : ℕ
  pub published : ℕ
  pub swapped : ℕ

-- 0 holds it never, 1 always, 2 perhaps; 3, of an old handle: always, and it is deleted
abbrev pub hold : ℕ → ℕ → ℕ → ℕ → ℕ → ℕ → Hold
hold c e o n p w = record { chunk = c; entry = e; old = o; new = n; published = p; swapped = w }

abbrev pub stage_list : List Hold
stage_list =
    hold 0 0 0 0 0 0 ∷ hold 0 0 0 0 0 0 ∷ hold 1 0 0 0 0 0 ∷ hold 1 1 0 0 0 0
    ∷ hold 1 1 1 0 0 0 ∷ hold 1 1 1 0 0 0 ∷ hold 1 0 0 0 0 0 ∷ hold 1 1 0 0 0 0
    ∷ hold 1 1 2 0 0 0 ∷ hold 1 1 2 1 0 0 ∷ hold 1 1 2 1 0 0 ∷ hold 1 1 2 1 1 0
    ∷ hold 1 1 2 1 1 2 ∷ hold 1 1 1 0 0 0 ∷ hold 1 1 1 0 1 0 ∷ hold 1 1 1 0 1 2
    ∷ hold 0 0 3 0 0 0 ∷ hold 1 0 3 0 0 0 ∷ hold 1 1 3 0 0 0 ∷ hold 1 1 3 0 0 0
    ∷ hold 1 1 3 0 1 0 ∷ hold 1 1 3 0 1 0 ∷ hold 0 0 0 0 0 0 ∷ hold 2 0 0 0 0 0 ∷ []

-- a number is held as the list says: never: none; always: of its table; perhaps: either
abbrev pub held_as : ℕ → ℕ → ℕ → Bool
held_as how size n = pick (eqb how 0) (is_none n) (pick (eqb how 2) (numbers size n) (ltb n size))

-- a held old handle's mark is 1 where the list says a deleted one
abbrev pub mark_as : ℕ → ℕ → Bool
mark_as how m = pick (eqb how 3) (eqb m 1) true

abbrev pub flag_as : ℕ → ℕ → Bool
flag_as how n = pick (eqb how 2) (leb n 1) (eqb n how)

-- "and fits its operation"
abbrev pub fits_operation : ℕ → ℕ → Bool
fits_operation op n =
    pick (eqb op get) (leb 1 n and leb n 4)
    (pick (eqb op put_if_absent) ((leb 1 n and leb n 4) or (leb 6 n and leb n 12))
    (pick (eqb op put or eqb op upsert) (leb 1 n and leb n 12)
    (pick (eqb op compute) ((leb 1 n and leb n 5) or (leb 13 n and leb n 15))
    (pick (eqb op remove) ((leb 1 n and leb n 5) or (leb 13 n and leb n 21))
    (pick (eqb op scan) (eqb n 22)
    (pick (eqb op scan_down) (eqb n 23) false))))))

-- ---- walks
unfoldable pub live_count : List Chunk → ℕ
live_count [] = 0
live_count (x ∷ l) = pick (eqb x.status live) (live_count l + 1) (live_count l)

module _ (z : Sizes) where
  -- the list from e on ends within the fuel, is of used entries, and its keys ascend from k on
  unfoldable pub ascends_from : List Entry → ChunkNo → ℕ → ℕ → EntryNo → ℕ → Bool
  ascends_from es c used zero e k = is_none e.0
  ascends_from es c used (suc fuel) e k =
      let on = ascends_from es c used fuel (entry_at z es c e).next ((entry_at z es c e).key + 1) in
      let here = pick (ltb e.0 used and leb k (entry_at z es c e).key) on false in
      pick (is_none e.0) true here

  -- how many live chunks stand from c on, their minimum keys ascending from k on; past the table's size where that breaks
  unfoldable pub chain_count : List Chunk → ℕ → ChunkNo → ℕ → ℕ → ℕ
  chain_count cs zero c k n = z.chunks + 1
  chain_count cs (suc fuel) c k n =
      let on = chain_count cs fuel (chunk_at cs c).next ((chunk_at cs c).min + 1) (n + 1) in
      let here = pick (eqb (chunk_at cs c).status live and leb k (chunk_at cs c).min) (pick (is_none (chunk_at cs c).next.0) (n + 1) on) (z.chunks + 1) in
      pick (ltb c.0 z.chunks) here (z.chunks + 1)

  -- x is linked, from e on
  unfoldable pub linked_from : List Entry → ChunkNo → ℕ → EntryNo → EntryNo → Bool
  linked_from es c zero e x = false
  linked_from es c (suc fuel) e x =
      let on = linked_from es c fuel (entry_at z es c e).next x in
      pick (ltb e.0 z.entries) (pick (eqb e.0 x.0) true on) false

  -- a stack's words: entries linked from head on, their keys strictly rising from k on, and then none to the end
  unfoldable pub rises_from : List Entry → ChunkNo → EntryNo → ℕ → List EntryNo → Bool
  rises_from es c head k [] = true
  rises_from es c head k (e ∷ w) =
      let past = all_none w in
      let on = rises_from es c head ((entry_at z es c e).key + 1) w in
      let here = pick (linked_from es c z.entries head e and leb k (entry_at z es c e).key) on false in
      pick (is_none e.0) past here

  -- the row names a live or retired chunk, and has its minimum key
  abbrev pub names_chunk : List Chunk → IndexRow → Bool
  names_chunk cs x =
      ltb x.chunk.0 z.chunks
      and (eqb (chunk_at cs x.chunk).status live or eqb (chunk_at cs x.chunk).status retired)
      and eqb x.min (chunk_at cs x.chunk).min

  -- so many rows, and there are as many, name chunks, their minimum keys ascending from k on; those past them are empty
  unfoldable pub rows_ascend : List Chunk → ℕ → ℕ → List IndexRow → Bool
  rows_ascend cs many k [] = eqb many 0
  rows_ascend cs zero k (x ∷ l) = let on = rows_ascend cs zero k l in is_empty_row x and on
  rows_ascend cs (suc many) k (x ∷ l) = let on = rows_ascend cs many (x.min + 1) l in leb k x.min and names_chunk cs x and on

module _ (z : Sizes) (s : Tables) where
  -- ---- the tables' lengths
  abbrev pub sized : Bool
  sized =
      eqb (length s.tasks) z.tasks
      and eqb (length s.chunks) z.chunks
      and eqb (length s.entries) (z.chunks * z.entries)
      and eqb (length s.values) z.handles
      and eqb (length s.marks) z.handles
      and eqb (length s.stacks) z.tasks
      and each (λ n w. eqb (length w) z.entries) 0 s.stacks
      and eqb (length s.index) z.chunks

  -- ---- "each number lies in its table or is none where none is allowed"; a mark, a status, a count lies in its range
  abbrev pub chunk_numbers : Chunk → Bool
  chunk_numbers x = leb x.status retired and leb x.frozen 1 and numbers z.chunks x.next.0 and numbers z.entries x.head.0 and leb x.used z.entries

  -- ---- "linked entries are used ones, and unused chunks, unused slots hold only 0 and none; each chunk's list ends within 32 entries, keys strictly ascending"
  abbrev pub slot_right : ℕ → ℕ → Entry → Bool
  slot_right used e x = pick (ltb e used) (numbers z.handles x.handle.0 and numbers z.entries x.next.0) (is_empty_entry x)

  abbrev pub chunk_right : ℕ → Chunk → Bool
  chunk_right n x =
      let list = ascends_from z s.entries (chunk_no n) x.used z.entries x.head 0 in
      let row = pick (eqb x.status unused) (is_empty_chunk x) (chunk_numbers x) in
      let slots = each (slot_right x.used) 0 (slots_of z s.entries (chunk_no n)) in
      row and slots and list

  -- ---- "the chain from the first live chunk holds every live chunk and no other, from key 0, minimum keys strictly ascending": every one, since it has as many as there are
  abbrev pub chained : Bool
  chained = eqb (chunk s s.directory.first).min 0 and eqb (chain_count z s.chunks z.chunks s.directory.first 0 0) (live_count s.chunks)

  -- ---- the tasks
  -- "a held chunk is in use, a held entry used, with the task's key, linked except at 7", where it may be either
  abbrev pub holds_entry : Task → Bool
  holds_entry t =
      let linked = linked_from z s.entries t.chunk z.entries (chunk s t.chunk).head t.entry in
      ltb t.entry.0 (chunk s t.chunk).used and eqb (entry z s t.chunk t.entry).key t.key and pick (eqb t.stage 7) true linked

  abbrev pub holds_right : Task → Hold → Bool
  holds_right t h =
      let there = holds_entry t in
      held_as h.chunk z.chunks t.chunk.0
      and held_as h.entry z.entries t.entry.0
      and held_as h.old z.handles t.old.0
      and held_as h.new z.handles t.new.0
      and flag_as h.published t.published
      and flag_as h.swapped t.swapped
      and mark_as h.old (mark s t.old)
      and pick (is_none t.chunk.0) true (ltb 0 (chunk s t.chunk).status)
      and pick (eqb h.entry 0) true there

  abbrev pub task_right : ℕ → Task → Bool
  task_right n t =
      let busy = fits_operation t.operation t.stage and pick (uses_function t.operation) (leb 1 t.function and leb t.function 3) true and holds_right t (get_or stage_list t.stage (hold 0 0 0 0 0 0)) in
      pick (eqb t.stage 0) (is_idle t) busy

  -- a task's stack (document 02, E1): at 23 with a chunk "its stack being linked entries of the held chunk, keys rising to the top, whatever the task's key", and none past the top; else nothing is on it
  abbrev pub stack_right : ℕ → Task → Bool
  stack_right n t =
      let w = stack s n in
      let none = all_none w in
      let rises = rises_from z s.entries t.chunk (chunk s t.chunk).head 0 w in
      pick (eqb t.stage 23 and ltb t.chunk.0 z.chunks) rises none

  -- ---- "A rebalancer's chunks must fit its stage"
  -- the chunk is its old one, one of its new ones, or neither: "No other is frozen, new or retired"
  abbrev pub chunk_fits : Directory → ℕ → Chunk → Bool
  chunk_fits d n x =
      let is_old = eqb d.old.0 n in
      let is_new = eqb d.new.0 n or eqb d.second.0 n in
      eqb x.frozen (pick is_old 1 0)
      and pick is_old (eqb x.status (pick (leb to_index d.stage) retired live))
      (pick is_new (eqb x.status (pick (leb to_index d.stage) live new))
      (eqb x.status unused or eqb x.status live))

  -- no new chunks yet, and two unused ones for them
  abbrev pub before_copy : Bool
  before_copy = (is_none s.directory.new.0 and is_none s.directory.second.0) and ltb s.directory.old.0 z.chunks and leb 2 (unused_count s.chunks)

  -- one new chunk or two, and no chunk twice
  abbrev pub after_copy : Bool
  after_copy =
      ltb s.directory.old.0 z.chunks
      and ltb s.directory.new.0 z.chunks
      and numbers z.chunks s.directory.second.0
      and not (eqb s.directory.new.0 s.directory.second.0)
      and not (eqb s.directory.old.0 s.directory.new.0)
      and not (eqb s.directory.old.0 s.directory.second.0)

  abbrev pub rebalance_fits : Bool
  rebalance_fits =
      let d = s.directory in
      let stages =
      pick (eqb d.stage idle) (is_none d.old.0 and is_none d.new.0 and is_none d.second.0)
      (pick (eqb d.stage to_drain or eqb d.stage to_copy) before_copy
      (pick (leb to_swap d.stage and leb d.stage to_release) after_copy false)) in
      stages and each (chunk_fits d) 0 s.chunks

  -- ---- the index (document 02, E3): "rows ascend, each names a live or retired chunk and has its minimum key"; words past its count are 0 and none
  abbrev pub index_right : Bool
  index_right = rows_ascend z s.chunks s.directory.indexed 0 s.index

  -- ---- all of it
  unfoldable pub shape : Bool
  shape =
      let marks = each (λ n m. leb m 1) 0 s.marks in
      let chunks = each chunk_right 0 s.chunks in
      let tasks = each task_right 0 s.tasks in
      let stacks = each stack_right 0 s.tasks in
      let rebalance = rebalance_fits in
      let chain = chained in
      let index = index_right in
      sized and marks and ltb s.directory.first.0 z.chunks and chunks and chain and tasks and stacks and rebalance and index
