-- What holds of the tables after every call: document 01's shape as propositions, and the facts that keep it.
use Rattle.std.specs.Prelude.{ℕ, ◌*◌, ◌≤◌, ◌<◌, ◌≡◌, ◌⊎◌, ◌≢◌, true, eqb, leb, length, get_or}
use mathlib.Core.List.{List, [], Memᴰ, map}
use Rattle.rules.specs.declared.Sizes.{Sizes}
use Rattle.rules.specs.declared.Directory.{Directory}
use Rattle.rules.specs.declared.Task.{Task}
use Rattle.rules.specs.declared.Chunk.{Chunk}
use Rattle.rules.specs.declared.Entry.{Entry}
use Rattle.rules.specs.declared.ChunkNo.{ChunkNo}
use Rattle.rules.specs.declared.EntryNo.{EntryNo}
use Rattle.rules.specs.declared.Write.{Write}
use Rattle.rules.specs.declared.Write.TheVariants as write
use Rattle.rules.specs.Words.{pick, ◌and◌, NONE, no_entry, unused, live, new, retired, scan_down, uses_function, idle, to_copy, to_swap, to_index, to_release}
use Rattle.rules.specs.Tables.{Tables, idle_task, empty_chunk, empty_entry, empty_stack, empty_index, chunk_at, entry_at, chunk, mark, task, stack}
use Rattle.rules.specs.Walks.{list_from, place_from, over, row_of, chain, InRange}
use Rattle.rules.specs.Map.{Ascends}
use Rattle.rules.specs.Rebalance.{unused_count}
use Rattle.rules.specs.Shape.{numbers, held_as, flag_as, fits_operation, Hold, hold, stage_list, live_count}
use Rattle.laws.specs.Counts.{Every}
use Rattle.views.specs.Views.{Links, Chained}

-- ---- a chunk with its slots
pub record RowRight (z : Sizes) (x : Chunk) : Type 0 where
  pub status : x.status ≤ retired
  pub frozen : x.frozen ≤ 1
  pub next : numbers z.chunks x.next.0 ≡ true
  pub used : x.used ≤ z.entries
  pub empty : x.status ≡ unused → x ≡ empty_chunk

pub record SlotRight (z : Sizes) (used e : ℕ) (x : Entry) : Type 0 where
  pub handle : e < used → numbers z.handles x.handle.0 ≡ true
  pub next : e < used → numbers z.entries x.next.0 ≡ true
  pub empty : used ≤ e → x ≡ empty_entry

-- the linked entries of a chunk, in order
abbrev pub listed : Sizes → List Chunk → List Entry → ChunkNo → List EntryNo
listed z cs es c = list_from z es c z.entries (chunk_at cs c).head

pub record ListRight (z : Sizes) (cs : List Chunk) (es : List Entry) (c : ChunkNo) : Type 0 where
  pub row : RowRight z (chunk_at cs c)
  pub slot : (e : EntryNo) → e.0 < z.entries → SlotRight z (chunk_at cs c).used e.0 (entry_at z es c e)
  pub links : Links z es c (chunk_at cs c).used 0 (chunk_at cs c).head (listed z cs es c)

-- ---- the live chunks
-- key-in-range: a linked key of a live chunk lies in its range
abbrev pub KeyInRange : Sizes → List Chunk → List Entry → Type 0
KeyInRange z cs es = (c : ChunkNo) → c.0 < z.chunks → (chunk_at cs c).status ≡ live → Every (λ e. InRange z cs c (entry_at z es c e).key) (listed z cs es c)

-- ---- the rebalance
-- the old chunk, the new ones, and all others: what each is, by the rebalance's stage
pub record Roles (d : Directory) (n : ℕ) (x : Chunk) : Type 0 where
  pub old : d.old.0 ≡ n → (x.frozen ≡ 1) × (x.status ≡ pick (leb to_index d.stage) retired live)
  pub new : d.old.0 ≢ n → (d.new.0 ≡ n) ⊎ (d.second.0 ≡ n) → (x.frozen ≡ 0) × (x.status ≡ pick (leb to_index d.stage) live new)
  pub other : d.old.0 ≢ n → d.new.0 ≢ n → d.second.0 ≢ n → (x.frozen ≡ 0) × ((x.status ≡ unused) ⊎ (x.status ≡ live))

-- between copy and swap in: the new chunks' minimum keys and keys lie in the old one's range, the second's from its minimum key on
pub record Made (z : Sizes) (d : Directory) (cs : List Chunk) (es : List Entry) : Type 0 where
  pub first-min : (chunk_at cs d.new).min ≡ (chunk_at cs d.old).min
  pub second-min : d.second.0 < z.chunks → (chunk_at cs d.old).min < (chunk_at cs d.second).min
  pub second-in : d.second.0 < z.chunks → InRange z cs d.old (chunk_at cs d.second).min
  pub first-keys : Every (λ e. InRange z cs d.old (entry_at z es d.new e).key) (listed z cs es d.new)
  pub first_below : d.second.0 < z.chunks → Every (λ e. (entry_at z es d.new e).key < (chunk_at cs d.second).min) (listed z cs es d.new)
  pub second-keys : d.second.0 < z.chunks → Every (λ e. InRange z cs d.old (entry_at z es d.second e).key) (listed z cs es d.second)
  pub second_from : d.second.0 < z.chunks → Every (λ e. (chunk_at cs d.second).min ≤ (entry_at z es d.second e).key) (listed z cs es d.second)

pub record Rebalancing (z : Sizes) (d : Directory) (cs : List Chunk) : Type 0 where
  pub known : d.stage ≤ to_release
  pub none : d.stage ≡ idle → d.old.0 ≡ NONE
  pub unmade : d.stage ≤ to_copy → (d.new.0 ≡ NONE) × (d.second.0 ≡ NONE)
  pub old : 1 ≤ d.stage → d.old.0 < z.chunks
  pub room : 1 ≤ d.stage → d.stage ≤ to_copy → 2 ≤ unused_count cs
  pub new : to_swap ≤ d.stage → d.new.0 < z.chunks
  pub second : to_swap ≤ d.stage → numbers z.chunks d.second.0 ≡ true
  pub apart : to_swap ≤ d.stage → d.new.0 ≢ d.second.0
  pub old-new : to_swap ≤ d.stage → d.old.0 ≢ d.new.0
  pub old-second : to_swap ≤ d.stage → d.old.0 ≢ d.second.0
  pub roles : (c : ChunkNo) → c.0 < z.chunks → Roles d c.0 (chunk_at cs c)

-- ---- the directory, the chunks and the entries
pub record Tabled (z : Sizes) (d : Directory) (cs : List Chunk) (es : List Entry) : Type 0 where
  pub chunks-sized : length cs ≡ z.chunks
  pub entries-sized : length es ≡ z.chunks * z.entries
  pub lists : (c : ChunkNo) → c.0 < z.chunks → ListRight z cs es c
  pub chained : Chained z d.first cs
  pub key-in-range : KeyInRange z cs es
  pub rebalancing : Rebalancing z d cs
  pub made : d.stage ≡ to_swap → Made z d cs es

-- ---- what a step and begin leave in every chunk's row
pub record Same (cs cs' : List Chunk) : Type 0 where
  pub sized : length cs' ≡ length cs
  pub live : live_count cs' ≡ live_count cs
  pub unused : unused_count cs' ≡ unused_count cs
  pub status : (c : ChunkNo) → (chunk_at cs' c).status ≡ (chunk_at cs c).status
  pub min : (c : ChunkNo) → (chunk_at cs' c).min ≡ (chunk_at cs c).min
  pub next : (c : ChunkNo) → (chunk_at cs' c).next ≡ (chunk_at cs c).next

-- ---- a task
-- what a stage must and may hold
abbrev pub hold_at : ℕ → Hold
hold_at n = get_or stage_list n (hold 0 0 0 0 0 0)

pub record Holds (z : Sizes) (t : Task) (h : Hold) : Type 0 where
  pub fits : fits_operation t.operation t.stage ≡ true
  pub function : pick (uses_function t.operation) (leb 1 t.function and leb t.function 3) true ≡ true
  pub chunk : held_as h.chunk z.chunks t.chunk.0 ≡ true
  pub entry : held_as h.entry z.entries t.entry.0 ≡ true
  pub old : held_as h.old z.handles t.old.0 ≡ true
  pub new : held_as h.new z.handles t.new.0 ≡ true
  pub published : flag_as h.published t.published ≡ true
  pub swapped : flag_as h.swapped t.swapped ≡ true

-- chunk-of-key: a held chunk is retired, or it is live and, but for a scan down, its range has the task's key
abbrev pub ChunkOfKey : Sizes → List Chunk → ℕ → ChunkNo → ℕ → Type 0
ChunkOfKey z cs op c k = ((chunk_at cs c).status ≡ retired) ⊎ (((chunk_at cs c).status ≡ live) × (op ≢ scan_down → InRange z cs c k))

-- a held entry is used, has the task's key, and is linked, except at 7
pub record EntryHeld (z : Sizes) (cs : List Chunk) (es : List Entry) (c : ChunkNo) (e : EntryNo) (k stage : ℕ) : Type 0 where
  pub inside : c.0 < z.chunks
  pub used : e.0 < (chunk_at cs c).used
  pub keyed : (entry_at z es c e).key ≡ k
  pub linked : stage ≢ 7 → Memᴰ e (listed z cs es c)

pub record Tasked (z : Sizes) (cs : List Chunk) (es : List Entry) (t : Task) : Type 0 where
  pub idle : t.stage ≡ 0 → t ≡ idle_task
  pub holds : t.stage ≢ 0 → Holds z t (hold_at t.stage)
  pub chunk-of-key : t.chunk.0 < z.chunks → ChunkOfKey z cs t.operation t.chunk t.key
  pub entry : t.entry.0 < z.entries → EntryHeld z cs es t.chunk t.entry t.key t.stage

-- a task's stack: its words are the entries on it, from the bottom, laid over none; they are linked in the held chunk, keys rising; nothing is on it elsewhere than at 23
pub record Stacked (z : Sizes) (cs : List Chunk) (es : List Entry) (t : Task) (w : List EntryNo) : Type 0 where
  pub on : List EntryNo
  pub words : w ≡ over on (empty_stack z)
  pub short : length on ≤ z.entries
  pub linked : Every (λ e. Memᴰ e (listed z cs es t.chunk)) on
  pub rises : Ascends (λ e. (entry_at z es t.chunk e).key) 0 on
  pub held : on ≢ [] → (t.stage ≡ 23) × (t.chunk.0 < z.chunks)

-- where the stage list says a deleted handle, the old handle's mark is 1
abbrev pub MarksHeld : Sizes → Tables → Type 0
MarksHeld z s = (n : ℕ) → eqb (hold_at (task s n).stage).old 3 ≡ true → (task s n).old.0 < z.handles → mark s (task s n).old ≡ 1

-- an entry that waits, and its place in a chunk's list that lacks its key
pub record Waits (z : Sizes) (cs : List Chunk) (es : List Entry) (c : ChunkNo) (e before : EntryNo) (k : ℕ) : Type 0 where
  pub numbered : c.0 < z.chunks
  pub in_use : (chunk_at cs c).status ≢ unused
  pub not_new : (chunk_at cs c).status ≢ new
  pub used : e.0 < (chunk_at cs c).used
  pub keyed : (entry_at z es c e).key ≡ k
  pub lacks : Every (λ x. (entry_at z es c x).key ≢ k) (listed z cs es c)
  pub placed : before ≡ place_from z es c z.entries no_entry (chunk_at cs c).head k
  pub range : (chunk_at cs c).status ≡ live → InRange z cs c k

-- what a step's write needs
abbrev pub Allowed : Sizes → List Chunk → List Entry → Write → Type 0
Allowed z cs es write.Nothing = Unit {0}
Allowed z cs es (write.Slot c k) = (c.0 < z.chunks) × ((chunk_at cs c).status ≢ unused) × ((chunk_at cs c).used < z.entries)
Allowed z cs es (write.Link c e before) = (k : ℕ) × Waits z cs es c e before k
Allowed z cs es (write.Fresh h) = Unit {0}
Allowed z cs es (write.Store h v) = Unit {0}
Allowed z cs es (write.Delete h) = Unit {0}
Allowed z cs es (write.Name c e h) = (c.0 < z.chunks) × (e.0 < (chunk_at cs c).used) × (numbers z.handles h.0 ≡ true)

-- indexed: the index has a row for each of these chunks, live or retired ones, minimum keys ascending, and is empty past them; they are the live chunks, but for between swap in and index
pub record Indexed (z : Sizes) (s : Tables) : Type 0 where
  pub chunks : List ChunkNo
  pub rows : s.index ≡ over (map (row_of s.chunks) chunks) (empty_index z)
  pub count : s.directory.indexed ≡ length chunks
  pub short : length chunks ≤ z.chunks
  pub named : Every (λ c. (c.0 < z.chunks) × (((chunk s c).status ≡ live) ⊎ ((chunk s c).status ≡ retired))) chunks
  pub ascends : Ascends (λ c. (chunk s c).min) 0 chunks
  pub lives : s.directory.stage ≢ to_index → chunks ≡ chain z s

-- what a call leaves of a chunk that is held: what a task holds there, and its minimum key
pub record Leaves (z : Sizes) (s x : Tables) (c : ChunkNo) : Type 0 where
  pub tasked : (t : Task) → t.chunk ≡ c → Tasked z s.chunks s.entries t → Tasked z x.chunks x.entries t
  pub min : (chunk_at s.chunks c).status ≢ unused → (chunk_at x.chunks c).min ≡ (chunk_at s.chunks c).min

-- ---- all of it
pub record Kept (z : Sizes) (s : Tables) : Type 0 where
  pub tasks-sized : length s.tasks ≡ z.tasks
  pub values-sized : length s.values ≡ z.handles
  pub marks-sized : length s.marks ≡ z.handles
  pub marks : (h : ℕ) → get_or s.marks h 0 ≤ 1
  pub tables : Tabled z s.directory s.chunks s.entries
  pub tasks : (n : ℕ) → Tasked z s.chunks s.entries (task s n)
  pub stacks-sized : length s.stacks ≡ z.tasks
  pub stacks : (n : ℕ) → n < z.tasks → Stacked z s.chunks s.entries (task s n) (stack s n)
