-- What the tables say: which chunk has a key, which entry of it, what is present, which handle is free (document 01, "What the tables hold").
-- A walk takes the table that it walks. It has as many steps as its list may have members, and a number past the table ends it, as none does.
use Rattle.std.specs.Prelude.{ℕ, zero, suc, ◌+◌, ◌-◌, ◌≤◌, ◌<◌, ◌≡◌, Bool, true, false, not, eqb, ltb, leb, get_or, set}
use mathlib.Core.List.{List, [], ◌∷◌, Memᴰ, map}
use Rattle.rules.specs.declared.Sizes.{Sizes}
use Rattle.rules.specs.declared.Task.{Task}
use Rattle.rules.specs.declared.Chunk.{Chunk}
use Rattle.rules.specs.declared.Entry.{Entry}
use Rattle.rules.specs.declared.ChunkNo.{ChunkNo}
use Rattle.rules.specs.declared.EntryNo.{EntryNo}
use Rattle.rules.specs.declared.HandleNo.{HandleNo}
use Rattle.rules.specs.declared.IndexRow.{IndexRow}
use Rattle.rules.specs.Words.{pick, ◌and◌, ◌or◌, NONE, chunk_no, entry_no, handle_no, no_chunk, no_entry, no_handle, live}
use Rattle.rules.specs.Tables.{Tables, chunk_at, entry_at, chunk, value}

-- ---- along the live chunks
module _ (z : Sizes) (cs : List Chunk) where
  -- the last chunk from c on whose minimum key is at most the key
  unfoldable pub locate_from : ℕ → ChunkNo → ℕ → ChunkNo
  locate_from zero c k = c
  locate_from (suc fuel) c k =
      let on = locate_from fuel (chunk_at cs c).next k in
      pick (ltb (chunk_at cs c).next.0 z.chunks and leb (chunk_at cs (chunk_at cs c).next).min k) on c

  -- the chunk from c on whose next is x, or none
  unfoldable pub before_from : ℕ → ChunkNo → ChunkNo → ChunkNo
  before_from zero c x = no_chunk
  before_from (suc fuel) c x =
      let on = before_from fuel (chunk_at cs c).next x in
      pick (eqb (chunk_at cs c).next.0 x.0) c (pick (ltb (chunk_at cs c).next.0 z.chunks) on no_chunk)

  -- the chunks from c on, along next
  unfoldable pub chain_from : ℕ → ChunkNo → List ChunkNo
  chain_from zero c = []
  chain_from (suc fuel) c = let on = c ∷ chain_from fuel (chunk_at cs c).next in pick (ltb c.0 z.chunks) on []

-- the index's row for a chunk
abbrev pub row_of : List Chunk → ChunkNo → IndexRow
row_of cs c = record { min = (chunk_at cs c).min; chunk = c }

-- "A live chunk's range runs from its minimum key up to, not including, the next live chunk's": the key lies in it
pub record InRange (z : Sizes) (cs : List Chunk) (c : ChunkNo) (k : ℕ) : Type 0 where
  pub from : (chunk_at cs c).min ≤ k
  pub to : (chunk_at cs c).next.0 < z.chunks → k < (chunk_at cs (chunk_at cs c).next).min

-- ---- along a chunk's list
module _ (z : Sizes) (es : List Entry) (c : ChunkNo) where
  -- the linked entries from e on, in order
  unfoldable pub list_from : ℕ → EntryNo → List EntryNo
  list_from zero e = []
  list_from (suc fuel) e = let on = e ∷ list_from fuel (entry_at z es c e).next in pick (ltb e.0 z.entries) on []

  -- the first linked entry from e on with the key, or none
  unfoldable pub find_from : ℕ → EntryNo → ℕ → EntryNo
  find_from zero e k = no_entry
  find_from (suc fuel) e k =
      let on = find_from fuel (entry_at z es c e).next k in
      pick (ltb e.0 z.entries) (pick (eqb (entry_at z es c e).key k) e on) no_entry

  -- the last linked entry from e on with a key below k, or the one given
  unfoldable pub place_from : ℕ → EntryNo → EntryNo → ℕ → EntryNo
  place_from zero before e k = before
  place_from (suc fuel) before e k =
      let on = place_from fuel e (entry_at z es c e).next k in
      pick (ltb e.0 z.entries and ltb (entry_at z es c e).key k) on before

-- "Scan from..to: the lower end counts", and "the upper end is now included, upward and downward" (document 02, E5): the key lies in the range
abbrev pub lies : ℕ → ℕ → ℕ → Bool
lies from to k = leb from k and leb k to

-- the linked entries from e on with a key from..to, in order
module _ (z : Sizes) (es : List Entry) (c : ChunkNo) (from to : ℕ) where
  unfoldable pub within_from : ℕ → EntryNo → List EntryNo
  within_from zero e = []
  within_from (suc fuel) e =
      let on = within_from fuel (entry_at z es c e).next in
      let more = pick (lies from to (entry_at z es c e).key) (e ∷ on) on in
      pick (ltb e.0 z.entries) more []

-- ---- a task's stack
-- how many entries are on it: the words before the first that is none
unfoldable pub depth : Sizes → List EntryNo → ℕ
depth z [] = 0
depth z (e ∷ w) = let on = depth z w + 1 in pick (ltb e.0 z.entries) on 0

-- the one on top, or no number of an entry where there is none
abbrev pub top : Sizes → List EntryNo → EntryNo
top z w = get_or w (depth z w - 1) no_entry

-- without that one
abbrev pub off : Sizes → List EntryNo → List EntryNo
off z w = set w (depth z w - 1) no_entry

-- the list laid over the words, from the first on
unfoldable pub over : {A : Type 0} → List A → List A → List A
over [] w = w
over (e ∷ l) [] = []
over (e ∷ l) (x ∷ w) = e ∷ over l w

-- ---- handles
-- the handle is one of the table, and its mark is 0
abbrev pub undeleted : Sizes → List ℕ → HandleNo → Bool
undeleted z ms h = ltb h.0 z.handles and eqb (get_or ms h.0 0) 0

-- the first linked entry from e on with a key from..to that names an undeleted handle, or none
module _ (z : Sizes) (es : List Entry) (ms : List ℕ) (c : ChunkNo) (from to : ℕ) where
  unfoldable pub present_from : ℕ → EntryNo → EntryNo
  present_from zero e = no_entry
  present_from (suc fuel) e =
      let on = present_from fuel (entry_at z es c e).next in
      pick (ltb e.0 z.entries)
      (pick (lies from to (entry_at z es c e).key and undeleted z ms (entry_at z es c e).handle) e on)
      no_entry

-- ---- which handle is free
unfoldable pub named_in : List Entry → HandleNo → Bool
named_in [] h = false
named_in (x ∷ l) h = let on = named_in l h in pick (eqb x.handle.0 h.0) true on

unfoldable pub held_in : List Task → HandleNo → Bool
held_in [] h = false
held_in (t ∷ l) h = let on = held_in l h in pick (eqb t.old.0 h.0 or eqb t.new.0 h.0) true on

-- "free exactly when no entry of a live, new or retired chunk names it and no task holds it": an unused chunk's rows name none
abbrev pub free : List Entry → List Task → HandleNo → Bool
free es ts h = let held = held_in ts h in not (pick (named_in es h) true held)

-- "Taking a handle takes the lowest free number": of those from h on, or none
unfoldable pub free_from : List Entry → List Task → ℕ → ℕ → HandleNo
free_from es ts zero h = no_handle
free_from es ts (suc left) h = let on = free_from es ts left (h + 1) in pick (free es ts (handle_no h)) (handle_no h) on

-- ---- the same of all the tables
module _ (z : Sizes) (s : Tables) where
  -- the live chunk whose range has the key
  abbrev pub locate : ℕ → ChunkNo
  locate k = locate_from z s.chunks z.chunks s.directory.first k

  -- the live chunks, in order
  abbrev pub chain : List ChunkNo
  chain = chain_from z s.chunks z.chunks s.directory.first

  -- the index's rows for them
  abbrev pub live_rows : List IndexRow
  live_rows = map (row_of s.chunks) chain

  abbrev pub linked : ChunkNo → List EntryNo
  linked c = list_from z s.entries c z.entries (chunk s c).head

  abbrev pub find : ChunkNo → ℕ → EntryNo
  find c k = find_from z s.entries c z.entries (chunk s c).head k

  abbrev pub place : ChunkNo → ℕ → EntryNo
  place c k = place_from z s.entries c z.entries no_entry (chunk s c).head k

  abbrev pub within : ChunkNo → ℕ → ℕ → List EntryNo
  within c from to = within_from z s.entries c from to z.entries (chunk s c).head

  abbrev pub first_present : ChunkNo → ℕ → ℕ → EntryNo
  first_present c from to = present_from z s.entries s.marks c from to z.entries (chunk s c).head

  abbrev pub lowest_free : HandleNo
  lowest_free = free_from s.entries s.tasks z.handles 0

-- "A key is present when a linked entry of a live chunk names an undeleted handle under it", with that handle's value
pub record Present (z : Sizes) (s : Tables) (k v : ℕ) : Type 0 where
  pub chunk : ChunkNo
  pub entry : EntryNo
  pub numbered : chunk.0 < z.chunks
  pub is_live : (chunk_at s.chunks chunk).status ≡ live
  pub is_linked : Memᴰ entry (linked z s chunk)
  pub keyed : (entry_at z s.entries chunk entry).key ≡ k
  pub is_undeleted : undeleted z s.marks (entry_at z s.entries chunk entry).handle ≡ true
  pub valued : value s (entry_at z s.entries chunk entry).handle ≡ v
