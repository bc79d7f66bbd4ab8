-- What a look at each slot by itself finds of a chunk: enough for its slots and its list to be right.
use Rattle.std.specs.Prelude.{ℕ, ◌+◌, ◌≤◌, ◌<◌, true, List, ◌⊎◌, ◌≡◌}
use Rattle.rules.specs.declared.Sizes.{Sizes}
use Rattle.rules.specs.declared.Entry.{Entry}
use Rattle.rules.specs.declared.ChunkNo.{ChunkNo}
use Rattle.rules.specs.declared.EntryNo.{EntryNo}
use Rattle.rules.specs.Words.{NONE}
use Rattle.rules.specs.Shape.{each, slots_of, numbers, is_empty_entry, slot_right, ascends_from}
use Rattle.rows.specs.Rows.{entry_of}
use Rattle.listed.specs.Parts.{bare}

-- a slot of the chunk whose first slot is that row
abbrev pub slot_of : List ℕ → ℕ → ℕ → Entry
slot_of ws first e = entry_of ws (first + e)

-- the entry is the last, or a used entry of a higher key comes next
pub record GoesUp (z : Sizes) (slot : ℕ → Entry) (used : ℕ) (x : Entry) : Type 0 where
  pub handle : numbers z.handles x.handle.0 ≡ true
  pub next : (x.next.0 ≡ NONE) ⊎ ((x.next.0 < used) × (x.key < (slot x.next.0).key))

abbrev pub AllGoUp : Sizes → (ℕ → Entry) → ℕ → ℕ → Type 0
AllGoUp z slot used n = (e : ℕ) → e < n → GoesUp z slot used (slot e)

abbrev pub AllEmpty : List ℕ → ℕ → ℕ → Type 0
AllEmpty ws from to = (i : ℕ) → from ≤ i → i < to → is_empty_entry (entry_of ws i) ≡ true

-- the chunk's slots are right, and its list
pub record Plain (z : Sizes) (es : List Entry) (c : ChunkNo) (used : ℕ) (head : EntryNo) : Type 0 where
  pub slots : each (slot_right z (bare z) used) 0 (slots_of z es c) ≡ true
  pub list : ascends_from z es c used z.entries head 0 ≡ true
