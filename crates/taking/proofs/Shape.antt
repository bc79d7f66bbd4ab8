-- What taking a handle asks follows from the shape.
use Prim.Native.Nat.{ℕ, ◌+◌, ◌*◌, ◌≤◌, ◌<◌}
use mathlib.Core.Path.{◌≡◌}
use mathlib.Core.Bool.{true}
use mathlib.Core.List.{List}
use native.Mathlib.Nat.{zero-add}
use lib.Dec.{eqb}
use lib.ListN.{length}
use borrow.Author.Tests.{eqb-true, le-ltb}
use Rattle.rules.specs.declared.Sizes.{Sizes}
use Rattle.rules.specs.Words.{NONE, chunk_no, entry_no}
use Rattle.rules.specs.Tables.{Tables, empty_chunk, empty_entry, entry_at}
use Rattle.rules.specs.Shape.{each, slots_of, is_none, slot_right, chunk_right, shape}
use Rattle.rules.proofs.Tests.{and_left, and_right}
use Rattle.rules.proofs.Each.{each_at}
use Rattle.rules.proofs.Shaped.{shape-parts}
use Rattle.rows.specs.Rows.{rows_from, Lent, tables, chunk_of, entry_of}
use Rattle.rows.proofs.Laws.{length-rows, row_read, row_below}
use Rattle.listed.specs.Parts.{row_right}
use Rattle.listed.proofs.Rows.{slots-rows, used-fits}
use Rattle.taking.specs.Left.{room}
use Rattle.taking.specs.Slotted.{Slotted}

module _ (z : Sizes) (d ts cs es vs ms : List ℕ) (lent : Lent z d ts cs es vs ms) (shaped : shape z (tables z d ts cs es vs ms) ≡ true) where
  abbrev s : Tables
  s = tables z d ts cs es vs ms

  right : (c : ℕ) → c < z.chunks → chunk_right z s c (chunk_of cs c) ≡ true
  right c b = rw (zero-add c, row_read (chunk_of cs) z.chunks c empty_chunk b) at (each_at (chunk_right z s) 0 s.chunks c empty_chunk (shape-parts z s shaped).chunks (rw (length-rows (chunk_of cs) 0 z.chunks) b))

  used : (c : ℕ) → c < z.chunks → (chunk_of cs c).used ≤ z.entries
  used c b = used-fits z (chunk_of cs c) (and_left (row_right z (chunk_of cs c)) _ (right c b))

  -- a slot past the used ones is empty
  empty : (c e : ℕ) → c < z.chunks → (chunk_of cs c).used ≤ e → e < z.entries → (entry_of es (c * z.entries + e)).handle.0 ≡ NONE
  empty c e b u l =
      let many : length s.entries ≡ z.chunks * z.entries = length-rows (entry_of es) 0 (z.chunks * z.entries) in
      let slots = and_left (each (slot_right z s (chunk_of cs c).used) 0 (slots_of z s.entries (chunk_no c))) _ (and_right (row_right z (chunk_of cs c)) _ (right c b)) in
      let row : entry_at z s.entries (chunk_no c) (entry_no e) ≡ entry_of es (c * z.entries + e) = row_read (entry_of es) (z.chunks * z.entries) (c * z.entries + e) empty_entry (row_below z.chunks z.entries c e b l) in
      let slot = each_at (slot_right z s (chunk_of cs c).used) 0 (rows_from (λ i. entry_at z s.entries (chunk_no c) (entry_no i)) 0 z.entries) e empty_entry (rw (slots-rows z s.entries (chunk_no c) many b) at slots) (rw (length-rows (λ i. entry_at z s.entries (chunk_no c) (entry_no i)) 0 z.entries) l) in
      let bare = rw (zero-add e, row_read (λ i. entry_at z s.entries (chunk_no c) (entry_no i)) z.entries e empty_entry l, le-ltb e (chunk_of cs c).used u, row) at slot in
      eqb-true _ NONE (and_left (is_none (entry_of es (c * z.entries + e)).handle.0) _ (and_right (eqb (entry_of es (c * z.entries + e)).key 0) _ bare))

  pub shape-slotted : z.handles ≤ room → Slotted z cs es
  shape-slotted fits = record { handles = fits; chunks = lent.chunks; entries = lent.entries; used = used; empty = empty }
