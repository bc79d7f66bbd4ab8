-- The fact of entries that are not linked.
use Rattle.std.specs.Prelude.{◌<◌}
use mathlib.Core.List.{List, Memᴰ}
use Rattle.rules.specs.declared.Sizes.{Sizes}
use Rattle.rules.specs.declared.Chunk.{Chunk}
use Rattle.rules.specs.declared.Entry.{Entry}
use Rattle.rules.specs.declared.ChunkNo.{ChunkNo}
use Rattle.rules.specs.declared.EntryNo.{EntryNo}
use Rattle.rules.specs.Tables.{entry_at}
use Rattle.facts.specs.Facts.{listed}

-- unlinked-none: an entry that is not linked names none, that is, one that names a handle is linked
abbrev pub UnlinkedNone : Sizes → List Chunk → List Entry → Type 0
UnlinkedNone z cs es = (c : ChunkNo) (e : EntryNo) → c.0 < z.chunks → e.0 < z.entries → (entry_at z es c e).handle.0 < z.handles → Memᴰ e (listed z cs es c)
