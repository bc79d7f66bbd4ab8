-- What a part of a stage makes of the table that it writes.
use Rattle.std.specs.Prelude.{ℕ, zero, suc, List, eqb, ltb, set}
use Rattle.rules.specs.declared.Sizes.{Sizes}
use Rattle.rules.specs.declared.Directory.{Directory}
use Rattle.rules.specs.declared.Chunk.{Chunk}
use Rattle.rules.specs.declared.Entry.{Entry}
use Rattle.rules.specs.declared.ChunkNo.{ChunkNo}
use Rattle.rules.specs.Words.{pick, entry_no, no_chunk, no_entry, new}
use Rattle.rules.specs.Tables.{chunk_at, empty_entry, row}
use Rattle.rules.specs.Walks.{before_from}
use Rattle.rules.specs.Rebalance.{live_before, with_next_chunk}

-- a new chunk of so many entries
abbrev pub new_of : ℕ → ℕ → Chunk
new_of min many = record { status = new; frozen = 0; min = min; next = no_chunk; head = pick (eqb many 0) no_entry (entry_no 0); used = many }

-- the chunk before the old one goes on to the new one
abbrev pub joined : Sizes → List Chunk → Directory → List Chunk
joined z cs d =
    let p = before_from z cs z.chunks d.first d.old in
    pick (eqb d.first.0 d.old.0) cs (set cs p.0 (with_next_chunk (chunk_at cs p) d.new))

-- the new chunks, of rows x and y, are live, the last of them before `after`
abbrev pub placed : Sizes → List Chunk → Directory → Chunk → Chunk → ChunkNo → List Chunk
placed z cs d x y after =
    let two = ltb d.second.0 z.chunks in
    let cs1 = set cs d.new.0 (live_before x (pick two d.second after)) in
    pick two (set cs1 d.second.0 (live_before y after)) cs1

-- n rows of a chunk made empty
unfoldable pub cleared : Sizes → ℕ → List Entry → ChunkNo → List Entry
cleared z zero es c = es
cleared z (suc n) es c = cleared z n (set es (row z c (entry_no n)) empty_entry) c
