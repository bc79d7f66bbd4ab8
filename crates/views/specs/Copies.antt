-- What copy and release do to the entries' table, and the list that copy makes.
use Rattle.std.specs.Prelude.{ℕ, zero, suc, ◌+◌, List, [], ◌∷◌, eqb, length, set}
use Rattle.rules.specs.declared.Sizes.{Sizes}
use Rattle.rules.specs.declared.Entry.{Entry}
use Rattle.rules.specs.declared.ChunkNo.{ChunkNo}
use Rattle.rules.specs.declared.EntryNo.{EntryNo}
use Rattle.rules.specs.Words.{pick, entry_no, no_entry}
use Rattle.rules.specs.Tables.{empty_entry, row}

-- the entries' numbers from n on, so many
unfoldable pub up_from : ℕ → ℕ → List EntryNo
up_from n zero = []
up_from n (suc m) = entry_no n ∷ up_from (n + 1) m

abbrev pub entry_key : Entry → ℕ
entry_key x = x.key

module _ (z : Sizes) (c : ChunkNo) where
  -- a chunk's rows from entry n on, one for each of the list, each linked to the next
  unfoldable pub filled : ℕ → List Entry → List Entry → List Entry
  filled n [] es = es
  filled n (x ∷ l) es = filled (n + 1) l (set es (row z c (entry_no n)) (record { key = x.key; handle = x.handle; next = pick (eqb (length l) 0) no_entry (entry_no (n + 1)) }))

  -- the first n rows of a chunk made empty
  unfoldable pub cleared : ℕ → List Entry → List Entry
  cleared zero es = es
  cleared (suc n) es = cleared n (set es (row z c (entry_no n)) empty_entry)
