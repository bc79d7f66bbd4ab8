-- What is copied: the entries that name a handle, from a place of the old chunk's list on, as rows of a new chunk.
use Rattle.std.specs.Prelude.{ℕ, ◌+◌, ◌*◌, ◌<◌, ◌≤◌, ◌≡◌, List, [], ◌∷◌, ◌≢◌, eqb, length, set, take, drop, Option, Some, None, MatchOption}
use Rattle.rules.specs.declared.Sizes.{Sizes}
use Rattle.rules.specs.declared.Entry.{Entry}
use Rattle.rules.specs.declared.ChunkNo.{ChunkNo}
use Rattle.rules.specs.Words.{pick, entry_no, no_entry}
use Rattle.rules.specs.Tables.{entry_at, row}
use Rattle.rules.specs.Rebalance.{naming_from}
use Rattle.rows.specs.Rows.{entry_rows}
use Rattle.copying.specs.declared.Named.{Named}
use Rattle.copying.specs.declared.Place.{Place}

-- an entry as row n of a new chunk, with so many after it
abbrev pub copy_of : Entry → ℕ → ℕ → Entry
copy_of x n more = record { key = x.key; handle = x.handle; next = pick (eqb more 0) no_entry (entry_no (n + 1)) }

-- a chunk's rows from entry n on, one for each of the list
unfoldable pub filled : Sizes → List Entry → ChunkNo → ℕ → List Entry → List Entry
filled z es c n [] = es
filled z es c n (x ∷ l) = filled z (set es (row z c (entry_no n)) (copy_of x n (length l))) c (n + 1) l

-- the key of the first of the list, or none
abbrev pub first_key : List Entry → Option ℕ
first_key [] = None
first_key (x ∷ l) = Some x.key

module _ (z : Sizes) where
  -- the entries that name a handle, from a place on
  abbrev pub naming_at : List Entry → Place → List Entry
  naming_at es p = naming_from z es p.chunk p.left p.entry

  -- the walk from p has come to the next entry that names a handle, number `at`, or there is none
  abbrev pub Steps : List Entry → Place → Option Named → Type 0
  Steps es p o =
      MatchOption o (naming_at es p ≡ [])
      (λ r. (naming_at es p ≡ r.entry ∷ naming_at es r.rest) × (r.rest.left < p.left) × (r.rest.chunk ≡ p.chunk) × (r.at.0 < z.entries) × (r.entry ≡ entry_at z es p.chunk r.at) × (r.entry.handle.0 < z.handles) × (r.rest.entry ≡ r.entry.next))

  -- so many entries from p on, in the words lent, can go into another chunk
  pub record Fills (ws : List ℕ) (p : Place) (d : ChunkNo) (many : ℕ) : Type 0 where
    pub old : p.chunk.0 < z.chunks
    pub into : d.0 < z.chunks
    pub other : p.chunk.0 ≢ d.0
    pub long : length ws ≡ z.chunks * z.entries * 3
    pub fits : many ≤ z.entries
    pub enough : many ≤ length (naming_at (entry_rows (z.chunks * z.entries) ws) p)

  -- the rows afterwards, and the place r where the walk stands
  pub record Filled (es es' : List Entry) (p r : Place) (d : ChunkNo) (many : ℕ) : Type 0 where
    pub rows : es' ≡ filled z es d 0 (take many (naming_at es p))
    pub rest : naming_at es' r ≡ drop many (naming_at es p)
    pub chunk : r.chunk ≡ p.chunk
