-- What the shape says of the index's rows, one step of each search, and that the chunk where the index leads starts the walk.
use Prim.Native.Nat.{ℕ, zero, suc, ◌+◌, ◌≤◌, ◌<◌, zero-le}
use mathlib.Core.Path.{◌≡◌, refl, ap, ◌∙◌}
use mathlib.Core.Bool.{true}
use mathlib.Core.List.{List, [], ◌∷◌}
use native.Mathlib.Nat.{not-suc-le-zero, le_of_suc-le-suc, le_antisymm}
use native.Mathlib.Omega.{arith}
use lib.Dec.{eqb, ltb, leb}
use lib.ListN.{length, get_or}
use borrow.Author.Tests.{ltb-true, leb-true, eqb-true, ne_eqb}
use Rattle.rules.specs.declared.Sizes.{Sizes}
use Rattle.rules.specs.declared.Chunk.{Chunk}
use Rattle.rules.specs.declared.ChunkNo.{ChunkNo}
use Rattle.rules.specs.declared.IndexRow.{IndexRow}
use Rattle.rules.specs.Words.{pick, ◌or◌, NONE, live, retired}
use Rattle.rules.specs.Tables.{empty_row, chunk_at}
use Rattle.rules.specs.Walks.{locate_from}
use Rattle.rules.specs.Shape.{names_chunk, rows_ascend, shape}
use Rattle.rules.proofs.Shaped.{shape-parts}
use Rattle.rows.specs.Rows.{directory_of, index_of, index_rows, chunk_of, chunk_rows, tables, Lent}
use Rattle.rows.proofs.Laws.{length-rows, row_read}
use Rattle.laws.proofs.Tests.{and_left, and_right, picked}
use Rattle.walks.proofs.Laws.{fuelled}
use Rattle.views.proofs.Chained.{chained-chain, start-locates}
use Rattle.locating.specs.Charted.{Charted, Rises, Under, last_live, Starts}

-- words that are lent as asked and have the shape
pub shape-charted : (z : Sizes) (d ts cs es vs ms : List ℕ) → Lent z d ts cs es vs ms → shape z (tables z d ts cs es vs ms) ≡ true → Charted z d cs
shape-charted z d ts cs es vs ms l h = let parts = shape-parts z (tables z d ts cs es vs ms) h in record { directory = l.directory; chunks = l.chunks; first = parts.first; chain = parts.chain; index = parts.index }

-- ---- the rows, by number
module _ (z : Sizes) (cs : List Chunk) where
  rows-many : (many k : ℕ) (l : List IndexRow) → rows_ascend z cs many k l ≡ true → many ≤ length l
  unfolding rows_ascend
  rows-many many k [] h = omega (arith, eqb-true many 0 h)
  rows-many zero k (x ∷ l) h = zero-le
  rows-many (suc many) k (x ∷ l) h = omega (arith, rows-many many (x.min + 1) l (and_right (names_chunk z cs x) _ (and_right (leb k x.min) _ h)))

  rows_at : (many k : ℕ) (l : List IndexRow) (i : ℕ) → rows_ascend z cs many k l ≡ true → i < many → (k ≤ (get_or l i empty_row).min) × (names_chunk z cs (get_or l i empty_row) ≡ true)
  unfolding rows_ascend
  rows_at many k [] i h b = absurd (omega (arith, eqb-true many 0 h))
  rows_at zero k (x ∷ l) i h b = absurd (not-suc-le-zero b)
  rows_at (suc many) k (x ∷ l) zero h b = (leb-true _ _ (and_left _ _ h), and_left _ _ (and_right (leb k x.min) _ h))
  rows_at (suc many) k (x ∷ l) (suc i) h b =
      let on = rows_at many (x.min + 1) l i (and_right (names_chunk z cs x) _ (and_right (leb k x.min) _ h)) (le_of_suc-le-suc b) in
      (omega (arith, on.0, leb-true k x.min (and_left _ _ h)), on.1)

  rows-rise : (many k : ℕ) (l : List IndexRow) (i j : ℕ) → rows_ascend z cs many k l ≡ true → i < j → j < many → (get_or l i empty_row).min < (get_or l j empty_row).min
  unfolding rows_ascend
  rows-rise many k [] i j h a b = absurd (omega (arith, eqb-true many 0 h))
  rows-rise zero k (x ∷ l) i j h a b = absurd (not-suc-le-zero b)
  rows-rise (suc many) k (x ∷ l) i zero h a b = absurd (not-suc-le-zero a)
  rows-rise (suc many) k (x ∷ l) zero (suc j) h a b = omega (arith, (rows_at many (x.min + 1) l j (and_right (names_chunk z cs x) _ (and_right (leb k x.min) _ h)) (le_of_suc-le-suc b)).0)
  rows-rise (suc many) k (x ∷ l) (suc i) (suc j) h a b = rows-rise many (x.min + 1) l i j (and_right (names_chunk z cs x) _ (and_right (leb k x.min) _ h)) (le_of_suc-le-suc a) (le_of_suc-le-suc b)

-- ---- the words
module _ (z : Sizes) (d cs : List ℕ) (h : Charted z d cs) where
  abbrev chunks : List Chunk
  chunks = chunk_rows z.chunks cs

  abbrev many : ℕ
  many = (directory_of d).indexed

  pub many-short : many ≤ z.chunks
  many-short = rw (length-rows (index_of d) 0 z.chunks) at (rows-many z chunks many 0 (index_rows z.chunks d) h.index)

  -- a row of the index is the words'
  row_is : (i : ℕ) → i < many → get_or (index_rows z.chunks d) i empty_row ≡ index_of d i
  row_is i b = row_read (index_of d) z.chunks i empty_row (omega (arith, many-short))

  pub index-rises : Rises d many
  index-rises i j a b = rw (row_is i (omega arith), row_is j b) at (rows-rise z chunks many 0 (index_rows z.chunks d) i j h.index a b)

  row-names : (i : ℕ) → i < many → names_chunk z chunks (index_of d i) ≡ true
  row-names i b = rw (row_is i b) at (rows_at z chunks many 0 (index_rows z.chunks d) i h.index b).1

  module _ (fits : z.chunks ≤ NONE) (k : ℕ) where
    -- the walk to the key from the chunk answers as from the first
    abbrev Same : ChunkNo → Type 0
    Same c = (c.0 < z.chunks) × (locate_from z chunks z.chunks c k ≡ locate_from z chunks z.chunks (directory_of d).first k)

    row_same : (i : ℕ) → i < many → (index_of d i).min ≤ k → (chunk_at chunks (index_of d i).chunk).status ≡ live → Same (index_of d i).chunk
    row_same i b le e = (inside, start-locates z chunks (directory_of d).first long (chained-chain z (tables z d [] cs [] [] []) long h.chain) fits k (index_of d i).chunk inside e (rw min at le))
      where
        long : length chunks ≡ z.chunks
        long = length-rows (chunk_of cs) 0 z.chunks

        inside : (index_of d i).chunk.0 < z.chunks
        inside = ltb-true _ _ (and_left _ _ (row-names i b))

        min : (index_of d i).min ≡ (chunk_at chunks (index_of d i).chunk).min
        min = eqb-true _ _ (and_right (eqb (chunk_at chunks (index_of d i).chunk).status live or eqb (chunk_at chunks (index_of d i).chunk).status retired) _ (and_right (ltb (index_of d i).chunk.0 z.chunks) _ (row-names i b)))

    live_same : (n : ℕ) → n ≤ many → ((i : ℕ) → i < n → (index_of d i).min ≤ k) → Same (last_live d chunks n)
    unfolding last_live
    live_same zero b le = (h.first, refl)
    live_same (suc n) b le =
        picked Same (eqb (chunk_at chunks (index_of d n).chunk).status live)
        (λ t. row_same n b (le n (omega arith)) (eqb-true _ _ t)) (λ _. live_same n (omega arith) (λ i a. le i (omega arith)))

    pub live-starts : (n : ℕ) → Under d many k n → (c : ChunkNo) → c ≡ last_live d chunks n → Starts z d cs k c
    live-starts n u c e = let same = live_same n u.within u.below in record { many = n; under = u; led = e; numbered = rw e same.0; same = rw e same.1 }

-- ---- one step of the halving: of so many rows those below `low` are at or under the key, and those from `high` on above it
pub record Halved (d : List ℕ) (many k low high : ℕ) : Type 0 where
  pub ordered : low ≤ high
  pub within : high ≤ many
  pub below : (i : ℕ) → i < low → (index_of d i).min ≤ k
  pub above : (i : ℕ) → high ≤ i → i < many → k < (index_of d i).min

-- ---- one step down the rows, told by the row and the chunk that the code has read
module _ (d : List ℕ) (cs : List Chunk) where
  pub live-none : (n : ℕ) → n ≤ 0 → last_live d cs n ≡ (directory_of d).first
  unfolding last_live
  live-none n b = rw (le_antisymm b zero-le)

  live-step : (n rest : ℕ) → n ≡ rest + 1 → last_live d cs n ≡ pick (eqb (chunk_at cs (index_of d rest).chunk).status live) (index_of d rest).chunk (last_live d cs rest)
  unfolding last_live
  live-step = fuelled (last_live d cs) (λ m. pick (eqb (chunk_at cs (index_of d m).chunk).status live) (index_of d m).chunk (last_live d cs m)) (λ m. refl)

  module _ (n rest : ℕ) (some : n ≡ rest + 1) (x : IndexRow) (q : x ≡ index_of d rest) (y : Chunk) (p : y ≡ chunk_at cs x.chunk) where
    number : x.chunk.0 ≡ (index_of d rest).chunk.0
    number = ap (λ (x : IndexRow). x.chunk.0) q

    pub live_here : y.status ≡ live → last_live d cs n ≡ x.chunk
    live_here e = live-step n rest some ∙ rw (← number, ← p, e)

    pub live-next : (y.status ≡ live → ⊥) → last_live d cs n ≡ last_live d cs rest
    live-next e = live-step n rest some ∙ rw (← number, ← p, ne_eqb _ _ e)
