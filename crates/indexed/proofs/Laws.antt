-- The index's rows asked one by one: each turn, and what is left past the count.
use Prim.Native.Nat.{ℕ, zero, suc, ◌+◌, ◌-◌, ◌≤◌, ◌<◌}
use mathlib.Core.Path.{◌≡◌, refl, ◌∙◌}
use mathlib.Core.Bool.{Bool, true, false, ◌&&◌}
use mathlib.Core.List.{List, [], ◌∷◌}
use native.Mathlib.Nat.{not-suc-le-zero, le_of_suc-le-suc, sub-zero}
use native.Mathlib.Omega.{arith}
use lib.Dec.{leb}
use lib.ListN.{length}
use borrow.Author.Tests.{ne_eqb}
use Rattle.rules.specs.declared.Sizes.{Sizes}
use Rattle.rules.specs.declared.Directory.{Directory}
use Rattle.rules.specs.declared.Chunk.{Chunk}
use Rattle.rules.specs.declared.IndexRow.{IndexRow}
use Rattle.rules.specs.Words.{◌and◌}
use Rattle.rules.specs.Shape.{each, is_empty_row, names_chunk, rows_ascend, index_right}
use Rattle.rows.specs.Rows.{rows_from, directory_of, index_of, chunk_rows, charted}
use Rattle.rows.proofs.Laws.{length-rows}
use Rattle.listed.proofs.Tests.{both-fail, both_hold}

module _ (z : Sizes) (cs : List Chunk) where
  past : (k i : ℕ) (l : List IndexRow) → rows_ascend z cs 0 k l ≡ each (λ n x. is_empty_row x) i l
  unfolding rows_ascend each
  past k i [] = refl
  past k i (x ∷ l) = rw (past k (i + 1) l)

  over : (many k : ℕ) (l : List IndexRow) → length l < many → rows_ascend z cs many k l ≡ false
  unfolding rows_ascend
  over zero k l h = absurd (not-suc-le-zero h)
  over (suc many) k [] h = ne_eqb (suc many) 0 (λ e. absurd (omega arith))
  over (suc many) k (x ∷ l) h = rw (over many (x.min + 1) l (le_of_suc-le-suc h)) (none (leb k x.min) (names_chunk z cs x))
    where
      none : (a b : Bool) → (a and b and false) ≡ false
      none true true = refl
      none true false = refl
      none false b = refl

  module _ (f : ℕ → IndexRow) (size many : ℕ) where
    -- what is left to ask from row i on, where the least key that may follow is k
    abbrev pub asked : ℕ → ℕ → Bool
    asked i k = rows_ascend z cs (many - i) k (rows_from f i (size - i))

    pub asked-first : rows_ascend z cs many 0 (rows_from f 0 size) ≡ asked 0 0
    asked-first = rw (sub-zero, sub-zero)

    -- more rows in use than there are
    pub asked-over : size < many → rows_ascend z cs many 0 (rows_from f 0 size) ≡ false
    asked-over h = over many 0 (rows_from f 0 size) (rw length-rows h)

    turn : (i k : ℕ) → i < many → many ≤ size → asked i k ≡ (leb k (f i).min and names_chunk z cs (f i) and asked (i + 1) ((f i).min + 1))
    unfolding rows_ascend rows_from
    turn i k h l =
        let d : many - i ≡ suc (many - (i + 1)) = omega arith in
        let e : size - i ≡ suc (size - (i + 1)) = omega arith in
        rw (d, e)

    pub asked-fails : (i k : ℕ) → i < many → many ≤ size → (x : IndexRow) → x ≡ f i → leb k x.min && names_chunk z cs x ≡ false → asked i k ≡ false
    asked-fails i k h l x q t = turn i k h l ∙ both-fail (leb k (f i).min) (names_chunk z cs (f i)) (asked (i + 1) ((f i).min + 1)) (rw q at t)

    pub asked-passes : (i k : ℕ) → i < many → many ≤ size → (x : IndexRow) → x ≡ f i → leb k x.min && names_chunk z cs x ≡ true → asked i k ≡ asked (i + 1) (x.min + 1)
    asked-passes i k h l x q t = rw q (turn i k h l ∙ both_hold (leb k (f i).min) (names_chunk z cs (f i)) (asked (i + 1) ((f i).min + 1)) (rw q at t))

    -- past the count every row is to be empty
    pub asked-past : (i k : ℕ) → many ≤ i → i ≤ many → asked i k ≡ each (λ n x. is_empty_row x) many (rows_from f many (size - many))
    asked-past i k h l =
        let same : i ≡ many = omega arith in
        let none : many - many ≡ 0 = omega arith in
        rw (same, none) (past k many (rows_from f many (size - many)))

-- ---- all of it
module _ (z : Sizes) (d cs : List ℕ) (x : Directory) (read : x ≡ directory_of d) where
  pub index-over : z.chunks < x.indexed → index_right z (charted z d cs) ≡ false
  index-over h = asked-over z (chunk_rows z.chunks cs) (index_of d) z.chunks (directory_of d).indexed (rw read at h)
