-- The rows written along the chain and emptied past it, turn by turn; and the index step's rule, told by both.
use Prim.Native.Nat.{ℕ, zero, suc, ◌+◌, ◌-◌, ◌≤◌, ◌<◌, zero-le}
use mathlib.Core.Path.{◌≡◌, refl, sym, ap, ◌∙◌}
use mathlib.Core.List.{List, [], ◌∷◌, ◌++◌, append_assoc, append-nil}
use native.Mathlib.Nat.{le_antisymm, sub-zero, suc-sub-suc, not-suc-le-zero, le_of_suc-le-suc}
use native.Mathlib.Numerals.{add-one}
use native.Mathlib.Omega.{arith}
use borrow.Author.Tests.{lt-ltb, le-ltb}
use lib.ListN.{length, set, take, replicate, replicate-append-replicate}
use lib.Seq.{take-suc-set, take_all, length-take-le}
use Rattle.rules.specs.declared.Sizes.{Sizes}
use Rattle.rules.specs.declared.Directory.{Directory}
use Rattle.rules.specs.declared.Chunk.{Chunk}
use Rattle.rules.specs.declared.ChunkNo.{ChunkNo}
use Rattle.rules.specs.declared.IndexRow.{IndexRow}
use Rattle.rules.specs.declared.Report.TheVariants as report
use Rattle.rules.specs.Words.{to_release}
use Rattle.rules.specs.Tables.{chunk_at, empty_row}
use Rattle.rules.specs.Walks.{chain_from, over}
use Rattle.rules.specs.Rebalance.{gives, indexes, with_indexed}
use Rattle.rows.specs.Rows.{directory_of, chunk_rows, index_rows, tables, DirectoryPut, IndexPut}
use Rattle.rows.proofs.Laws.{length-rows}
use Rattle.indexing.specs.Written.{rows_along, Written, Emptied}

-- ---- along the chain
module _ (z : Sizes) (cs : List Chunk) (left : ℕ) (c : ChunkNo) where
  pub along-spent : left ≤ 0 → rows_along z cs left c ≡ []
  unfolding chain_from
  along-spent h = rw (le_antisymm h zero-le)

  pub along-out : z.chunks ≤ c.0 → rows_along z cs left c ≡ []
  unfolding chain_from
  along-out h = go left
    where
      go : (n : ℕ) → rows_along z cs n c ≡ []
      go zero = refl
      go (suc n) = rw (le-ltb c.0 z.chunks h)

  pub along-next : (rest : ℕ) → left ≡ rest + 1 → c.0 < z.chunks → (x : Chunk) → x ≡ chunk_at cs c → rows_along z cs left c ≡ record { min = x.min; chunk = c } ∷ rows_along z cs rest x.next
  unfolding chain_from
  along-next rest p h x q = rw (p, add-one rest) (rw (lt-ltb c.0 z.chunks h, q))

-- a row more is written
taken_more : (l : List IndexRow) (i : ℕ) (x : IndexRow) → i < length l → take (i + 1) (set l i x) ≡ take i l ++ (x ∷ [])
taken_more l i x h = ap (λ (n : ℕ). take n (set l i x)) (add-one i) ∙ take-suc-set l i x h

-- ---- the rows of a list written from the first on
-- so far written: the rows before row n and those still to come are the whole list
pub record Writing (size : ℕ) (before now : List ℕ) (all rest : List IndexRow) (n : ℕ) : Type 0 where
  pub rows : take n (index_rows size now) ++ rest ≡ all
  pub row : directory_of now ≡ directory_of before
  pub room : n ≤ size
  pub long : length now ≡ length before

module _ (size : ℕ) (before : List ℕ) (all : List IndexRow) where
  pub writing_more : (now then : List ℕ) (rest more : List IndexRow) (n : ℕ) (x : IndexRow) → Writing size before now all rest n → rest ≡ x ∷ more → n < size → IndexPut now then n x → length then ≡ length now → Writing size before then all more (n + 1)
  writing_more now then rest more n x w q h put same =
      let one : take (n + 1) (index_rows size then) ≡ take n (index_rows size now) ++ (x ∷ []) = rw (put.rows size) (taken_more (index_rows size now) n x (rw length-rows h)) in
      record { rows = rw (one, append_assoc) (rw q at w.rows); row = put.row ∙ w.row; room = omega arith; long = same ∙ w.long }

  pub writing-done : (now : List ℕ) (rest : List IndexRow) (n many : ℕ) → Writing size before now all rest n → rest ≡ [] → many ≡ n → Written size before now all many
  writing-done now rest n many w q m =
      let whole : take n (index_rows size now) ≡ all = sym (append-nil _) ∙ (rw q at w.rows) in
      rw m (record { rows = whole; counted = sym (length-take-le n (index_rows size now) (rw length-rows w.room)) ∙ ap length whole; room = w.room; row = w.row })

-- ---- rows emptied
-- so far emptied: the rows before row i are those that stay, and then empty ones
pub record Emptying (size : ℕ) (before now : List ℕ) (from i : ℕ) : Type 0 where
  pub rows : take i (index_rows size now) ≡ take from (index_rows size before) ++ replicate (i - from) empty_row
  pub row : directory_of now ≡ directory_of before
  pub start : from ≤ i
  pub room : i ≤ size
  pub long : length now ≡ length before

module _ (size : ℕ) (before : List ℕ) (from : ℕ) where
  pub emptying-more : (now then : List ℕ) (i : ℕ) (x : IndexRow) → Emptying size before now from i → i < size → x ≡ empty_row → IndexPut now then i x → length then ≡ length now → Emptying size before then from (i + 1)
  emptying-more now then i x w h q put same =
      let one : take (i + 1) (index_rows size then) ≡ take i (index_rows size now) ++ (empty_row ∷ []) = rw (put.rows size, q) (taken_more (index_rows size now) i empty_row (rw length-rows h)) in
      let many : i + 1 - from ≡ i - from + 1 = omega (arith, w.start) in
      record {
        rows = one ∙ rw (w.rows, many, append_assoc, replicate-append-replicate (i - from) 1 empty_row);
        row = put.row ∙ w.row;
        start = omega (arith, w.start);
        room = omega arith;
        long = same ∙ w.long;
      }

  pub emptying-done : (now : List ℕ) (i : ℕ) → Emptying size before now from i → size ≤ i → Emptied size before now from
  emptying-done now i w h =
      let all : i ≡ size = le_antisymm w.room h in
      record { rows = sym (take_all size (index_rows size now) (rw length-rows (omega arith))) ∙ (rw all at w.rows); row = w.row }

-- ---- the stage
over-empty : (l : List IndexRow) (n : ℕ) → length l ≤ n → l ++ replicate (n - length l) empty_row ≡ over l (replicate n empty_row)
unfolding over
over-empty [] n h = rw sub-zero
over-empty (x ∷ l) zero h = absurd (not-suc-le-zero h)
over-empty (x ∷ l) (suc n) h = rw suc-sub-suc (ap (λ (k : List IndexRow). x ∷ k) (over-empty l n (le_of_suc-le-suc h)))

module _ (z : Sizes) (d cs : List ℕ) (x : Directory) (read : x ≡ directory_of d) where
  pub index-done : (d1 d2 d3 : List ℕ) (n : ℕ) → Written z.chunks d d1 (rows_along z (chunk_rows z.chunks cs) z.chunks x.first) n → Emptied z.chunks d1 d2 n → DirectoryPut d2 d3 (with_indexed x to_release n)
      → (ts es vs ms : List ℕ) → gives (tables z d3 ts cs es vs ms) report.Moved ≡ indexes z (tables z d ts cs es vs ms)
  index-done d1 d2 d3 n wrote empty put ts es vs ms =
      let l : List IndexRow = rows_along z (chunk_rows z.chunks cs) z.chunks x.first in
      let index : index_rows z.chunks d3 ≡ over l (replicate z.chunks empty_row) = put.index z.chunks ∙ empty.rows ∙ rw (wrote.rows, wrote.counted) (over-empty l z.chunks (rw (← wrote.counted) wrote.room)) in
      rw (put.row, index, wrote.counted, read)
