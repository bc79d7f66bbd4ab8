-- The tables that a part of the shape asks, and what it says of the chunks where the rules have no name for it.
use Rattle.std.specs.Prelude.{ℕ, ◌+◌, Bool, List, [], ◌∷◌, eqb, Option, Some, None}
use Rattle.rules.specs.declared.Sizes.{Sizes}
use Rattle.rules.specs.declared.Chunk.{Chunk}
use Rattle.rules.specs.Words.{pick, unused}
use Rattle.rules.specs.Tables.{Tables}
use Rattle.rules.specs.Shape.{is_empty_chunk, chunk_numbers}
use Rattle.rows.specs.Rows.{tables}

-- tables of which nothing is asked
abbrev pub bare : Sizes → Tables
bare z = tables z [] [] [] [] [] []

-- a chunk's own row
abbrev pub row_right : Sizes → Chunk → Bool
row_right z x = pick (eqb x.status unused) (is_empty_chunk x) (chunk_numbers z (bare z) x)

-- the least key that may follow: any at the start, else the one after the last
abbrev pub least : Option ℕ → ℕ
least None = 0
least (Some last) = last + 1

-- the chain's count, or where it breaks one past the table's size
abbrev pub counted : Sizes → Option ℕ → ℕ
counted z (Some n) = n
counted z None = z.chunks + 1

-- how many chunks have the status
unfoldable pub count_of : ℕ → List Chunk → ℕ
count_of status [] = 0
count_of status (x ∷ l) = pick (eqb x.status status) (count_of status l + 1) (count_of status l)
