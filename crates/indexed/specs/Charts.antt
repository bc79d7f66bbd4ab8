-- The index asked row by row (document 02, E3).
use Rattle.std.specs.Prelude.{ℕ, ◌+◌, ◌*◌, ◌-◌, Bool, List, ◌≡◌, length}
use Rattle.rules.specs.declared.Sizes.{Sizes}
use Rattle.rules.specs.Words.{◌and◌}
use Rattle.rules.specs.Shape.{each, is_empty_row, rows_ascend}
use Rattle.rows.specs.Rows.{rows_from, chunk_rows, index_of, index_rows}

-- the two tables are as long as the sizes ask
pub record Long (z : Sizes) (d cs : List ℕ) : Type 0 where
  pub directory : length d ≡ 6 + z.chunks * 2
  pub chunks : length cs ≡ z.chunks * 6

-- the rows from one on are empty
abbrev pub empty_from : Sizes → List ℕ → ℕ → Bool
empty_from z d i = each (λ n x. is_empty_row x) i (rows_from (index_of d) i (z.chunks - i))

-- whether the first rows, so many, are right: what is left to ask is that those past them are empty
abbrev pub FirstRight : Sizes → List ℕ → List ℕ → ℕ → Bool → Type 0
FirstRight z d cs many right = rows_ascend z (chunk_rows z.chunks cs) many 0 (index_rows z.chunks d) ≡ (right and empty_from z d many)
