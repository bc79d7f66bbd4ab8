-- What the test that comes before every call gives: the tables as they are lent, or refusal 10.
use Rattle.std.specs.Prelude.{◌≡◌, false, Result, Ok, Err}
use Rattle.rules.specs.declared.Sizes.{Sizes}
use Rattle.rules.specs.declared.Refusal.{Refusal}
use Rattle.rules.specs.declared.Refusal.TheVariants.{NoShape}
use Rattle.rules.specs.Words.{◌and◌}
use Rattle.rules.specs.Shape.{shape}
use Rattle.rows.specs.declared.lent.Lent.{Lent}
use Rattle.rows.specs.declared.shaped.Shaped.{Shaped}
use Rattle.calls.specs.Promise.{Lending, lending, tables_of, lent}

-- the words that the lent tables hold
abbrev pub words_of : Lent → Lending
words_of s = lending s.directory.now s.tasks.now s.chunks.now s.entries.now s.values.now s.marks.now

-- the words, at these sizes, have the shape, or they are not lent as the sizes ask or fail it
abbrev pub Readied : Sizes → Lending → Result Shaped Refusal → Type 0
Readied z w (Ok s) = (s.lent.z ≡ z) × (words_of s.lent ≡ w)
Readied z w (Err why) = (why ≡ NoShape) × ((lent z w and shape z (tables_of z w)) ≡ false)
