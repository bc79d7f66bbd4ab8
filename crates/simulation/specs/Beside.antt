-- The sequential map beside the tables that the same calls make, and what it answers at a deciding step.
use Rattle.std.specs.Prelude.{ℕ, Bool, List, [], eqb, leb}
use Rattle.rules.specs.declared.Sizes.{Sizes}
use Rattle.rules.specs.declared.Task.{Task}
use Rattle.rules.specs.declared.Report.{Report}
use Rattle.rules.specs.declared.Report.TheVariants as report
use Rattle.rules.specs.Words.{pick, ◌or◌, put, upsert, remove}
use Rattle.rules.specs.Tables.{Tables, value}
use Rattle.rules.specs.Calls.{Call, fresh, calls}
use Rattle.rules.specs.Map.{Pair}
use Rattle.statements.specs.Runs.{map_then}

-- tables that calls make of fresh ones, beside the sequential map that the same calls make of the empty one
pub data Beside (z : Sizes) : Tables → List Pair → Type 0 where
  started : Beside z (fresh z) []
  called : {s : Tables} {m : List Pair} → Beside z s m → (c : Call) → Beside z (calls z s c).tables (map_then z s c m)

-- the stages at which a change has a value to replace, in its old handle: 5, and past it 16 to 21; at 11 and 12 it has none
abbrev pub replaces : ℕ → Bool
replaces n = eqb n 5 or leb 16 n

-- what an operation answers that changes the map, at its deciding step and past it
abbrev pub change_answer : Tables → Task → Report
change_answer s t = pick (eqb t.operation put or eqb t.operation remove) (pick (replaces t.stage) (report.Value (value s t.old)) report.Absent) (pick (eqb t.operation upsert) report.Done report.True)
