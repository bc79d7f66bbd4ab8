-- The number and the values of every report (document 01: "a definition gives this paper's number and values for every one of its cases").
use Rattle.std.specs.Prelude.{ℕ, Bool, leb}
use Rattle.rules.specs.declared.Report.{Report}
use Rattle.rules.specs.declared.Report.TheVariants.{Moved, Frozen, Full, Lost, Pair, Value, Absent, Done, True, False, Waiting, Finished, Refused}
use Rattle.rules.specs.Words.{◌and◌}

-- which case it is, and its two values, 0 where it has none
pub record Told : Type 0 where
  pub number : ℕ
  pub first : ℕ
  pub second : ℕ

abbrev pub tells : ℕ → ℕ → ℕ → Told
tells n a b = record { number = n; first = a; second = b }

-- a refusal is 0, and its value is document 01's number of refusal; the others stand in document 01's order
abbrev pub told : Report → Told
told (Refused n) = tells 0 n 0
told Moved = tells 1 0 0
told Frozen = tells 2 0 0
told Full = tells 3 0 0
told Lost = tells 4 0 0
told (Pair k v) = tells 5 k v
told (Value v) = tells 6 v 0
told Absent = tells 7 0 0
told Done = tells 8 0 0
told True = tells 9 0 0
told False = tells 10 0 0
told Waiting = tells 11 0 0
told Finished = tells 12 0 0

-- "finished with an answer": a value, absent, done, true or false
abbrev pub is_answer : Report → Bool
is_answer r = leb 6 (told r).number and leb (told r).number 10
