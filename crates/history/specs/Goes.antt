-- What a step of a task at work may do: go on, decide, or end with an answer of one kind or by refusal 9.
use Rattle.std.specs.Prelude.{ℕ, ◌<◌, ◌≡◌, ◌⊎◌, ◌≢◌, Bool, true, false, List, eqb, leb, get_or}
use Rattle.rules.specs.declared.Sizes.{Sizes}
use Rattle.rules.specs.declared.Task.{Task}
use Rattle.rules.specs.declared.ChunkNo.{ChunkNo}
use Rattle.rules.specs.declared.Decision.{Decision}
use Rattle.rules.specs.declared.Report.{Report}
use Rattle.rules.specs.declared.Report.TheVariants as report
use Rattle.rules.specs.Words.{◌and◌, ◌or◌, is_scan, uses_function}
use Rattle.rules.specs.Told.{told, is_answer}
use Rattle.rules.specs.Tables.{Tables, task, mark, value}
use Rattle.rules.specs.Stages.{put_own, apply}
use Rattle.rules.specs.Map.{Pair, effect, on_absent, on_present}
use Rattle.statements.specs.Runs.{decides}
use Rattle.simulation.specs.Beside.{change_answer}
use Rattle.simulation.specs.Named.{NamedIn, PresentBy}

-- ---- where a task stands
-- decided: 16 to 21, and 12 when swapped, are past the deciding step
abbrev pub past : Task → Bool
past t = (leb 16 t.stage and leb t.stage 21) or (eqb t.stage 12 and eqb t.swapped 1)

-- the stages that look for the key in the held chunk, and those that hold the handle that they have seen there
abbrev pub looks_in : ℕ → Bool
looks_in n = eqb n 2 or eqb n 3

abbrev pub looks_old : ℕ → Bool
looks_old n = (eqb n 4 or eqb n 5) or (eqb n 13 or eqb n 14 or eqb n 15)

-- the chunk names an undeleted handle under the key
pub record ShownBy (z : Sizes) (s : Tables) (c : ChunkNo) (k : ℕ) : Type 0 where
  pub handle : ℕ
  pub inside : handle < z.handles
  pub named : NamedIn z s.entries c handle k
  pub undeleted : get_or s.marks handle 0 ≡ 0

-- what the task has in hand shows no undeleted handle under its key
pub data Gone (z : Sizes) (s : Tables) (t : Task) : Type 0 where
  chunk : looks_in t.stage ≡ true → (ShownBy z s t.chunk t.key → ⊥) → Gone z s t
  old : looks_old t.stage ≡ true → mark s t.old ≢ 0 → Gone z s t

-- the key is absent
abbrev pub AbsentIn : Sizes → Tables → ℕ → Type 0
AbsentIn z s k = (v : ℕ) → PresentBy z s k v → ⊥

-- ---- what a step may do
-- the report of an operation's end
abbrev pub ending : Report → Bool
ending r = is_answer r or (eqb (told r).number 0 and eqb (told r).first 9)

-- the operation goes on: what it was started with stays
pub record Onward (t : Task) (x : Decision) : Type 0 where
  pub operation : x.task.operation ≡ t.operation
  pub function : uses_function t.operation ≡ true → x.task.function ≡ t.function
  pub argument : is_scan t.operation ≡ false → x.task.argument ≡ t.argument
  pub key : is_scan t.operation ≡ false → x.task.key ≡ t.key
  pub busy : x.task.stage ≢ 0
  pub quiet : ending x.report ≡ false

module _ (z : Sizes) (s : Tables) (n : ℕ) (x : Decision) where
  abbrev t : Task
  t = task s n

  abbrev pub stepped : Tables
  stepped = apply z (put_own z s n x.task) x.write

  -- where it then shows none it did so before, or the key is absent now
  abbrev pub Follows : Type 0
  Follows = Gone z stepped x.task → Gone z s t ⊎ AbsentIn z stepped t.key

  -- what its change answers is the same as before
  abbrev pub Carries : Type 0
  Carries = change_answer stepped x.task ≡ change_answer s t

  -- what its answer stands on
  pub data Ends : Type 0 where
    -- 5 but for a remove: it decides
    changes : past t ≡ false → decides z s t ≡ true → is_scan t.operation ≡ false → x.report ≡ change_answer s t → Ends
    -- 12, 17, 18, 21: it has decided
    tells : past t ≡ true → decides z s t ≡ false → x.report ≡ change_answer s t → Ends
    -- 4: it has seen the key present
    present : past t ≡ false → decides z s t ≡ false → looks_old t.stage ≡ true → mark s t.old ≡ 0 →
        ((m : List Pair) → on_present m t.operation t.key t.argument t.function (value s t.old) ≡ effect x.report m) → Ends
    -- 2, 3, 4, 15: it has seen the key absent
    absent : past t ≡ false → decides z s t ≡ false → Gone z s t → ((m : List Pair) → on_absent m t.operation t.key t.argument t.function ≡ effect x.report m) → Ends
    -- 22
    scanned : is_scan t.operation ≡ true → Ends

  pub data Goes : Type 0 where
    on : Onward t x → (past x.task ≡ past t) × (past t ≡ true → Carries) → decides z s t ≡ false → Follows → Goes
    -- 5 of a remove, and 11: it decides, and goes on
    turns : Onward t x → past t ≡ false → (past x.task ≡ true) × Carries → decides z s t ≡ true → is_scan t.operation ≡ false → Follows → Goes
    answers : x.task.stage ≡ 0 → is_answer x.report ≡ true → Ends → Goes
    -- 8: no handle is free
    refuses : x.task.stage ≡ 0 → past t ≡ false → decides z s t ≡ false → x.report ≡ report.Refused 9 → Goes
