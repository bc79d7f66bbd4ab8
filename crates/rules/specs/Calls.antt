-- The calls of the directory, as every public function promises them (document 01, "Stages of a task" and "Numbers of refusal").
use Rattle.std.specs.Prelude.{ℕ, ◌*◌, ◌^◌, Bool, true, false, List, [], ◌∷◌, eqb, ltb, leb, replicate, set}
use Rattle.rules.specs.declared.Sizes.{Sizes}
use Rattle.rules.specs.declared.Directory.{Directory}
use Rattle.rules.specs.declared.Task.{Task}
use Rattle.rules.specs.declared.Decision.{Decision}
use Rattle.rules.specs.declared.Report.{Report}
use Rattle.rules.specs.declared.Report.TheVariants as report
use Rattle.rules.specs.Words.{pick, ◌and◌, ◌or◌, chunk_no, no_chunk, no_entry, no_handle, get, remove, scan, scan_down, is_scan, uses_function, live, idle}
use Rattle.rules.specs.Tables.{Tables, idle_task, empty_chunk, empty_entry, empty_stack, empty_index, task, put_task}
use Rattle.rules.specs.Stages.{decide, put_own, apply}
use Rattle.rules.specs.Rebalance.{Outcome, gives, begins, rebalance_does, with_status}
use Rattle.rules.specs.Shape.{shape}

-- "A fresh directory has chunk 0 live, minimum key 0, empty, not frozen; all else unused and idle"; "one row, for chunk 0" (document 02, E3)
abbrev pub fresh_directory : Directory
fresh_directory = record { first = chunk_no 0; stage = idle; old = no_chunk; new = no_chunk; second = no_chunk; indexed = 1 }

abbrev pub fresh : Sizes → Tables
fresh z = record {
  directory = fresh_directory;
  tasks = replicate z.tasks idle_task;
  chunks = set (replicate z.chunks empty_chunk) 0 (with_status empty_chunk live);
  entries = replicate (z.chunks * z.entries) empty_entry;
  values = replicate z.handles 0;
  marks = replicate z.handles 0;
  stacks = replicate z.tasks (empty_stack z);
  index = set (empty_index z) 0 (record { min = 0; chunk = chunk_no 0 });
}

-- a call: of a task with an operation, its key, argument and function; of a task; with a key; of the rebalance
pub data Call : Type 0 where
  start : ℕ → ℕ → ℕ → ℕ → ℕ → Call
  step : ℕ → Call
  begin : ℕ → Call
  rebalance : Call

-- "Start puts a scan at 22 and all others at 1", and a scan down at 23 (document 02, E1)
abbrev pub first_stage : ℕ → ℕ
first_stage op = pick (eqb op scan) 22 (pick (eqb op scan_down) 23 1)

module _ (z : Sizes) (s : Tables) where
  -- "holding nothing"; "Arguments an operation doesn't use are kept as 0"
  abbrev pub started : ℕ → ℕ → ℕ → ℕ → Task
  started op k a f =
      record { stage = first_stage op; operation = op; function = pick (uses_function op) f 0; key = k; argument = pick (eqb op get or eqb op remove) 0 a; chunk = no_chunk; entry = no_entry; old = no_handle; new = no_handle; published = 0; swapped = 0 }

  -- refusals 1, 2, 5, 4
  abbrev pub starts : ℕ → ℕ → ℕ → ℕ → ℕ → Outcome
  starts n op k a f =
      pick (leb z.tasks n) (gives s (report.Refused 1))
      (pick (eqb (task s n).stage 0)
      (pick (ltb op 1 or ltb 8 op or (uses_function op and (ltb f 1 or ltb 3 f))) (gives s (report.Refused 5))
      (pick (is_scan op and ltb a k) (gives s (report.Refused 4))
      (gives (put_task s n (started op k a f)) report.Moved)))
      (gives s (report.Refused 2)))

  -- refusals 1, 3, and 9 by the stage
  abbrev pub steps : ℕ → Outcome
  steps n =
      let x = decide z s n (task s n) in
      let done = gives (apply z (put_own z s n x.task) x.write) x.report in
      pick (leb z.tasks n) (gives s (report.Refused 1)) (pick (eqb (task s n).stage 0) (gives s (report.Refused 3)) done)

  -- refusal 8
  abbrev pub rebalances : Outcome
  rebalances = rebalance_does s.directory.stage z s

-- a call on tables that have the shape
unfoldable pub does : Sizes → Tables → Call → Outcome
does z s (start n op k a f) = starts z s n op k a f
does z s (step n) = steps z s n
does z s (begin k) = begins z s k
does z s rebalance = rebalances z s

-- a call on any tables: "10 is first always"
unfoldable pub calls : Sizes → Tables → Call → Outcome
calls z s c = let done = does z s c in pick (shape z s) done (gives s (report.Refused 10))
