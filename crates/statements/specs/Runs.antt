-- A run: calls in any order, with any numbers in them, from fresh tables; at each moment of it the tables and the sequential map, and each call's report.
-- Moment i is after the first i calls and before call i. A list of calls is the beginning of a run.
use Rattle.std.specs.Prelude.{ℕ, zero, suc, ◌≤◌, ◌<◌, ◌≡◌, ◌≢◌, Bool, true, List, [], eqb, ltb}
use Rattle.rules.specs.declared.Sizes.{Sizes}
use Rattle.rules.specs.declared.Task.{Task}
use Rattle.rules.specs.declared.Report.{Report}
use Rattle.rules.specs.declared.Report.TheVariants as report
use Rattle.rules.specs.Words.{pick, ◌and◌, ◌or◌}
use Rattle.rules.specs.Tables.{Tables, task, entry, mark}
use Rattle.rules.specs.Calls.{Call, fresh, calls}
use Rattle.rules.specs.Calls.Call.{start, step, begin, rebalance}
use Rattle.rules.specs.Map.{Pair, sequential}

-- "Deciding steps of changes: a successful swap at 11, and stage 5 where it applies"
abbrev pub decides : Sizes → Tables → Task → Bool
decides z s t = (eqb t.stage 11 and eqb (entry z s t.chunk t.entry).handle.0 t.old.0) or (eqb t.stage 5 and eqb (mark s t.old) 0)

-- the sequential map after a call: a deciding step does its operation there, and no other call changes it
abbrev pub map_then : Sizes → Tables → Call → List Pair → List Pair
map_then z s (start n op k a f) m = m
map_then z s (step n) m =
    let t = task s n in
    pick (ltb n z.tasks and decides z s t) (sequential m t.operation t.key t.argument t.function).map m
map_then z s (begin k) m = m
map_then z s rebalance m = m

module _ (z : Sizes) (run : ℕ → Call) where
  unfoldable pub tables_at : ℕ → Tables
  tables_at zero = fresh z
  tables_at (suc i) = (calls z (tables_at i) (run i)).tables

  unfoldable pub map_at : ℕ → List Pair
  map_at zero = []
  map_at (suc i) = map_then z (tables_at i) (run i) (map_at i)

  -- what call i reports, and task n's row at moment i
  abbrev pub report_at : ℕ → Report
  report_at i = (calls z (tables_at i) (run i)).report

  abbrev pub task_at : ℕ → ℕ → Task
  task_at i n = task (tables_at i) n

  -- call i is a step of task n, and a deciding one
  pub record DecidesAt (n i : ℕ) : Type 0 where
    pub own : run i ≡ step n
    pub deciding : decides z (tables_at i) (task_at i n) ≡ true

  -- call j started the operation on task n, and the task is at work on it up to moment i
  pub record Working (n op k a f j i : ℕ) : Type 0 where
    pub call : run j ≡ start n op k a f
    pub taken : report_at j ≡ report.Moved
    pub before : j < i
    pub on : (x : ℕ) → j < x → x ≤ i → (task_at x n).stage ≢ 0

  -- moment p is past a step that task n took after call j, so past the operation's first
  pub record Stepped (n j p : ℕ) : Type 0 where
    pub at : ℕ
    pub since : j < at
    pub before : at < p
    pub own : run at ≡ step n
