-- Useless builds to try (document 01, "How tightly each call is promised"), each as what it makes of tables and a call.
use Rattle.std.specs.Prelude.{ℕ, zero, suc, ◌≡◌, List, [], ◌∷◌, eqb}
use Rattle.rules.specs.declared.Sizes.{Sizes}
use Rattle.rules.specs.declared.Report.TheVariants as report
use Rattle.rules.specs.Words.{pick}
use Rattle.rules.specs.Tables.{Tables, task, put_task}
use Rattle.rules.specs.Stages.{keeps}
use Rattle.rules.specs.Rebalance.{Outcome, gives}
use Rattle.rules.specs.Calls.{Call, first_stage, calls}
use Rattle.rules.specs.Calls.Call.{start, step, begin, rebalance}

abbrev pub Build : Type 0
Build = Tables → Call → Outcome

module _ (z : Sizes) where
  -- the build does what the promise determines
  abbrev pub Keeps : Build → Type 0
  Keeps build = (s : Tables) (c : Call) → build s c ≡ calls z s c

  -- one that refuses everything
  abbrev pub refuses_all : Build
  refuses_all s c = gives s (report.Refused 10)

  -- one with a constant answer
  abbrev pub answers_done : Build
  answers_done s c = gives (calls z s c).tables report.Done

  -- one whose step leaves the stage as it is
  abbrev pub leaves_stage : Build
  leaves_stage s (step n) = let o = calls z s (step n) in gives (put_task o.tables n (keeps (task o.tables n) (task s n).stage)) o.report
  leaves_stage s (start n op k a f) = calls z s (start n op k a f)
  leaves_stage s (begin k) = calls z s (begin k)
  leaves_stage s rebalance = calls z s rebalance

  -- the steps that the task's operation still has, so many at the most
  unfoldable pub runs_on : ℕ → ℕ → Tables → Tables
  runs_on zero n s = s
  runs_on (suc fuel) n s = let on = runs_on fuel n (calls z s (step n)).tables in pick (eqb (task s n).stage 0) s on

  -- one that does the whole operation at its first step and idles through the rest: the task's own row moves on as it should, and all else changes at the first
  abbrev pub does_all_at_first : Build
  does_all_at_first s (step n) =
      let o = calls z s (step n) in
      let whole = runs_on 40 n s in
      gives (put_task (pick (eqb (task s n).stage (first_stage (task s n).operation)) whole s) n (task o.tables n)) o.report
  does_all_at_first s (start n op k a f) = calls z s (start n op k a f)
  does_all_at_first s (begin k) = calls z s (begin k)
  does_all_at_first s rebalance = calls z s rebalance

  -- tables after a list of calls
  unfoldable pub called_all : List Call → Tables → Tables
  called_all [] s = s
  called_all (c ∷ l) s = called_all l (calls z s c).tables
