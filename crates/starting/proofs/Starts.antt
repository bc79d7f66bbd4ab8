-- A start of a task of the table: refused by 2 where it is at work, else what becomes of the operation's row.
use Prim.Native.Nat.{ℕ, ◌<◌}
use mathlib.Core.Path.{◌≡◌, refl}
use mathlib.Core.Bool.{Bool, true, false}
use mathlib.Core.Logic.{◌≢◌}
use lib.Dec.{ltb}
use borrow.Author.Tests.{lt-leb, eq-eqb, ne_eqb}
use Rattle.std.proofs.Common.{Result, Ok, Err}
use Rattle.rules.specs.declared.Sizes.{Sizes}
use Rattle.rules.specs.declared.Task.{Task}
use Rattle.rules.specs.declared.Refusal.{Refusal}
use Rattle.rules.specs.declared.Refusal.TheVariants.{NoOperation, ScanBackwards}
use Rattle.rules.specs.declared.Report.TheVariants as report
use Rattle.rules.specs.Words.{pick, ◌and◌, ◌or◌, is_scan, uses_function}
use Rattle.rules.specs.Kinds.{number_of}
use Rattle.rules.specs.Tables.{Tables, task, put_task}
use Rattle.rules.specs.Rebalance.{Outcome, gives}
use Rattle.rules.specs.Calls.{started, starts}

-- the outcome of a row, or of its refusal
abbrev pub placed : Tables → ℕ → Result Task Refusal → Outcome
placed s n (Ok t) = gives (put_task s n t) report.Moved
placed s n (Err why) = gives s (report.Refused (number_of why))

module _ (z : Sizes) (s : Tables) (n op k a f : ℕ) (t : Task) (below : n < z.tasks) (read : t ≡ task s n) where
  pub starts-at_work : t.stage ≢ 0 → starts z s n op k a f ≡ gives s (report.Refused 2)
  starts-at_work h = rw (lt-leb _ _ below, ← read, ne_eqb _ _ h)

  pub starts-idle : t.stage ≡ 0 → (r : Result Task Refusal) → r ≡ pick (ltb op 1 or ltb 8 op or (uses_function op and (ltb f 1 or ltb 3 f))) (Err NoOperation) (pick (is_scan op and ltb a k) (Err ScanBackwards) (Ok (started z s op k a f))) → starts z s n op k a f ≡ placed s n r
  starts-idle h r e = rw (lt-leb _ _ below, ← read, eq-eqb _ _ h, e) (by_tests _ _)
    where
      by_tests : (unknown backwards : Bool) → pick unknown (gives s (report.Refused 5)) (pick backwards (gives s (report.Refused 4)) (gives (put_task s n (started z s op k a f)) report.Moved)) ≡ placed s n (pick unknown (Err NoOperation) (pick backwards (Err ScanBackwards) (Ok (started z s op k a f))))
      by_tests true backwards = refl
      by_tests false true = refl
      by_tests false false = refl
