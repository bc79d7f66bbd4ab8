-- The numbers of the refusals, and what the numbers of a call and of a row name.
use Rattle.std.specs.Prelude.{ℕ, eqb, Result, Ok, Err}
use Rattle.rules.specs.declared.Report.{Report}
use Rattle.rules.specs.declared.Report.TheVariants as report
use Rattle.rules.specs.declared.Refusal.{Refusal}
use Rattle.rules.specs.declared.Refusal.TheVariants.{NoTask, TaskAtWork, TaskIdle, ScanBackwards, NoOperation, RebalanceAtWork, NoChunks, RebalanceIdle, NoHandle, NoShape}
use Rattle.rules.specs.declared.Operation.{Operation}
use Rattle.rules.specs.declared.Operation.TheVariants.{Get, Put, PutIfAbsent, Upsert, Compute, Remove, Scan, ScanDown}
use Rattle.rules.specs.declared.Function.{Function}
use Rattle.rules.specs.declared.Function.TheVariants.{Add, Larger, Or}
use Rattle.rules.specs.declared.RebalanceStage.{RebalanceStage}
use Rattle.rules.specs.declared.RebalanceStage.TheVariants.{Drain, Copy, SwapIn, Index, Release}
use Rattle.rules.specs.Words.{pick, get, put, put_if_absent, upsert, compute, remove, scan, scan_down, to_drain, to_copy, to_swap, to_index, to_release}

abbrev pub number_of : Refusal → ℕ
number_of NoTask = 1
number_of TaskAtWork = 2
number_of TaskIdle = 3
number_of ScanBackwards = 4
number_of NoOperation = 5
number_of RebalanceAtWork = 6
number_of NoChunks = 7
number_of RebalanceIdle = 8
number_of NoHandle = 9
number_of NoShape = 10

-- what a call answers: its report, or the refusal as one
abbrev pub told_by : Result Report Refusal → Report
told_by (Ok r) = r
told_by (Err why) = report.Refused (number_of why)

-- the operation of the number, or the refusal of one that has none
abbrev pub operation_of : ℕ → Result Operation Refusal
operation_of n =
    pick (eqb n get) (Ok Get)
    (pick (eqb n put) (Ok Put)
    (pick (eqb n put_if_absent) (Ok PutIfAbsent)
    (pick (eqb n upsert) (Ok Upsert)
    (pick (eqb n compute) (Ok Compute)
    (pick (eqb n remove) (Ok Remove)
    (pick (eqb n scan) (Ok Scan)
    (pick (eqb n scan_down) (Ok ScanDown) (Err NoOperation))))))))

abbrev pub function_of : ℕ → Result Function Refusal
function_of n = pick (eqb n 1) (Ok Add) (pick (eqb n 2) (Ok Larger) (pick (eqb n 3) (Ok Or) (Err NoOperation)))

-- the rebalance's stage that comes next, or the refusal where none is under way
abbrev pub rebalance_stage_of : ℕ → Result RebalanceStage Refusal
rebalance_stage_of n =
    pick (eqb n to_drain) (Ok Drain)
    (pick (eqb n to_copy) (Ok Copy)
    (pick (eqb n to_swap) (Ok SwapIn)
    (pick (eqb n to_index) (Ok Index)
    (pick (eqb n to_release) (Ok Release) (Err RebalanceIdle)))))
