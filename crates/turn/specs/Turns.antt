-- What a stage leaves outside its task: the tables with its write done, and the report (document 01, "Stages of a task").
use Rattle.std.specs.Prelude.{ℕ}
use Rattle.rules.specs.declared.Sizes.{Sizes}
use Rattle.rules.specs.declared.Task.{Task}
use Rattle.rules.specs.Tables.{Tables}
use Rattle.rules.specs.Stages.{decide, apply}
use Rattle.rules.specs.Rebalance.{Outcome, gives}

abbrev pub writes : Sizes → Tables → ℕ → Task → Outcome
writes z s n t = let x = decide z s n t in gives (apply z s x.write) x.report
