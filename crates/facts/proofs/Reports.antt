-- No call on tables that have the shape reports refusal 10.
use Prim.Native.Nat.{ℕ}
use mathlib.Core.Path.{◌≡◌, sym, ap, ◌∙◌}
use mathlib.Core.Logic.{◌≢◌}
use mathlib.Core.Bool.{Bool, false, false≢true}
use lib.Dec.{eqb}
use Rattle.rules.specs.declared.Sizes.{Sizes}
use Rattle.rules.specs.declared.Task.{Task}
use Rattle.rules.specs.declared.Decision.{Decision}
use Rattle.rules.specs.declared.Report.{Report}
use Rattle.rules.specs.declared.Report.TheVariants as report
use Rattle.rules.specs.Words.{◌and◌}
use Rattle.rules.specs.Told.{told}
use Rattle.rules.specs.Tables.{Tables}
use Rattle.rules.specs.Stages
use Rattle.rules.specs.Rebalance.{Outcome, rebalance_does}
use Rattle.rules.specs.Calls.{Call, does}
use Rattle.rules.specs.Calls.Call.{start, step, begin, rebalance}
use Rattle.laws.proofs.Tests.{pick-of, pick_same}

-- the report is refusal 10
abbrev ten : Report → Bool
ten r = eqb (told r).number 0 and eqb (told r).first 10

abbrev outcome : Outcome → Bool
outcome o = ten o.report

pub not-ten : (r : Report) → ten r ≡ false → r ≢ report.Refused 10
not-ten r e q = false≢true (sym e ∙ ap ten q)

module _ (z : Sizes) (s : Tables) where
  decides-ok : (n : ℕ) (t : Task) → ten (Stages.decide z s n t).report ≡ false
  unfolding Stages.stage_does
  decides-ok n t = simp (pick-of ten, pick-of (λ (x : Decision). ten x.report), pick-of (λ (f : Sizes → Tables → Task → Decision). ten (f z s t).report), pick_same)

  pub does-ok : (c : Call) → ten (does z s c).report ≡ false
  unfolding does rebalance_does
  does-ok (start n op k a f) = simp (pick-of outcome, pick_same)
  does-ok (step n) = simp (pick-of outcome, decides-ok, pick_same)
  does-ok (begin k) = simp (pick-of outcome, pick_same)
  does-ok rebalance = simp (pick-of outcome, pick-of (λ (f : Sizes → Tables → Outcome). outcome (f z s)), pick_same)
