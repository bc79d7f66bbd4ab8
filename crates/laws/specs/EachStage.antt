-- What is to be shown of each stage's rule, so that it holds of what a step decides.
use Rattle.std.specs.Prelude.{ℕ, ◌≡◌, ◌⊎◌, true, false, eqb, leb}
use Rattle.rules.specs.declared.Sizes.{Sizes}
use Rattle.rules.specs.declared.Task.{Task}
use Rattle.rules.specs.declared.Decision.{Decision}
use Rattle.rules.specs.Words.{◌and◌, no_handle}
use Rattle.rules.specs.Tables.{Tables}
use Rattle.rules.specs.Stages

-- a number that is no stage
abbrev pub NoStage : ℕ → Type 0
NoStage n = (m : ℕ) → (leb 1 m and leb m 23) ≡ true → eqb n m ≡ false

-- P of what each rule decides, for a task, of number n, that stands at a stage of the rule
pub record EachStage (z : Sizes) (s : Tables) (n : ℕ) (t : Task) (P : Decision → Type 0) : Type 0 where
  pub locates : (t.stage ≡ 1) ⊎ (t.stage ≡ 16) → P (Stages.locates z s t)
  pub finds : t.stage ≡ 2 → P (Stages.finds z s t)
  pub reads : t.stage ≡ 3 → P (Stages.reads z s t)
  pub checks : t.stage ≡ 4 → P (Stages.checks z s t)
  pub applies : t.stage ≡ 5 → P (Stages.applies z s t)
  pub takes_entry : t.stage ≡ 6 → P (Stages.takes_entry z s t)
  pub links : t.stage ≡ 7 → P (Stages.links z s t)
  pub takes_handle : t.stage ≡ 8 → P (Stages.takes_handle z s t)
  pub writes : t.stage ≡ 9 → P (Stages.writes z s t)
  pub publishes : (t.stage ≡ 10) ⊎ ((t.stage ≡ 13) ⊎ (t.stage ≡ 19)) → P (Stages.publishes z s t)
  pub swaps : t.stage ≡ 11 → P (Stages.swaps z s t t.new)
  pub clears : (t.stage ≡ 14) ⊎ (t.stage ≡ 20) → P (Stages.swaps z s t no_handle)
  pub ends_insertion : t.stage ≡ 12 → P (Stages.ends_insertion z s t)
  pub ends_absent : t.stage ≡ 15 → P (Stages.ends_absent z s t)
  pub finds_again : t.stage ≡ 17 → P (Stages.finds_again z s t)
  pub reads_again : t.stage ≡ 18 → P (Stages.reads_again z s t)
  pub ends_remove : t.stage ≡ 21 → P (Stages.ends_remove z s t)
  pub scans : t.stage ≡ 22 → P (Stages.scans z s t)
  pub scans_down : t.stage ≡ 23 → P (Stages.scans_down z s t n)
  pub stays : NoStage t.stage → P (Stages.stays z s t)
