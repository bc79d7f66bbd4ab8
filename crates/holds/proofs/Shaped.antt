-- Every reached table has the shape, so that no call answers 10.
use Prim.Native.Nat.{ℕ}
use mathlib.Core.Path.{◌≡◌, refl, sym, ap, ◌∙◌}
use mathlib.Core.Logic.{◌≢◌}
use mathlib.Core.Bool.{true, false, false≢true}
use lib.Dec.{eqb}
use Rattle.rules.specs.declared.Sizes.{Sizes}
use Rattle.rules.specs.declared.Report.TheVariants as report
use Rattle.rules.specs.Tables.{Tables, task}
use Rattle.rules.specs.Shape.{shape}
use Rattle.rules.specs.Calls.{Call, does, calls}
use Rattle.statements.specs.Sound.{Limited}
use Rattle.facts.specs.Facts.{MarksHeld, hold_at}
use Rattle.facts.specs.Reached.{Reached}
use Rattle.facts.proofs.Shapes.{has-shape}
use Rattle.facts.proofs.Reaching.{reached-kept}
use Rattle.facts.proofs.Indexes.{reached-indexed}
use Rattle.facts.proofs.Reports.{not-ten, does-ok}
use Rattle.holds.specs.Marked.{Marked}
use Rattle.holds.proofs.Marks.{reached-marked}

-- neither stage 4 nor stage 5 holds a deleted handle by the stage list
not-deleted : (n m : ℕ) → eqb (hold_at m).old 3 ≡ false → eqb (hold_at n).old 3 ≡ true → n ≢ m
not-deleted n m none is e = absurd (false≢true (sym none ∙ ap (λ (i : ℕ). eqb (hold_at i).old 3) (sym e) ∙ is))

marks-held : (z : Sizes) (s : Tables) → Marked z s → MarksHeld z s
marks-held z s m n is = m.old-deleted n (not-deleted (task s n).stage 4 refl is) (not-deleted (task s n).stage 5 refl is)

module _ (z : Sizes) (lim : Limited z) (s : Tables) (r : Reached z s) where
  pub reached-shaped : shape z s ≡ true
  reached-shaped = has-shape z lim s (reached-kept z lim r) (marks-held z s (reached-marked z lim r)) (reached-indexed z lim r)

  -- a call on reached tables is done, and not refused by 10
  pub calls-does : (c : Call) → calls z s c ≡ does z s c
  unfolding calls
  calls-does c = rw reached-shaped

  pub never-ten : (c : Call) → (calls z s c).report ≢ report.Refused 10
  never-ten c = rw (calls-does c) (not-ten _ (does-ok z s c))
