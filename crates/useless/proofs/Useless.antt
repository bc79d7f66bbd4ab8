-- No useless build keeps the promise.
use Prim.Native.Nat.{ℕ}
use mathlib.Core.Path.{◌≡◌, refl, ap}
use mathlib.Core.Bool.{false}
use mathlib.Core.List.{List, [], ◌∷◌}
use lib.Dec.{eqb}
use borrow.Author.Tests.{eqb-false}
use Rattle.rules.specs.Words.{limits, handle_no, put_if_absent, put}
use Rattle.rules.specs.Told.{told}
use Rattle.rules.specs.Tables.{Tables, task, value}
use Rattle.rules.specs.Rebalance.{Outcome}
use Rattle.rules.specs.Calls.{Call, fresh, calls}
use Rattle.rules.specs.Calls.Call.{start, step}
use Rattle.rules.proofs.Broken.{every_rule}
use Rattle.useless.specs.Useless.{Build, Keeps, refuses_all, answers_done, leaves_stage, does_all_at_first, runs_on, called_all}

-- key 5 is present with 50, and a put of 60 under it is about to take its first step
abbrev called_first : List Call
called_first = start 0 put_if_absent 5 50 0 ∷ step 0 ∷ step 0 ∷ step 0 ∷ step 0 ∷ step 0 ∷ step 0 ∷ step 0 ∷ step 0 ∷ step 0 ∷ start 0 put 5 60 0 ∷ []

abbrev about : Tables
about = called_all limits called_first (fresh limits)

-- a build that keeps the promise shows at the put's first step what the rules show
alike : (build : Build) → Keeps limits build → (view : Outcome → ℕ) → view (build about (step 0)) ≡ view (calls limits about (step 0))
alike build keeps view = ap view (keeps about (step 0))

clash : (a b : ℕ) → eqb a b ≡ false → a ≡ b → ⊥
clash a b e p = eqb-false a b e p

-- the rules move on
pub refuses-all : Keeps limits (refuses_all limits) → ⊥
unfolding runs_on called_all calls every_rule
refuses-all keeps = clash 0 1 refl (alike (refuses_all limits) keeps (λ o. (told o.report).number))

-- the rules move on, and are not done
pub answers-done : Keeps limits (answers_done limits) → ⊥
unfolding runs_on called_all calls every_rule
answers-done keeps = clash 8 1 refl (alike (answers_done limits) keeps (λ o. (told o.report).number))

-- the rules go to stage 2
pub leaves-stage : Keeps limits (leaves_stage limits) → ⊥
unfolding runs_on called_all calls every_rule
leaves-stage keeps = clash 1 2 refl (alike (leaves_stage limits) keeps (λ o. (task o.tables 0).stage))

-- the rules leave the handle's value to the fifth step
pub does-all-at-first : Keeps limits (does_all_at_first limits) → ⊥
unfolding runs_on called_all calls every_rule
does-all-at-first keeps = clash 60 50 refl (alike (does_all_at_first limits) keeps (λ o. value o.tables (handle_no 0)))
