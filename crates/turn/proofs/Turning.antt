-- The lent task, put back into its row, is the rules' step.
use Prim.Native.Nat.{ℕ, ◌<◌}
use mathlib.Core.Path.{◌≡◌, refl}
use mathlib.Core.Bool.{Bool, true, false}
use mathlib.Core.List.{List}
use lib.Dec.{ltb}
use lib.ListN.{set}
use borrow.Author.Tests.{lt-leb, ne_eqb}
use Rattle.rules.specs.declared.Sizes.{Sizes}
use Rattle.rules.specs.declared.Task.{Task}
use Rattle.rules.specs.declared.EntryNo.{EntryNo}
use Rattle.rules.specs.declared.Write.{Write}
use Rattle.rules.specs.declared.Write.TheVariants as write
use Rattle.rules.specs.Words.{pick}
use Rattle.rules.specs.Tables.{Tables, task, with_own}
use Rattle.rules.specs.Stages.{decide, stack_then, apply}
use Rattle.rules.specs.Rebalance.{gives}
use Rattle.rules.specs.Calls.{steps}
use Rattle.turn.specs.Turns.{writes}

-- a stage's write leaves what is the tasks' own
module _ (ts : List Task) (ws : List (List EntryNo)) where
  picked-own : (b : Bool) (x y : Tables) → pick b (with_own x ts ws) (with_own y ts ws) ≡ with_own (pick b x y) ts ws
  picked-own true x y = refl
  picked-own false x y = refl

  apart : (z : Sizes) (s : Tables) (w : Write) → apply z (with_own s ts ws) w ≡ with_own (apply z s w) ts ws
  apart z s write.Nothing = refl
  apart z s (write.Slot c k) = refl
  apart z s (write.Link c e below) = picked-own (ltb below.0 z.entries) _ _
  apart z s (write.Fresh h) = refl
  apart z s (write.Store h v) = refl
  apart z s (write.Delete h) = refl
  apart z s (write.Name c e h) = refl

-- the task lent from its row and put back there, with its stack after the step, is the rules' step of that task
pub turn-steps : (z : Sizes) (s : Tables) (n : ℕ) → n < z.tasks → ((task s n).stage ≡ 0 → ⊥)
    → steps z s n ≡ gives (with_own (writes z s n (task s n)).tables (set s.tasks n (decide z s n (task s n)).task) (set s.stacks n (stack_then z s (task s n) n))) (writes z s n (task s n)).report
turn-steps z s n b ne =
    let x = decide z s n (task s n) in
    rw (lt-leb z.tasks n b, ne_eqb (task s n).stage 0 ne, apart (set s.tasks n x.task) (set s.stacks n (stack_then z s (task s n) n)) z s x.write)
