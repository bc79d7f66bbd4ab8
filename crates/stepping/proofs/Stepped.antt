-- A stage moved on, its task's stack after it, and its row put back: the rules' step.
use Prim.Native.Nat.{ℕ, ◌<◌}
use mathlib.Core.Path.{◌≡◌, refl, sym, ap, ◌∙◌}
use mathlib.Core.List.{List, []}
use native.Mathlib.Decide.{ℕ_discrete}
use lib.Dec.{ltb}
use lib.ListN.{get_or, set}
use Rattle.rules.specs.declared.Sizes.{Sizes}
use Rattle.rules.specs.declared.Task.{Task}
use Rattle.rules.specs.declared.EntryNo.{EntryNo}
use Rattle.rules.specs.declared.Decision.{Decision}
use Rattle.rules.specs.Tables.{Tables, task, with_own, idle_task}
use Rattle.rules.specs.Stages.{decide, stage_does, apply, top_of, is_lowest, stack_then}
use Rattle.rules.specs.Rebalance.{gives}
use Rattle.rules.specs.Calls.{steps}
use Rattle.rules.proofs.Tests.{picked}
use Rattle.rows.specs.Rows.{tables, task_of}
use Rattle.rows.proofs.Laws.{row_read}
use Rattle.turn.specs.declared.Turned.{Turned}
use Rattle.turn.specs.Turns.{writes}
use Rattle.turn.proofs.Turning.{turn-steps}
use Rattle.stacking.proofs.Then.{then-other}

-- the row that is read is the task's
pub task-read : (z : Sizes) (d ts cs es vs ms : List ℕ) (n : ℕ) → n < z.tasks → (t : Task) → t ≡ task_of ts n → t ≡ task (tables z d ts cs es vs ms) n
task-read z d ts cs es vs ms n b t e = e ∙ sym (row_read (task_of ts) z.tasks n idle_task b)

-- the tables that a stage has written: a scan down has written nothing, and the stacks are as they were
module _ (z : Sizes) (s : Tables) (n : ℕ) (t : Task) (written : Tables) (w : written ≡ (writes z s n t).tables) (stacks : written.stacks ≡ s.stacks) where
  pub down-stays : t.stage ≡ 23 → written ≡ s
  unfolding stage_does
  down-stays e = w ∙ rw e (picked (λ (x : Decision). apply z s x.write ≡ s) (ltb (top_of z s t n).0 z.entries) refl (picked (λ (x : Decision). apply z s x.write ≡ s) (is_lowest z s t) refl refl))

  pub down-decided : (u : Task) → u ≡ (decide z s n t).task → t.stage ≡ 23 → u ≡ (decide z written n t).task
  down-decided u q e = q ∙ ap (λ (s : Tables). (decide z s n t).task) (sym (down-stays e))

  same-stack : stack_then z written t n ≡ stack_then z s t n
  same-stack = elim (ℕ_discrete t.stage 23) [ yes e ↦ ap (λ (s : Tables). stack_then z s t n) (down-stays e) | no ne ↦ then-other z written t t n ne ∙ ap (λ (l : List (List EntryNo)). get_or l n []) stacks ∙ sym (then-other z s t t n ne) ]

  -- with the stack and then the row put, they are the rules' step
  pub stepped : t ≡ task s n → n < z.tasks → (t.stage ≡ 0 → ⊥) → (x : Turned) → x.task ≡ (decide z s n t).task → x.report ≡ (writes z s n t).report
      → (after : Tables) → after ≡ with_own written (set s.tasks n x.task) (set s.stacks n (stack_then z written t n)) → gives after x.report ≡ steps z s n
  stepped q b ne x e r after p = rw (p, e, same-stack, w, r, q) (sym (turn-steps z s n b (rw q at ne)))
