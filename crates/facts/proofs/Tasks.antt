-- Starting a task and a task's step keep the facts.
use Prim.Native.Nat.{ℕ, ◌<◌}
use mathlib.Core.Path.{◌≡◌, refl, ap, ◌∙◌}
use mathlib.Core.Logic.{◌≢◌}
use mathlib.Core.Bool.{Bool, true, false, false≢true}
use mathlib.Core.List.{[]}
use native.Mathlib.Omega.{arith}
use native.Mathlib.Decide.{ℕ_discrete}
use lib.Dec.{eqb, ltb, leb}
use lib.ListN.{length, get_or, set, length-set}
use lib.Seq.{get_or-set_same, get_or-set_other}
use borrow.Author.Tests.{lt-ltb, le-leb, ltb-false, leb-false, eqb-true}
use Rattle.rules.specs.declared.Sizes.{Sizes}
use Rattle.rules.specs.declared.ChunkNo.{ChunkNo}
use Rattle.rules.specs.declared.Decision.{Decision}
use Rattle.rules.specs.Words.{pick, ◌and◌, ◌or◌, NONE, uses_function, scan, scan_down, is_scan}
use Rattle.rules.specs.Tables.{Tables, idle_task, task, put_task, stack}
use Rattle.rules.specs.Stages
use Rattle.rules.specs.Rebalance.{Outcome}
use Rattle.rules.specs.Calls.{first_stage, started, starts, steps}
use Rattle.rules.specs.Shape.{fits_operation, hold, held_as}
use Rattle.laws.proofs.Tests.{picked, by-test, or_left, or_right}
use Rattle.laws.proofs.Lists.{set_keeps}
use Rattle.statements.specs.Sound.{Limited}
use Rattle.facts.specs.Facts.{Holds, hold_at, Tasked, Stacked, Leaves, Kept}
use Rattle.facts.proofs.Numbers.{number-none}
use Rattle.facts.proofs.Operations.{implies, through}
use Rattle.facts.proofs.Applying.{Applied, applied_by}
use Rattle.facts.proofs.Going.{Fine, no-chunk, no-entry}
use Rattle.facts.proofs.Ends.{decides-fine}
use Rattle.facts.proofs.Stacking.{same-leaves, none-stacked, stack-empty, stacked-kept, own-stacked}

-- what holds of the tables, and where an idle task is started, holds after a start
pub start-by : (z : Sizes) (s : Tables) (P : Tables → Type 0) → P s → (n op k a f : ℕ) →
    (n < z.tasks → (task s n).stage ≡ 0 → (ltb op 1 or ltb 8 op or (uses_function op and (ltb f 1 or ltb 3 f))) ≡ false → P (put_task s n (started z s op k a f))) → P (starts z s n op k a f).tables
start-by z s P same n op k a f put =
    picked O (leb z.tasks n) (λ _. same)
    (λ b. picked O (eqb (task s n).stage 0)
    (λ e. picked O (ltb op 1 or ltb 8 op or (uses_function op and (ltb f 1 or ltb 3 f))) (λ _. same) (λ ok. picked O (is_scan op and ltb a k) (λ _. same) (λ _. put (leb-false _ _ b) (eqb-true _ _ e) ok)))
    (λ _. same))
  where
    O : Outcome → Type 0
    O o = P o.tables

-- and of the tables, and where the task's stage is done, after a step
pub step_by : (z : Sizes) (s : Tables) (P : Tables → Type 0) → P s → (n : ℕ) → (n < z.tasks → P (Stages.apply z (Stages.put_own z s n (Stages.decide z s n (task s n)).task) (Stages.decide z s n (task s n)).write)) → P (steps z s n).tables
step_by z s P same n then-done = picked O (leb z.tasks n) (λ _. same) (λ b. picked O (eqb (task s n).stage 0) (λ _. same) (λ _. then-done (leb-false _ _ b)))
  where
    O : Outcome → Type 0
    O o = P o.tables

module _ (z : Sizes) (lim : Limited z) (s : Tables) (kept : Kept z s) where
  -- ---- a step
  module _ (n : ℕ) where
    abbrev x : Decision
    x = Stages.decide z s n (task s n)

    fine : Fine z s x
    fine = decides-fine z lim s kept.tables (task s n) (kept.tasks n) n

    abbrev s' : Tables
    s' = Stages.apply z (Stages.put_own z s n x.task) x.write

    pub step-applied : Applied z (Stages.put_own z s n x.task) s'
    step-applied = applied_by z lim (Stages.put_own z s n x.task) kept.tables x.write fine.allowed

    done-leaves : (c : ChunkNo) → Leaves z s s' c
    done-leaves c = record { tasked = λ t _ r. step-applied.written.tasks t r; min = λ _. step-applied.written.same.min c }

    step-done : n < z.tasks → Kept z s'
    step-done b =
        record {
          tasks-sized = ap length step-applied.tasks ∙ length-set s.tasks n x.task ∙ kept.tasks-sized;
          values-sized = step-applied.values-sized ∙ kept.values-sized;
          marks-sized = step-applied.marks-sized ∙ kept.marks-sized;
          marks = step-applied.marks kept.marks;
          tables = rw step-applied.directory step-applied.written.tables;
          tasks = λ m. rw step-applied.tasks (set_keeps (Tasked z s'.chunks s'.entries) s.tasks n x.task idle_task (fine.task _ _) (λ j. step-applied.written.tasks (task s j) (kept.tasks j)) m);
          stacks-sized = ap length step-applied.stacks ∙ length-set s.stacks n _ ∙ kept.stacks-sized;
          stacks = λ m i. rw (step-applied.tasks, step-applied.stacks) (elim (ℕ_discrete m n) [ yes e ↦ own m e | no ne ↦ others m ne i ]);
        }
      where
        own : (m : ℕ) → m ≡ n → Stacked z s'.chunks s'.entries (get_or (set s.tasks n x.task) m idle_task) (get_or (set s.stacks n (Stages.stack_then z s (task s n) n)) m [])
        own m e = rw (e, get_or-set_same s.tasks n x.task idle_task (rw kept.tasks-sized b), get_or-set_same s.stacks n (Stages.stack_then z s (task s n) n) [] (rw kept.stacks-sized b)) (own-stacked z lim s kept n b)

        others : (m : ℕ) → m ≢ n → m < z.tasks → Stacked z s'.chunks s'.entries (get_or (set s.tasks n x.task) m idle_task) (get_or (set s.stacks n (Stages.stack_then z s (task s n) n)) m [])
        others m ne i = rw (get_or-set_other s.tasks n m x.task idle_task ne, get_or-set_other s.stacks n m (Stages.stack_then z s (task s n) n) [] ne) (stacked-kept z lim s kept s' m (done-leaves (task s m).chunk) i)

  pub step-leaves : (n : ℕ) (c : ChunkNo) → Leaves z s (steps z s n).tables c
  step-leaves n c = step_by z s (λ x. Leaves z s x c) (same-leaves z s c) n (λ _. done-leaves n c)

  pub step_kept : (n : ℕ) → Kept z (steps z s n).tables
  step_kept n = step_by z s (Kept z) kept n (step-done n)

  -- ---- a start
  module _ (n op k a f : ℕ) (ok : (ltb op 1 or ltb 8 op or (uses_function op and (ltb f 1 or ltb 3 f))) ≡ false) where
    started-fits : fits_operation op (first_stage op) ≡ true
    started-fits = go (ltb 0 op) (lt-ltb 0 op some) (through (λ op. implies (ltb 0 op) (fits_operation op (first_stage op))) 9 refl op few)
      where
        some : 0 < op
        some = ltb-false op 1 (or_left (ltb op 1) _ ok)

        few : op < 9
        few = omega (arith, ltb-false 8 op (or_left (ltb 8 op) _ (or_right (ltb op 1) _ ok)))

        go : (b : Bool) → b ≡ true → implies b (fits_operation op (first_stage op)) ≡ true → fits_operation op (first_stage op) ≡ true
        go true p q = q
        go false p q = absurd (false≢true p)

    started-function : pick (uses_function op) (leb 1 (pick (uses_function op) f 0) and leb (pick (uses_function op) f 0) 3) true ≡ true
    started-function = by-test (uses_function op) uses (λ u. rw u)
      where
        uses : uses_function op ≡ true → pick (uses_function op) (leb 1 (pick (uses_function op) f 0) and leb (pick (uses_function op) f 0) 3) true ≡ true
        uses u = rw (u, le-leb 1 f (ltb-false f 1 (or_left (ltb f 1) (ltb 3 f) tests)), le-leb f 3 (ltb-false 3 f (or_right (ltb f 1) (ltb 3 f) tests)))
          where
            tests : (ltb f 1 or ltb 3 f) ≡ false
            tests = rw u at (or_right (ltb 8 op) (uses_function op and (ltb f 1 or ltb 3 f)) (or_right (ltb op 1) (ltb 8 op or (uses_function op and (ltb f 1 or ltb 3 f))) ok))

    started-right : Tasked z s.chunks s.entries (started z s op k a f)
    started-right =
        record {
          idle = λ q. absurd (picked (λ n. n ≡ 0 → ⊥) (eqb op scan) (λ _ q. omega arith) (λ _. picked (λ n. n ≡ 0 → ⊥) (eqb op scan_down) (λ _ q. omega arith) (λ _ q. omega arith)) q);
          holds = λ _. picked (λ n. fits_operation op n ≡ true → Holds z (Stages.keeps (started z s op k a f) n) (hold_at n)) (eqb op scan) (λ _. first_holds 22 refl refl)
              (λ _. picked (λ n. fits_operation op n ≡ true → Holds z (Stages.keeps (started z s op k a f) n) (hold_at n)) (eqb op scan_down) (λ _. first_holds 23 (number-none z.chunks) refl) (λ _. first_holds 1 refl refl)) started-fits;
          chunk-of-key = no-chunk z lim s kept.tables _;
          entry = no-entry z lim s kept.tables _;
        }
      where
        -- it holds nothing, where its first stage holds nothing or perhaps a chunk
        first_holds : (n : ℕ) → held_as (hold_at n).chunk z.chunks NONE ≡ true → hold_at n ≡ hold (hold_at n).chunk 0 0 0 0 0 → fits_operation op n ≡ true → Holds z (Stages.keeps (started z s op k a f) n) (hold_at n)
        first_holds n c is fits = rw is (record { fits = fits; function = started-function; chunk = c; entry = refl; old = refl; new = refl; published = refl; swapped = refl })

  pub start-leaves : (n op k a f : ℕ) (c : ChunkNo) → Leaves z s (starts z s n op k a f).tables c
  start-leaves n op k a f c = start-by z s (λ x. Leaves z s x c) (same-leaves z s c) n op k a f (λ _ _ _. record { tasked = λ t _ r. r; min = λ _. refl })

  pub start-kept : (n op k a f : ℕ) → Kept z (starts z s n op k a f).tables
  start-kept n op k a f = start-by z s (Kept z) kept n op k a f (λ _. put)
    where
      put : (task s n).stage ≡ 0 → (ltb op 1 or ltb 8 op or (uses_function op and (ltb f 1 or ltb 3 f))) ≡ false → Kept z (put_task s n (started z s op k a f))
      put idle ok =
          record {
            tasks-sized = length-set s.tasks n (started z s op k a f) ∙ kept.tasks-sized;
            values-sized = kept.values-sized;
            marks-sized = kept.marks-sized;
            marks = kept.marks;
            tables = kept.tables;
            stacks-sized = kept.stacks-sized;
            stacks = stands;
            tasks = set_keeps (Tasked z s.chunks s.entries) s.tasks n (started z s op k a f) idle_task (started-right n op k a f ok) kept.tasks;
          }
        where
          -- an idle task's stack is empty, and so it stays
          stands : (m : ℕ) → m < z.tasks → Stacked z s.chunks s.entries (task (put_task s n (started z s op k a f)) m) (stack s m)
          stands m b =
              elim (ℕ_discrete m n) [
                | yes e ↦ rw (stack-empty z s.chunks s.entries (task s m) (stack s m) (kept.stacks m b) (λ q. absurd (omega (arith, q, ap (λ (i : ℕ). (task s i).stage) e, idle)))) (none-stacked z _ _ _)
                | no ne ↦ rw (get_or-set_other s.tasks n m (started z s op k a f) idle_task ne) (kept.stacks m b)
              ]
