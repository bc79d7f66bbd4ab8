-- The tables of a run are reached ones, beside the sequential map; what a call does to one task's row; where an operation at work comes from.
use Prim.Native.Nat.{ℕ, zero, suc, ◌≤◌, ◌<◌}
use mathlib.Core.Path.{◌≡◌, refl, sym, ap, ◌∙◌}
use mathlib.Core.Logic.{◌≢◌}
use mathlib.Core.Bool.{false}
use mathlib.Core.List.{List, [], ◌∷◌}
use native.Mathlib.Nat.{le_trans}
use native.Mathlib.Decide.{ℕ_discrete, dec_lt}
use native.Mathlib.Omega.{arith}
use lib.Dec.{eqb, ltb, leb}
use lib.ListN.{get_or, set, get_or-eq_default}
use lib.Seq.{get_or-set_same, get_or-set_other}
use borrow.Author.Tests.{eqb-true, eqb-false, ltb-false, leb-true, leb-false}
use Rattle.rules.specs.declared.Sizes.{Sizes}
use Rattle.rules.specs.declared.EntryNo.{EntryNo}
use Rattle.rules.specs.declared.Task.{Task}
use Rattle.rules.specs.declared.Decision.{Decision}
use Rattle.rules.specs.declared.Report.{Report}
use Rattle.rules.specs.declared.Report.TheVariants as report
use Rattle.rules.specs.Words.{◌and◌, ◌or◌, uses_function, is_scan}
use Rattle.rules.specs.Told.{told}
use Rattle.rules.specs.Tables.{Tables, idle_task, task, put_task, stack}
use Rattle.rules.specs.Stages
use Rattle.rules.specs.Rebalance.{Outcome, begins}
use Rattle.rules.specs.Calls.{Call, started, starts, steps, does, calls}
use Rattle.rules.specs.Calls.Call.{start, step, begin, rebalance}
use Rattle.laws.proofs.Tests.{picked, or_left, or_right}
use Rattle.statements.specs.Sound.{Limited}
use Rattle.facts.specs.Facts.{Kept}
use Rattle.facts.specs.Reached.{Reached}
use Rattle.statements.specs.Runs.{map_then, tables_at, map_at, task_at, Working}
use Rattle.simulation.specs.Beside.{Beside}
use Rattle.facts.proofs.Fresh.{get_or-all}
use Rattle.facts.proofs.Tasks.{step-applied}
use Rattle.facts.proofs.Reaching.{reached-kept, run-reached}
use Rattle.holds.proofs.Shaped.{calls-does}
use Rattle.handles.proofs.Handing.{rebalance-tasks, begin-tasks}
use Rattle.history.specs.Turns.{Turn, Came, Begun}

-- ---- a call's parts
-- which call it is, the task's number and the numbers started with
abbrev parts : Call → List ℕ
parts (start n op k a f) = 0 ∷ n ∷ op ∷ k ∷ a ∷ f ∷ []
parts (step n) = 1 ∷ n ∷ []
parts (begin k) = 2 ∷ k ∷ []
parts rebalance = 3 ∷ []

part : {c d : Call} → c ≡ d → (i : ℕ) → get_or (parts c) i 0 ≡ get_or (parts d) i 0
part e i = ap (λ (c : Call). get_or (parts c) i 0) e

pub step-task : {m n : ℕ} → step m ≡ step n → m ≡ n
step-task e = part e 1

-- two calls of different kinds are not one
apart : {c d : Call} → eqb (get_or (parts c) 0 0) (get_or (parts d) 0 0) ≡ false → c ≡ d → ⊥
apart ne e = eqb-false _ _ ne (part e 0)

pub step-not-start : {m n op k a f : ℕ} → step m ≡ start n op k a f → ⊥
step-not-start = apart refl

refused-not-moved : (m : ℕ) → report.Refused m ≢ report.Moved
refused-not-moved m e = eqb-false 0 1 refl (ap (λ (r : Report). (told r).number) e)

-- ---- a call and one task's row
module _ (z : Sizes) (lim : Limited z) (s : Tables) (r : Reached z s) where
  kept : Kept z s
  kept = reached-kept z lim r

  -- past the table's size the row is an idle one's
  past-idle : (n : ℕ) → z.tasks ≤ n → (task s n).stage ≡ 0
  past-idle n le = rw (get_or-eq_default s.tasks idle_task {n = n} (rw kept.tasks-sized le)) refl

  -- a row after another, or itself, was written
  put-row : (n : ℕ) (t : Task) → n < z.tasks → get_or (set s.tasks n t) n idle_task ≡ t
  put-row n t b = get_or-set_same s.tasks n t idle_task (rw kept.tasks-sized b)

  module _ (n : ℕ) where
    -- the same for what the call does, and then of the call
    abbrev TurnBy : Call → Outcome → Type 0
    TurnBy c o = (e : calls z s c ≡ o) → Turn z s c n

    still : (c : Call) (o : Outcome) → get_or o.tables.tasks n idle_task ≡ task s n → get_or o.tables.stacks n [] ≡ stack s n → (c ≡ step n → (task s n).stage ≡ 0) → ((op k a f : ℕ) → c ≡ start n op k a f → o.report ≢ report.Moved) → TurnBy c o
    still c o same stands p q e = Turn.rests (record { row = ap (λ (x : Outcome). task x.tables n) e ∙ same; stack = ap (λ (x : Outcome). stack x.tables n) e ∙ stands; unstepped = p; unstarted = λ op k a f i r. q op k a f i (sym (ap (λ (x : Outcome). x.report) e) ∙ r) })

    start-turn : (m op k a f : ℕ) → TurnBy (start m op k a f) (starts z s m op k a f)
    start-turn m op k a f =
        picked T (leb z.tasks m) (λ _. refused 1)
        (λ b. picked T (eqb (task s m).stage 0)
        (λ i. picked T (ltb op 1 or ltb 8 op or (uses_function op and (ltb f 1 or ltb 3 f))) (λ _. refused 5)
        (λ ok. picked T (is_scan op and ltb a k) (λ _. refused 4) (λ low. elim (ℕ_discrete n m) [ yes e ↦ own e (leb-false _ _ b) (eqb-true _ _ i) ok low | no ne ↦ other ne ])))
        (λ _. refused 2))
      where
        T : Outcome → Type 0
        T = TurnBy (start m op k a f)

        not_step : start m op k a f ≡ step n → (task s n).stage ≡ 0
        not_step e = absurd (step-not-start (sym e))

        refused : (why : ℕ) → T (record { tables = s; report = report.Refused why })
        refused why = still (start m op k a f) _ refl refl not_step (λ _ _ _ _ _. refused-not-moved why)

        other : n ≢ m → T (record { tables = put_task s m (started z s op k a f); report = report.Moved })
        other ne = still (start m op k a f) _ (get_or-set_other s.tasks m n (started z s op k a f) idle_task ne) refl not_step (λ _ _ _ _ e. absurd (ne (sym (part e 1))))

        own : n ≡ m → m < z.tasks → (task s m).stage ≡ 0 → (ltb op 1 or ltb 8 op or (uses_function op and (ltb f 1 or ltb 3 f))) ≡ false → (is_scan op and ltb a k) ≡ false → T (record { tables = put_task s m (started z s op k a f); report = report.Moved })
        own e b was ok low q =
            Turn.begins op k a f (
            record {
              call = ap (λ (m : ℕ). start m op k a f) (sym e);
              numbered = rw e b;
              was = rw e was;
              known = (ltb-false op 1 (or_left (ltb op 1) _ ok), ltb-false 8 op (or_left (ltb 8 op) _ (or_right (ltb op 1) _ ok)));
              function = λ u. let tests = rw u at (or_right (ltb 8 op) (uses_function op and (ltb f 1 or ltb 3 f)) (or_right (ltb op 1) (ltb 8 op or (uses_function op and (ltb f 1 or ltb 3 f))) ok)) in (ltb-false f 1 (or_left (ltb f 1) (ltb 3 f) tests), ltb-false 3 f (or_right (ltb f 1) (ltb 3 f) tests));
              ordered = λ i. ltb-false a k (rw i at low);
              done = rw e q;
              row = ap (λ (x : Outcome). task x.tables n) q ∙ rw e (put-row m (started z s op k a f) b);
            }
            )

    step-turn : (m : ℕ) → TurnBy (step m) (steps z s m)
    step-turn m =
        picked T (leb z.tasks m) (λ b. still (step m) _ refl refl (λ e. past-idle n (rw (step-task e) at (leb-true z.tasks m b))) started-not)
        (λ b. picked T (eqb (task s m).stage 0) (λ i. still (step m) _ refl refl (λ e. rw (step-task e) at (eqb-true (task s m).stage 0 i)) started-not)
        (λ i. elim (ℕ_discrete n m) [ yes e ↦ own e (leb-false _ _ b) (eqb-false _ _ i) | no ne ↦ other ne ]))
      where
        T : Outcome → Type 0
        T = TurnBy (step m)

        started-not : {r : Report} → (op k a f : ℕ) → step m ≡ start n op k a f → r ≢ report.Moved
        started-not op k a f e = absurd (step-not-start e)

        x : Decision
        x = Stages.decide z s m (task s m)

        o : Outcome
        o = record { tables = Stages.apply z (Stages.put_own z s m x.task) x.write; report = x.report }

        other : n ≢ m → T o
        other ne = still (step m) o (ap (λ (ts : List Task). get_or ts n idle_task) (step-applied z lim s kept m).tasks ∙ get_or-set_other s.tasks m n x.task idle_task ne) (ap (λ (ss : List (List EntryNo)). get_or ss n []) (step-applied z lim s kept m).stacks ∙ get_or-set_other s.stacks m n (Stages.stack_then z s (task s m) m) [] ne) (λ e. absurd (ne (sym (step-task e)))) started-not

        own : n ≡ m → m < z.tasks → (task s m).stage ≢ 0 → T o
        own e b busy q = Turn.steps (record { call = ap step (sym e); numbered = rw e b; busy = rw e busy; done = rw e q; row = ap (λ (x : Outcome). task x.tables n) q ∙ rw e (ap (λ (ts : List Task). get_or ts m idle_task) (step-applied z lim s kept m).tasks ∙ put-row m x.task b); stack = ap (λ (x : Outcome). stack x.tables n) q ∙ rw e (ap (λ (ss : List (List EntryNo)). get_or ss m []) (step-applied z lim s kept m).stacks ∙ get_or-set_same s.stacks m (Stages.stack_then z s (task s m) m) [] (rw kept.stacks-sized b)) })

    does-turn : (c : Call) → TurnBy c (does z s c)
    unfolding does
    does-turn (start m op k a f) = start-turn m op k a f
    does-turn (step m) = step-turn m
    does-turn (begin k) = still (begin k) (begins z s k) (ap (λ (ts : List Task). get_or ts n idle_task) (begin-tasks z s k).0) (ap (λ (ss : List (List EntryNo)). get_or ss n []) (begin-tasks z s k).3) (λ e. absurd (apart refl e)) (λ _ _ _ _ e. absurd (apart refl e))
    does-turn rebalance = still rebalance (does z s rebalance) (ap (λ (ts : List Task). get_or ts n idle_task) (rebalance-tasks z s).0) (ap (λ (ss : List (List EntryNo)). get_or ss n []) (rebalance-tasks z s).3) (λ e. absurd (apart refl e)) (λ _ _ _ _ e. absurd (apart refl e))

  pub turns : (c : Call) (n : ℕ) → Turn z s c n
  turns c n = does-turn n c (calls-does z lim s r c)

-- ---- along a run
module _ (z : Sizes) (run : ℕ → Call) where
  pub run-beside : (i : ℕ) → Beside z (tables_at z run i) (map_at z run i)
  unfolding tables_at map_at
  run-beside zero = Beside.started
  run-beside (suc i) = Beside.called (run-beside i) (run i)

  -- the tables and the map after one more call
  pub tables-next : (i : ℕ) → tables_at z run (suc i) ≡ (calls z (tables_at z run i) (run i)).tables
  unfolding tables_at
  tables-next i = refl

  pub map_next : (i : ℕ) → map_at z run (suc i) ≡ map_then z (tables_at z run i) (run i) (map_at z run i)
  unfolding map_at
  map_next i = refl

  module _ (lim : Limited z) where
    pub run-turns : (i n : ℕ) → Turn z (tables_at z run i) (run i) n
    run-turns i n = turns z lim (tables_at z run i) (run-reached z run i) (run i) n

    module _ (n : ℕ) where
      pub row_next : (i : ℕ) → task_at z run (suc i) n ≡ task (calls z (tables_at z run i) (run i)).tables n
      row_next i = ap (λ (s : Tables). task s n) (tables-next i)

      -- an operation at work was at work before
      pub earlier : {op k a f j i : ℕ} → Working z run n op k a f j i → (x : ℕ) → j < x → x ≤ i → Working z run n op k a f j x
      earlier w x after le = record { call = w.call; taken = w.taken; before = after; on = λ y since to. w.on y since (le_trans to le) }

      -- and stays so while the task is at work
      pub working-on : {op k a f j i : ℕ} → Working z run n op k a f j i → (task_at z run (suc i) n).stage ≢ 0 → Working z run n op k a f j (suc i)
      working-on {j = j} {i = i} w busy = record { call = w.call; taken = w.taken; before = omega (arith, w.before); on = λ x after le. elim (ℕ_discrete x (suc i)) [ yes e ↦ rw e busy | no ne ↦ w.on x after (omega (arith, le, ne)) ] }

      -- it was so, or begins
      pub came : {op k a f j i : ℕ} → Working z run n op k a f j (suc i) → Came z run n op k a f j i
      came {op = op} {k = k} {a = a} {f = f} {j = j} {i = i} w = elim (dec_lt j i) [ yes lt ↦ on lt (run-turns i n) | no ge ↦ fresh-one (omega (arith, ge, w.before)) (run-turns i n) ]
        where
          before : j < i → Working z run n op k a f j i
          before lt = earlier w i lt (omega arith)

          on : j < i → Turn z (tables_at z run i) (run i) n → Came z run n op k a f j i
          on lt (Turn.begins _ _ _ _ b) = absurd (w.on i lt (omega arith) b.was)
          on lt (Turn.steps b) = Came.steps (before lt) b
          on lt (Turn.rests b) = Came.rests (before lt) b

          started-now : j ≡ i → run i ≡ start n op k a f
          started-now e = rw e at w.call

          fresh-one : j ≡ i → Turn z (tables_at z run i) (run i) n → Came z run n op k a f j i
          fresh-one e (Turn.begins op₁ k₁ a₁ f₁ b) = Came.begins e (rw (part same 2, part same 3, part same 4, part same 5) b)
            where
              same : start n op k a f ≡ start n op₁ k₁ a₁ f₁
              same = sym (started-now e) ∙ b.call
          fresh-one e (Turn.steps b) = absurd (step-not-start (sym b.call ∙ started-now e))
          fresh-one e (Turn.rests b) = absurd (b.unstarted op k a f (started-now e) (rw e at w.taken))

      -- an operation at work was started by a call
      pub begun : (i : ℕ) → (task_at z run i n).stage ≢ 0 → Begun z run n i
      unfolding tables_at
      begun zero busy = absurd (busy (ap (λ (t : Task). t.stage) (get_or-all z.tasks n idle_task)))
      begun (suc i) busy = go (run-turns i n) (begun i)
        where
          more : Begun z run n i → Begun z run n (suc i)
          more b = record { operation = b.operation; key = b.key; argument = b.argument; function = b.function; started = b.started; working = working-on b.working busy }

          go : Turn z (tables_at z run i) (run i) n → ((task_at z run i n).stage ≢ 0 → Begun z run n i) → Begun z run n (suc i)
          go (Turn.begins op k a f b) before = record { operation = op; key = k; argument = a; function = f; started = i; working = record { call = b.call; taken = ap (λ (o : Outcome). o.report) b.done; before = omega arith; on = λ x lt le. rw (only x lt le) busy } }
            where
              only : (x : ℕ) → i < x → x ≤ suc i → x ≡ suc i
              only x lt le = omega arith
          go (Turn.steps b) before = more (before b.busy)
          go (Turn.rests b) before = more (before (λ e. busy (ap (λ (t : Task). t.stage) b.row ∙ e)))
