-- Every call keeps the facts of removes past their mark.
use Prim.Native.Nat.{ℕ, ◌≤◌, ◌<◌}
use mathlib.Core.Path.{◌≡◌, refl, ap, ◌∙◌}
use mathlib.Core.Logic.{◌⊎◌, ⊎_elim, ◌≢◌}
use mathlib.Core.List.{List}
use native.Mathlib.Omega.{arith}
use lib.Dec.{eqb}
use lib.ListN.{get_or, set}
use Rattle.rules.specs.declared.Sizes.{Sizes}
use Rattle.rules.specs.declared.Task.{Task}
use Rattle.rules.specs.declared.Entry.{Entry}
use Rattle.rules.specs.declared.Decision.{Decision}
use Rattle.rules.specs.Words.{scan, scan_down}
use Rattle.rules.specs.Tables.{Tables, idle_task, task, put_task}
use Rattle.rules.specs.Stages
use Rattle.rules.specs.Rebalance.{begins}
use Rattle.rules.specs.Calls.{Call, fresh, started, starts, steps, does, calls}
use Rattle.rules.specs.Calls.Call.{start, step, begin, rebalance}
use Rattle.laws.proofs.Tests.{picked}
use Rattle.statements.specs.Sound.{Limited}
use Rattle.facts.specs.Facts.{Kept}
use Rattle.facts.specs.Reached.{Reached}
use Rattle.facts.proofs.Fresh.{get_or-all}
use Rattle.facts.proofs.Reaching.{reached-kept}
use Rattle.facts.proofs.Tasks.{start-by, step_by}
use Rattle.holds.proofs.Shaped.{calls-does}
use Rattle.handles.proofs.Owning.{put-tasks}
use Rattle.handles.proofs.Handing.{SameTasks, rebalance-tasks, begin-tasks}
use Rattle.handles.proofs.Keys.{reached-owned}
use Rattle.holds.proofs.Holding.{reached-held}
use Rattle.holds.proofs.Marks.{reached-marked}
use Rattle.holds.proofs.Unlinked.{reached-unlinked}
use Rattle.simulation.proofs.Copied.{named-like, SameLive}
use Rattle.simulation.proofs.Keeping.{reached-copied}
use Rattle.simulation.proofs.Moving.{begin-moves, rebalance-moves}
use Rattle.simulation.proofs.Living
use Rattle.removers.specs.Removers.{NamedLive, Removes, DeletedHeld, Removers}
use Rattle.removers.proofs.Late.{decides-late}
use Rattle.removers.proofs.Naming.{mark-then, live-was}
use Rattle.removers.proofs.Holding.{HeldRows, begin-rows, rebalance-rows}
use Rattle.removers.proofs.Seeing.{Sees, sees-none, past, sees-on, sees-own, goes_on}

removers-by : (z : Sizes) (s : Tables) → DeletedHeld z s → ((n : ℕ) → Sees z s (task s n)) → Removers z s
removers-by z s held sees = record { deleted-held = held; sees-chunk = λ n. (sees n).chunk; sees-entry = λ n. (sees n).entry; done = λ n. (sees n).done }

module _ (z : Sizes) (lim : Limited z) (s : Tables) (r : Reached z s) (rem : Removers z s) where
  abbrev kept : Kept z s
  kept = reached-kept z lim r

  saw : (n : ℕ) → Sees z s (task s n)
  saw n = record { chunk = rem.sees-chunk n; entry = rem.sees-entry n; done = rem.done n }

  -- a task's row after one was written
  abbrev RowOf : Tables → ℕ → Task → ℕ → Type 0
  RowOf x n y m = ((m ≡ n) × (task x m ≡ y)) ⊎ ((m ≢ n) × (task x m ≡ task s m))

  row_of : (x : Tables) (n : ℕ) (y : Task) → n < z.tasks → x.tasks ≡ set s.tasks n y → (m : ℕ) → RowOf x n y m
  row_of x n y b e m = rw (ap (λ (ts : List Task). get_or ts m idle_task) e) (put-tasks z s.tasks n y (rw kept.tasks-sized b) m)

  same-remover : (x : Tables) {h m : ℕ} → task x m ≡ task s m → Removes z s h m → Removes z x h m
  same-remover x e w = record { numbered = w.numbered; holds = rw e w.holds; from = rw e w.from; to = rw e w.to }

  sees_row : (x : Tables) (n : ℕ) (y : Task) → ((m : ℕ) → RowOf x n y m) → Sees z x y → ((m : ℕ) → Sees z x (task s m)) → (m : ℕ) → Sees z x (task x m)
  sees_row x n y rows own others m = ⊎_elim (λ (e : (m ≡ n) × (task x m ≡ y)). rw e.1 own) (λ (e : (m ≢ n) × (task x m ≡ task s m)). rw e.1 (others m)) (rows m)

  -- ---- a step
  module _ (n : ℕ) (b : n < z.tasks) where
    abbrev t : Task
    t = task s n

    abbrev x : Decision
    x = Stages.decide z s n t

    abbrev s' : Tables
    s' = Stages.apply z (Stages.put_own z s n x.task) x.write

    rows : (m : ℕ) → RowOf s' n x.task m
    rows = row_of s' n x.task b (Living.applied z lim s kept n).tasks

    -- the stepping task removes the handle
    here : {h : ℕ} → x.task.old.0 ≡ h → 16 ≤ x.task.stage → x.task.stage ≤ 21 → Removes z s' h n
    here {h = h} o f to = ⊎_elim (λ (e : (n ≡ n) × (task s' n ≡ x.task)). record { numbered = b; holds = rw e.1 o; from = rw e.1 f; to = rw e.1 to }) (λ (e : (n ≢ n) × (task s' n ≡ task s n)). absurd (e.0 refl)) (rows n)

    held_then : DeletedHeld z s'
    held_then h i m v = ⊎_elim was (λ e. (n, here e.1 (omega (arith, e.0)) (omega (arith, e.0)))) (mark-then z (Stages.put_own z s n x.task) x.task x.write (decides-late z s t n).sets h m)
      where
        was : get_or s.marks h 0 ≡ 1 → (n : ℕ) × Removes z s' h n
        was d = by (rem.deleted-held h i d named)
          where
            not_new : t.new.0 < z.handles → t.swapped ≡ 0 → h ≢ t.new.0
            not_new j q p = omega (arith, d, ap (λ (h : ℕ). get_or s.marks h 0) p, ((reached-marked z lim r).new-written n j q).0)

            named : NamedLive z s h
            named = (v.0, live-was z lim s r n h i not_new v.0 v.1)

            by : (n : ℕ) × Removes z s h n → (n : ℕ) × Removes z s' h n
            by w = ⊎_elim (λ (e : (w.0 ≡ n) × (task s' w.0 ≡ x.task)). (n, own (rw e.0 at w.1))) (λ (e : (w.0 ≢ n) × (task s' w.0 ≡ task s w.0)). (w.0, same-remover s' e.1 w.1)) (rows w.0)
              where
                own : Removes z s h n → Removes z s' h n
                own q = let g = goes_on z lim s r n (saw n) (past z lim s r n q.from q.to) q.from q.to (rw q.holds named) in here (g.0 ∙ q.holds) g.1 g.2

    step-done : Removers z s'
    step-done = removers-by z s' held_then (sees_row s' n x.task rows (sees-own z lim s r n (saw n)) (λ m. sees-on z lim s r n m (saw m)))

  step-removers : (n : ℕ) → Removers z (steps z s n).tables
  step-removers n = step_by z s (Removers z) rem n (λ b. step-done n b)

  -- ---- the other calls
  start-removers : (n op k a f : ℕ) → Removers z (starts z s n op k a f).tables
  start-removers n op k a f = start-by z s (Removers z) rem n op k a f (λ b e _. done b e)
    where
      y : Task
      y = started z s op k a f

      x : Tables
      x = put_task s n (started z s op k a f)

      done : n < z.tasks → (task s n).stage ≡ 0 → Removers z (put_task s n (started z s op k a f))
      done b e = removers-by z x held (sees_row x n y rows (sees-none z x y (picked (λ (m : ℕ). 17 ≤ m → m ≤ 21 → ⊥) (eqb op scan) (λ _ p q. omega arith) (λ _. picked (λ (m : ℕ). 17 ≤ m → m ≤ 21 → ⊥) (eqb op scan_down) (λ _ p q. omega arith) (λ _ p q. omega arith)))) (λ m. record { chunk = (saw m).chunk; entry = (saw m).entry; done = (saw m).done }))
        where
          rows : (m : ℕ) → RowOf x n y m
          rows = row_of x n y b refl

          held : DeletedHeld z x
          held h i m v = let w = rem.deleted-held h i m v in (w.0, ⊎_elim (λ (q : (w.0 ≡ n) × (task x w.0 ≡ y)). absurd (idle w q)) (λ (q : (w.0 ≢ n) × (task x w.0 ≡ task s w.0)). same-remover x q.1 w.1) (rows w.0))
            where
              idle : (w : (n : ℕ) × Removes z s h n) → (w.0 ≡ n) × (task x w.0 ≡ y) → ⊥
              idle w q = omega (arith, e, w.1.from, ap (λ (m : ℕ). (task s m).stage) q.0)

  -- tables with the same tasks and marks, whose live chunks name the same, and held chunks too
  moved : (x : Tables) → SameTasks z s x → SameLive z s x → HeldRows z lim s kept x → Removers z x
  moved x same live rows = removers-by z x held (λ m. rw (row m) (sees m))
    where
      row : (m : ℕ) → task x m ≡ task s m
      row m = ap (λ (ts : List Task). get_or ts m idle_task) same.0

      was : (h : ℕ) → h < z.handles → NamedLive z x h → NamedLive z s h
      was h i v = (v.0, live.from h v.0 i v.1)

      held : DeletedHeld z x
      held h i m v = let w = rem.deleted-held h i (rw same.2 at m) (was h i v) in (w.0, same-remover x (row w.0) w.1)

      sees : (m : ℕ) → Sees z x (task s m)
      sees m =
          record {
            chunk = λ a b v. let p = past z lim s r m (omega arith) (omega arith) in named-like z s.entries x.entries (task s m).chunk (λ e i _. let q = rows m (p.chunk a) e i in (ap (λ (y : Entry). y.handle) q, ap (λ (y : Entry). y.key) q)) ((saw m).chunk a b (was (task s m).old.0 p.old v));
            entry = λ a b v. let p = past z lim s r m (omega arith) (omega arith) in ap (λ (y : Entry). y.handle.0) (rows m (p.chunk (omega arith)) (task s m).entry (p.entry a)) ∙ (saw m).entry a b (was (task s m).old.0 p.old v);
            done = λ e v. (saw m).done e (was (task s m).old.0 (past z lim s r m (omega arith) (omega arith)).old v);
          }

  does-removers : (c : Call) → Removers z (does z s c).tables
  unfolding does
  does-removers (start n op k a f) = start-removers n op k a f
  does-removers (step n) = step-removers n
  does-removers (begin k) = moved (begins z s k).tables (begin-tasks z s k) (begin-moves z lim s kept (reached-owned z lim r) (reached-held z lim r) (reached-unlinked z lim r) (reached-copied z lim r) k).0 (begin-rows z lim s kept k)
  does-removers rebalance = moved (does z s rebalance).tables (rebalance-tasks z s) (rebalance-moves z lim s kept (reached-owned z lim r) (reached-held z lim r) (reached-unlinked z lim r) (reached-copied z lim r)).0 (rebalance-rows z lim s kept)

  call-removers : (c : Call) → Removers z (calls z s c).tables
  call-removers c = rw (calls-does z lim s r c) (does-removers c)

module _ (z : Sizes) (lim : Limited z) where
  fresh-removers : Removers z (fresh z)
  fresh-removers = removers-by z (fresh z) (λ h i m _. absurd (unmarked h m)) (λ n. rw (get_or-all z.tasks n idle_task) (sees-none z (fresh z) idle_task (λ a _. omega arith)))
    where
      unmarked : (h : ℕ) → get_or (fresh z).marks h 0 ≡ 1 → ⊥
      unmarked h m = omega (arith, m, get_or-all {A = ℕ} z.handles h 0)

  pub reached-removers : {s : Tables} → Reached z s → Removers z s
  reached-removers Reached.started = fresh-removers
  reached-removers (Reached.called {s = s₀} r c) = call-removers z lim s₀ r (reached-removers r) c
