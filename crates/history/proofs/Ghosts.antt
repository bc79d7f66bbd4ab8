-- Every call keeps what is kept of an operation at work.
use Prim.Native.Nat.{ℕ, zero, suc, ◌≤◌, ◌<◌}
use mathlib.Core.Path.{◌≡◌, refl, sym, ap, ◌∙◌, subst}
use mathlib.Core.Logic.{◌⊎◌, inl, inr, ⊎_elim, ⊎_map, ◌≢◌}
use mathlib.Core.Bool.{Bool, true, false, false≢true}
use mathlib.Core.List.{List}
use mathlib.Core.Option.{Option, none, some}
use native.Mathlib.Nat.{not-suc-le-zero, le_refl}
use native.Mathlib.Decide.{ℕ_discrete}
use native.Mathlib.Omega.{arith}
use lib.Dec.{eqb}
use borrow.Author.Tests.{eqb-true, lt-ltb, le-leb}
use Rattle.rules.specs.declared.Sizes.{Sizes}
use Rattle.rules.specs.declared.Task.{Task}
use Rattle.rules.specs.declared.Decision.{Decision}
use Rattle.rules.specs.declared.Report.{Report}
use Rattle.rules.specs.declared.Report.TheVariants as report
use Rattle.rules.specs.Words.{pick, ◌or◌, get, upsert, compute, remove, scan, scan_down, is_scan, uses_function}
use Rattle.rules.specs.Tables.{Tables, value}
use Rattle.rules.specs.Stages
use Rattle.rules.specs.Rebalance.{Outcome}
use Rattle.rules.specs.Calls.{Call, started, calls}
use Rattle.rules.specs.Map.{Pair, Effect, lookup, by_seen, sequential}
use Rattle.map.proofs.Sequential.{removed-found}
use Rattle.laws.proofs.Tests.{picked, by-test, or_cases, or_left, or_right}
use Rattle.statements.specs.Sound.{Limited}
use Rattle.statements.specs.Runs.{decides, map_then, tables_at, map_at, task_at, DecidesAt, Working, Stepped}
use Rattle.simulation.specs.Beside.{replaces, change_answer}
use Rattle.simulation.proofs.Deciding.{is_none}
use Rattle.simulation.proofs.Simulating.{beside-holds, beside-changes}
use Rattle.statements.specs.Answers.{NeverDecides, ByChange}
use Rattle.facts.proofs.Reaching.{run-reached}
use Rattle.history.specs.Turns.{Begins, Steps, Rests, Came}
use Rattle.history.specs.Goes.{past, looks_in, looks_old, Gone, AbsentIn, Onward, stepped, Follows, Carries, Goes}
use Rattle.history.specs.Ghosts.{Started, WasAbsent, Ghost, RemovedValue}
use Rattle.history.proofs.Runs.{run-beside, tables-next, map_next, row_next, came}
use Rattle.history.proofs.Shown.{value_stays, gone-back}
use Rattle.history.proofs.Stepping.{answer-like, decides-goes}

-- ---- the sequential map, by what a row keeps
module _ (m : List Pair) (op k a f : ℕ) where
  module _ (g : ℕ) (same : uses_function op ≡ true → g ≡ f) where
    abbrev Kept-as : Option ℕ → Type 0
    Kept-as o = by_seen m op k (pick (eqb op get or eqb op remove) 0 a) g o ≡ by_seen m op k a f o

    with-argument : (eqb op get or eqb op remove) ≡ false → (o : Option ℕ) → Kept-as o
    with-argument e none = rw e refl
    with-argument e (some v) = rw e (by-test (uses_function op) (λ u. rw (same u) refl) (λ u. rw (or_left (eqb op upsert) (eqb op compute) u, or_right (eqb op upsert) (eqb op compute) u) refl))

    without : (op ≡ get) ⊎ (op ≡ remove) → (o : Option ℕ) → Kept-as o
    without (inl e) none = rw e refl
    without (inl e) (some v) = rw e refl
    without (inr e) none = rw e refl
    without (inr e) (some v) = rw e refl

    -- an argument and a function that the operation doesn't use are of no account
    kept-numbers : sequential m op k (pick (eqb op get or eqb op remove) 0 a) g ≡ sequential m op k a f
    unfolding sequential
    kept-numbers = by-test (eqb op get or eqb op remove) (λ e. without (⊎_map (eqb-true op get) (eqb-true op remove) (or_cases _ _ e)) (lookup m k)) (λ e. with-argument e (lookup m k))

  pub asked : (t : Task) → Started op k a f t → is_scan op ≡ false → sequential m t.operation t.key t.argument t.function ≡ sequential m op k a f
  asked t st ne = rw (st.operation, st.key ne, st.argument ne) (kept-numbers t.function st.function)

-- a task that shows none looks
looking : {z : Sizes} {x : Tables} {t : Task} → Gone z x t → (looks_in t.stage ≡ true) ⊎ (looks_old t.stage ≡ true)
looking (Gone.chunk q _) = inl q
looking (Gone.old q _) = inr q

module _ (z : Sizes) (lim : Limited z) (run : ℕ → Call) (n op k a f j : ℕ) where
  -- ---- moments
  pub absent-at : (i : ℕ) → AbsentIn z (tables_at z run i) k → lookup (map_at z run i) k ≡ none
  absent-at i gone = is_none (lookup (map_at z run i) k) (λ v e. gone v (((beside-holds z lim (run-beside z run i)).0 k v).0 e))

  was-later : (i : ℕ) → WasAbsent z run n k j i → WasAbsent z run n k j (suc i)
  was-later i w = record { moment = w.moment; after = w.after; to = omega (arith, w.to); absent = w.absent }

  stepped-later : (i : ℕ) → Stepped z run n j i → Stepped z run n j (suc i)
  stepped-later i w = record { at = w.at; since = w.since; before = omega (arith, w.before); own = w.own }

  -- ---- deciding steps, with one more call
  module _ (i : ℕ) where
    -- one of the first calls, or the one more
    last : (x : ℕ) → x ≤ suc i → (x ≡ suc i) ⊎ (x ≤ i)
    last x le = elim (ℕ_discrete x (suc i)) [ yes e ↦ inl e | no ne ↦ inr (omega (arith, le, ne)) ]

    pub never_on : NeverDecides z run n j i → (DecidesAt z run n (suc i) → ⊥) → NeverDecides z run n j (suc i)
    never_on never quiet x since le d = ⊎_elim (λ e. quiet (rw e at d)) (λ before. never x since before d) (last x le)

    pub change-on : {r : Report} → ByChange z run n op k a f j i r → ByChange z run n op k a f j (suc i) r
    change-on c = record { at = c.at; since = c.since; to = omega (arith, c.to); decides = c.decides; answers = c.answers }

    -- at a deciding step the map changes by what the operation was started with
    module _ (st : Started op k a f (task_at z run (suc i) n)) (ne : is_scan op ≡ false) where
      abbrev row : Task
      row = task_at z run (suc i) n

      abbrev map : List Pair
      map = map_at z run (suc i)

      same : sequential map row.operation row.key row.argument row.function ≡ sequential map op k a f
      same = asked map op k a f row st ne

      pub changes-here : n < z.tasks → DecidesAt z run n (suc i) → map_at z run (suc (suc i)) ≡ (sequential map op k a f).map
      changes-here b d = map_next z run (suc i) ∙ ap (λ (c : Call). map_then z (tables_at z run (suc i)) c map) d.own ∙ rw (lt-ltb n z.tasks b, d.deciding) (ap (λ (y : Effect). y.map) same)

    pub change-here : j < suc i → Started op k a f (task_at z run (suc i) n) → is_scan op ≡ false → DecidesAt z run n (suc i) → ByChange z run n op k a f j (suc i) (change_answer (tables_at z run (suc i)) (task_at z run (suc i) n))
    change-here since st ne d =
        record {
          at = suc i;
          since = since;
          to = le_refl _;
          decides = d;
          answers = ap (λ (y : Effect). y.answer) (sym (same st ne)) ∙ beside-changes z lim (run-beside z run (suc i)) n d.deciding;
        }

  -- ---- what is kept, over each call
  abbrev GhostOf : ℕ → Task → Type 0
  GhostOf i t = Ghost z run n op k a f j i t

  begins-ghost : (i : ℕ) → j ≡ i → (s : Tables) → GhostOf i (started z s op k a f)
  begins-ghost i e s =
      record {
        started = record { operation = refl; function = λ u. rw u refl; argument = λ _. refl; key = λ _. refl };
        decided = inl (first.0, λ x since le _. none x since le);
        stepped = λ l. absurd (blind l);
        seen = λ _ y. absurd (blind (looking y));
      }
    where
      none : (x : ℕ) → j < x → x ≤ i → ⊥
      none x since le = omega (arith, e)

      first : (past (started z s op k a f) ≡ false) × (looks_in (started z s op k a f).stage ≡ false) × (looks_old (started z s op k a f).stage ≡ false)
      first = by-test (eqb op scan) (λ q. rw q (refl, refl, refl)) (λ q. rw q (by-test (eqb op scan_down) (λ p. rw p (refl, refl, refl)) (λ p. rw p (refl, refl, refl))))

      blind : (looks_in (started z s op k a f).stage ≡ true) ⊎ (looks_old (started z s op k a f).stage ≡ true) → ⊥
      blind = ⊎_elim (λ q. false≢true (sym first.1 ∙ q)) (λ q. false≢true (sym first.2 ∙ q))

  module _ (i : ℕ) (since : j < suc i) (g : GhostOf i (task_at z run (suc i) n)) where
    abbrev s : Tables
    s = tables_at z run (suc i)

    abbrev t : Task
    t = task_at z run (suc i) n

    is_key : is_scan op ≡ false → t.key ≡ k
    is_key = g.started.key

    -- what it has seen was seen before, or the key is absent now
    seen-on : is_scan op ≡ false → Stepped z run n j (suc (suc i)) → Gone z s t ⊎ AbsentIn z (tables_at z run (suc (suc i))) t.key → WasAbsent z run n k j (suc (suc i))
    seen-on ne after (inl y) = was-later (suc i) (g.seen ne y)
    seen-on ne after (inr y) = record { moment = suc (suc i); after = after; to = le_refl _; absent = absent-at (suc (suc i)) (subst (AbsentIn z (tables_at z run (suc (suc i)))) (is_key ne) y) }

    -- ---- a call that leaves the row
    module _ (b : Rests z s (run (suc i)) n) (busy : t.stage ≢ 0) where
      quiet : DecidesAt z run n (suc i) → ⊥
      quiet d = busy (b.unstepped d.own)

      -- past its deciding step it answers as before: the value that it replaces stays
      stays : past t ≡ true → change_answer s t ≡ change_answer (tables_at z run (suc (suc i))) t
      stays is = sym (subst (λ (x : Tables). change_answer x t ≡ change_answer s t) (sym (tables-next z run (suc i))) (answer-like s (calls z s (run (suc i))).tables t t refl refl (value_stays z lim s (run-reached z run (suc i)) (run (suc i)) n (λ (e : t.stage ≡ 4). false≢true (rw e at is)) (λ (e : t.stage ≡ 5). false≢true (rw e at is)))))

      rests-ghost : GhostOf (suc i) t
      rests-ghost =
          record {
            started = g.started;
            decided = ⊎_map (λ w. (w.0, never_on i w.1 quiet)) (λ w. (w.0, subst (ByChange z run n op k a f j (suc i)) (stays w.0) (change-on i w.1))) g.decided;
            stepped = λ l. stepped-later (suc i) (g.stepped l);
            seen = λ ne y. seen-on ne (stepped-later (suc i) (g.stepped (looking y))) (back y);
          }
        where
          back : Gone z (tables_at z run (suc (suc i))) t → Gone z s t ⊎ AbsentIn z (tables_at z run (suc (suc i))) t.key
          back = subst (λ (x : Tables). Gone z x t → Gone z s t ⊎ AbsentIn z x t.key) (sym (tables-next z run (suc i))) (gone-back z lim s (run-reached z run (suc i)) (run (suc i)) n b.row)

    -- ---- a step of the task
    module _ (b : Steps z s (run (suc i)) n) where
      abbrev x : Decision
      x = Stages.decide z s n t

      pub goes : Goes z s n x
      goes = decides-goes z lim s (run-reached z run (suc i)) n b.busy

      own : Stepped z run n j (suc (suc i))
      own = record { at = suc i; since = since; before = omega arith; own = b.call }

      pub decides_not : decides z s t ≡ false → DecidesAt z run n (suc i) → ⊥
      decides_not e d = false≢true (sym e ∙ d.deciding)

      then-tables : tables_at z run (suc (suc i)) ≡ stepped z s n x
      then-tables = tables-next z run (suc i) ∙ ap (λ (o : Outcome). o.tables) b.done

      follows : Follows z s n x → Gone z (tables_at z run (suc (suc i))) x.task → Gone z s t ⊎ AbsentIn z (tables_at z run (suc (suc i))) t.key
      follows = subst (λ (y : Tables). (Gone z (stepped z s n x) x.task → Gone z s t ⊎ AbsentIn z (stepped z s n x) t.key) → Gone z y x.task → Gone z s t ⊎ AbsentIn z y t.key) (sym then-tables) (λ f. f)

      carries : Carries z s n x → ByChange z run n op k a f j (suc i) (change_answer s t) → ByChange z run n op k a f j (suc i) (change_answer (tables_at z run (suc (suc i))) x.task)
      carries e = subst (ByChange z run n op k a f j (suc i)) (sym e ∙ ap (λ (y : Tables). change_answer y x.task) (sym then-tables))

      -- what it was started with stays
      onward : Onward t x → Started op k a f x.task
      onward w = record { operation = w.operation ∙ g.started.operation; function = λ u. w.function (ap uses_function g.started.operation ∙ u) ∙ g.started.function u; argument = λ ne. w.argument (ap is_scan g.started.operation ∙ ne) ∙ g.started.argument ne; key = λ ne. w.key (ap is_scan g.started.operation ∙ ne) ∙ is_key ne }

      pub undecided : past t ≡ false → NeverDecides z run n j i
      undecided e = ⊎_elim (λ w. w.1) (λ w. absurd (false≢true (sym e ∙ w.0))) g.decided

      unlike : is_scan t.operation ≡ false → is_scan op ≡ false
      unlike ne = ap is_scan (sym g.started.operation) ∙ ne

      steps-ghost : x.task.stage ≢ 0 → GhostOf (suc i) x.task
      steps-ghost busy = go goes
        where
          go : Goes z s n x → GhostOf (suc i) x.task
          go (Goes.on w same d f) =
              record {
                started = onward w;
                decided = ⊎_map (λ c. (same.0 ∙ c.0, never_on i c.1 (decides_not d))) (λ c. (same.0 ∙ c.0, carries (same.1 c.0) (change-on i c.1))) g.decided;
                stepped = λ _. own;
                seen = λ ne y. seen-on ne own (follows f y);
              }
          go (Goes.turns w was is d u f) =
              record {
                started = onward w;
                decided = inr (is.0, carries is.1 (change-here i since g.started (unlike u) (record { own = b.call; deciding = d })));
                stepped = λ _. own;
                seen = λ ne y. seen-on ne own (follows f y);
              }
          go (Goes.answers e _ _) = absurd (busy e)
          go (Goes.refuses e _ _ _) = absurd (busy e)

  fresh-ghost : (i : ℕ) → j ≡ i → Begins z (tables_at z run i) (run i) n op k a f → GhostOf i (task_at z run (suc i) n)
  fresh-ghost i e b = subst (GhostOf i) (sym (row_next z run lim n i ∙ b.row)) (begins-ghost i e (tables_at z run i))

  pub ghost : (i : ℕ) → Working z run n op k a f j (suc i) → GhostOf i (task_at z run (suc i) n)
  ghost zero w = go (came z run lim n w)
    where
      go : Came z run n op k a f j zero → GhostOf zero (task_at z run (suc zero) n)
      go (Came.begins e b) = fresh-ghost zero e b
      go (Came.steps v b) = absurd (not-suc-le-zero v.before)
      go (Came.rests v b) = absurd (not-suc-le-zero v.before)
  ghost (suc i) w = go (came z run lim n w) (ghost i)
    where
      at-work : (task_at z run (suc (suc i)) n).stage ≢ 0
      at-work = w.on (suc (suc i)) w.before (le_refl _)

      go : Came z run n op k a f j (suc i) → (Working z run n op k a f j (suc i) → GhostOf i (task_at z run (suc i) n)) → GhostOf (suc i) (task_at z run (suc (suc i)) n)
      go (Came.begins e b) before = fresh-ghost (suc i) e b
      go (Came.steps v b) before = let row = row_next z run lim n (suc i) ∙ b.row in subst (GhostOf (suc i)) (sym row) (steps-ghost i v.before (before v) b (λ q. at-work (ap (λ (t : Task). t.stage) row ∙ q)))
      go (Came.rests v b) before = subst (GhostOf (suc i)) (sym (row_next z run lim n (suc i) ∙ b.row)) (rests-ghost i v.before (before v) b (v.on (suc i) v.before (le_refl _)))

  -- ---- removed-value
  pub removed-value : op ≡ remove → (i : ℕ) → Working z run n op k a f j (suc i) → 16 ≤ (task_at z run (suc i) n).stage → (task_at z run (suc i) n).stage ≤ 21 → RemovedValue z run n k j (suc i)
  removed-value is-remove i w from to = go g.decided
    where
      s : Tables
      s = tables_at z run (suc i)

      t : Task
      t = task_at z run (suc i) n

      g : GhostOf i t
      g = ghost i w

      is-past : past t ≡ true
      is-past = rw (le-leb 16 t.stage from, le-leb t.stage 21 to) refl

      replacing : replaces t.stage ≡ true
      replacing = picked (λ (b : Bool). b ≡ true) (eqb t.stage 5) (λ _. refl) (λ _. le-leb 16 t.stage from)

      answer : change_answer s t ≡ report.Value (value s t.old)
      answer = rw (g.started.operation, is-remove, replacing) refl

      go : ((past t ≡ false) × NeverDecides z run n j i) ⊎ ((past t ≡ true) × ByChange z run n op k a f j i (change_answer s t)) → RemovedValue z run n k j (suc i)
      go (inl c) = absurd (false≢true (sym c.0 ∙ is-past))
      go (inr c) = record { at = d.at; since = d.since; before = omega (arith, d.to); decides = d.decides; stands = removed-found (map_at z run d.at) k a f (value s t.old) (ap (λ (o : ℕ). (sequential (map_at z run d.at) o k a f).answer) (sym is-remove) ∙ d.answers ∙ answer) }
        where
          d : ByChange z run n op k a f j i (change_answer s t)
          d = c.1
