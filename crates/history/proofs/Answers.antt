-- Every finished operation answers as the sequential map does, at its deciding step or at a moment between its first step and its last.
use Prim.Native.Nat.{ℕ, zero, suc, ◌<◌}
use mathlib.Core.Path.{◌≡◌, refl, sym, ap, ◌∙◌, subst}
use mathlib.Core.Logic.{◌⊎◌, inl, inr, ⊎_elim, ◌≢◌}
use mathlib.Core.Bool.{true, false, false≢true}
use mathlib.Core.List.{List}
use mathlib.Core.Option.{some}
use native.Mathlib.Nat.{not-suc-le-zero, le_refl}
use native.Mathlib.Omega.{arith}
use borrow.Author.Tests.{eqb-true}
use lib.Dec.{eqb}
use Rattle.rules.specs.declared.Sizes.{Sizes}
use Rattle.rules.specs.declared.Task.{Task}
use Rattle.rules.specs.declared.Decision.{Decision}
use Rattle.rules.specs.declared.Report.{Report}
use Rattle.rules.specs.declared.Report.TheVariants as report
use Rattle.rules.specs.Words.{scan, scan_down, is_scan}
use Rattle.rules.specs.Tables.{Tables, task, value}
use Rattle.rules.specs.Stages
use Rattle.rules.specs.Shape.{fits_operation}
use Rattle.rules.specs.Rebalance.{Outcome}
use Rattle.rules.specs.Calls.{Call, calls}
use Rattle.rules.specs.Calls.Call.{step}
use Rattle.rules.specs.Map.{Pair, lookup, sequential}
use Rattle.map.proofs.Sequential.{on-absent, on-present}
use Rattle.laws.proofs.Tests.{or_cases}
use Rattle.statements.specs.Sound.{Limited}
use Rattle.statements.specs.Runs.{decides, tables_at, map_at, report_at, task_at, DecidesAt, Working}
use Rattle.simulation.specs.Beside.{change_answer}
use Rattle.simulation.proofs.Living.{reached-lively}
use Rattle.simulation.proofs.Simulating.{beside-holds, beside-shows}
use Rattle.rules.specs.Told.{is_answer}
use Rattle.statements.specs.Answers.{NeverDecides, ByChange, ByLooking, AnswersAsMap}
use Rattle.facts.proofs.Reaching.{reached-kept, run-reached}
use Rattle.history.specs.Turns.{Steps, Turn}
use Rattle.history.specs.Goes.{past, ending, Ends, Goes}
use Rattle.history.specs.Ghosts.{Ghost, WasAbsent}
use Rattle.history.proofs.Runs.{run-beside, run-turns, row_next, begun}
use Rattle.history.proofs.Shown.{holds-old}
use Rattle.history.proofs.Stepping.{decides-goes}
use Rattle.history.proofs.Ghosts as ghosts
use Rattle.history.proofs.Ghosts.{asked, never_on, change-on, changes-here, change-here, ghost}

-- an answer and refusal 9 are ends, and no answer is a refusal
answer-ends : (r : Report) → is_answer r ≡ true → ending r ≡ false → ⊥
answer-ends r e q = false≢true (sym q ∙ rw e refl)

nine-ends : (r : Report) → r ≡ report.Refused 9 → ending r ≡ false → ⊥
nine-ends r e q = false≢true (sym q ∙ ap ending e)

nine-no-answer : (r : Report) → r ≡ report.Refused 9 → is_answer r ≡ true → ⊥
nine-no-answer r e q = false≢true (ap is_answer (sym e) ∙ q)

-- a scan's stage decides nothing
scan-quiet : (z : Sizes) (s : Tables) (t : Task) → fits_operation t.operation t.stage ≡ true → is_scan t.operation ≡ true → decides z s t ≡ false
scan-quiet z s t fits e = ⊎_elim (λ (q : eqb t.operation scan ≡ true). rw (eqb-true t.stage 22 (rw (eqb-true t.operation scan q) at fits)) refl) (λ (q : eqb t.operation scan_down ≡ true). rw (eqb-true t.stage 23 (rw (eqb-true t.operation scan_down q) at fits)) refl) (or_cases _ _ e)

module _ (z : Sizes) (lim : Limited z) (run : ℕ → Call) where
  -- a call that is a step of a task at work does the step
  own-step : (n i : ℕ) → (task_at z run i n).stage ≢ 0 → run i ≡ step n → Steps z (tables_at z run i) (run i) n
  own-step n i busy e = go (run-turns z run lim i n)
    where
      go : Turn z (tables_at z run i) (run i) n → Steps z (tables_at z run i) (run i) n
      go (Turn.begins _ _ _ _ b) = absurd (busy b.was)
      go (Turn.steps b) = b
      go (Turn.rests b) = absurd (busy (b.unstepped e))

  pub ends : (n i : ℕ) → (task_at z run i n).stage ≢ 0 → (task_at z run (suc i) n).stage ≡ 0 → (run i ≡ step n) × ((is_answer (report_at z run i) ≡ true) ⊎ (report_at z run i ≡ report.Refused 9))
  ends n i busy done = go (run-turns z run lim i n)
    where
      s : Tables
      s = tables_at z run i

      Ended : Type 0
      Ended = (run i ≡ step n) × ((is_answer (report_at z run i) ≡ true) ⊎ (report_at z run i ≡ report.Refused 9))

      gone-on : (t : Task) → task (calls z s (run i)).tables n ≡ t → t.stage ≢ 0 → Ended
      gone-on t row still = absurd (still (sym (ap (λ (t : Task). t.stage) (row_next z run lim n i ∙ row)) ∙ done))

      by : Steps z s (run i) n → Goes z s n (Stages.decide z s n (task s n)) → Ended
      by b (Goes.on w _ _ _) = gone-on (Stages.decide z s n (task s n)).task b.row w.busy
      by b (Goes.turns w _ _ _ _ _) = gone-on (Stages.decide z s n (task s n)).task b.row w.busy
      by b (Goes.answers _ e _) = (b.call, inl (ap (λ (o : Outcome). is_answer o.report) b.done ∙ e))
      by b (Goes.refuses _ _ _ e) = (b.call, inr (ap (λ (o : Outcome). o.report) b.done ∙ e))

      go : Turn z s (run i) n → Ended
      go (Turn.begins _ _ _ _ b) = absurd (busy b.was)
      go (Turn.steps b) = by b (decides-goes z lim s (run-reached z run i) n busy)
      go (Turn.rests b) = gone-on (task s n) b.row busy

  over : (n i : ℕ) → (task_at z run i n).stage ≢ 0 → run i ≡ step n → (is_answer (report_at z run i) ≡ true) ⊎ (report_at z run i ≡ report.Refused 9) → (task_at z run (suc i) n).stage ≡ 0
  over n i busy e r = ap (λ (t : Task). t.stage) (row_next z run lim n i ∙ (own-step n i busy e).row) ∙ by r (decides-goes z lim s (run-reached z run i) n busy)
    where
      s : Tables
      s = tables_at z run i

      x : Decision
      x = Stages.decide z s n (task s n)

      reported : report_at z run i ≡ x.report
      reported = ap (λ (o : Outcome). o.report) (own-step n i busy e).done

      loud : (is_answer (report_at z run i) ≡ true) ⊎ (report_at z run i ≡ report.Refused 9) → ending x.report ≡ false → ⊥
      loud (inl a) = answer-ends x.report (ap is_answer (sym reported) ∙ a)
      loud (inr a) = nine-ends x.report (sym reported ∙ a)

      by : (is_answer (report_at z run i) ≡ true) ⊎ (report_at z run i ≡ report.Refused 9) → Goes z s n x → x.task.stage ≡ 0
      by r (Goes.on w _ _ _) = absurd (loud r w.quiet)
      by r (Goes.turns w _ _ _ _ _) = absurd (loud r w.quiet)
      by r (Goes.answers idle _ _) = idle
      by r (Goes.refuses idle _ _ _) = idle

  -- ---- an operation's own step, call i + 1
  module _ (n op k a f j i : ℕ) (w : Working z run n op k a f j (suc i)) (e : run (suc i) ≡ step n) where
    abbrev s : Tables
    s = tables_at z run (suc i)

    abbrev t : Task
    t = task s n

    abbrev x : Decision
    x = Stages.decide z s n t

    abbrev m : List Pair
    m = map_at z run (suc i)

    g : Ghost z run n op k a f j i t
    g = ghost z lim run n op k a f j i w

    b : Steps z s (run (suc i)) n
    b = own-step n (suc i) (w.on (suc i) w.before (le_refl _)) e

    goes : Goes z s n x
    goes = ghosts.goes z lim run n op k a f j i w.before g b

    reported : report_at z run (suc i) ≡ x.report
    reported = ap (λ (o : Outcome). o.report) b.done

    abbrev Answered : Report → Type 0
    Answered r = ByChange z run n op k a f j (suc i) r ⊎ ByLooking z run n op k a f j (suc i) r

    quiet : decides z s t ≡ false → DecidesAt z run n (suc i) → ⊥
    quiet = ghosts.decides_not z lim run n op k a f j i w.before g b

    before : past t ≡ false → NeverDecides z run n j i
    before = ghosts.undecided z lim run n op k a f j i w.before g b

    -- where it has not decided before, and does not now, it never decides
    never : past t ≡ false → decides z s t ≡ false → NeverDecides z run n j (suc i)
    never was d = never_on z lim run n op k a f j i (before was) (quiet d)

    changed : x.report ≡ change_answer s t → ByChange z run n op k a f j (suc i) (change_answer s t) → Answered x.report
    changed r c = inl (subst (ByChange z run n op k a f j (suc i)) (sym r) c)

    by_end : is_scan op ≡ false → Ends z s n x → Answered x.report
    by_end ne (Ends.changes was d u r) = changed r (change-here z lim run n op k a f j i w.before g.started ne (record { own = e; deciding = d }))
    by_end ne (Ends.tells is d r) = ⊎_elim (λ c. absurd (false≢true (sym c.0 ∙ is))) (λ c. changed r (change-on z lim run n op k a f j i c.1)) g.decided
    by_end ne (Ends.present was d l q right) = inr (record { never = never was d; moment = suc i; after = g.stepped (inr l); to = le_refl _; right = sym (asked m op k a f t g.started ne) ∙ on-present m t.operation t.key t.argument t.function (value s t.old) there ∙ right m })
      where
        inside : t.old.0 < z.handles
        inside = holds-old z lim s (run-reached z run (suc i)) n l

        there : lookup m t.key ≡ some (value s t.old)
        there = ((beside-holds z lim (run-beside z run (suc i))).0 t.key (value s t.old)).1 (record { handle = t.old.0; inside = inside; named = (reached-lively z lim (run-reached z run (suc i))).old-live n inside q; undeleted = q; valued = refl })
    by_end ne (Ends.absent was d gone right) = inr (record { never = never was d; moment = y.moment; after = y.after; to = y.to; right = sym (asked (map_at z run y.moment) op k a f t g.started ne) ∙ on-absent (map_at z run y.moment) t.operation t.key t.argument t.function (ap (lookup (map_at z run y.moment)) (g.started.key ne) ∙ y.absent) ∙ right (map_at z run y.moment) })
      where
        y : WasAbsent z run n k j (suc i)
        y = g.seen ne gone
    by_end ne (Ends.scanned q) = absurd (false≢true (sym ne ∙ ap is_scan (sym g.started.operation) ∙ q))

    answered-by : is_scan op ≡ false → is_answer x.report ≡ true → Goes z s n x → Answered x.report
    answered-by ne ans (Goes.on v _ _ _) = absurd (answer-ends x.report ans v.quiet)
    answered-by ne ans (Goes.turns v _ _ _ _ _) = absurd (answer-ends x.report ans v.quiet)
    answered-by ne ans (Goes.answers _ _ v) = by_end ne v
    answered-by ne ans (Goes.refuses _ _ _ r) = absurd (nine-no-answer x.report r ans)

    pub step-answered : is_scan op ≡ false → is_answer (report_at z run (suc i)) ≡ true → Answered (report_at z run (suc i))
    step-answered ne ans = subst Answered (sym reported) (answered-by ne (ap is_answer (sym reported) ∙ ans) goes)

    unserved-by : x.report ≡ report.Refused 9 → Goes z s n x → NeverDecides z run n j (suc i)
    unserved-by r (Goes.on v _ _ _) = absurd (nine-ends x.report r v.quiet)
    unserved-by r (Goes.turns v _ _ _ _ _) = absurd (nine-ends x.report r v.quiet)
    unserved-by r (Goes.answers _ ans _) = absurd (nine-no-answer x.report r ans)
    unserved-by r (Goes.refuses _ was d _) = never was d

    pub step-unserved : report_at z run (suc i) ≡ report.Refused 9 → NeverDecides z run n j (suc i)
    step-unserved r = unserved-by (sym reported ∙ r) goes

    -- ---- a deciding step, whether the operation ends or not
    module _ (d : DecidesAt z run n (suc i)) where
      loud : decides z s t ≡ false → ⊥
      loud q = false≢true (sym q ∙ d.deciding)

      -- it is the first, and no scan's
      first-by-end : Ends z s n x → NeverDecides z run n j i × (is_scan op ≡ false)
      first-by-end (Ends.changes was _ u _) = (before was, ap is_scan (sym g.started.operation) ∙ u)
      first-by-end (Ends.tells _ q _) = absurd (loud q)
      first-by-end (Ends.present _ q _ _ _) = absurd (loud q)
      first-by-end (Ends.absent _ q _ _) = absurd (loud q)
      first-by-end (Ends.scanned q) = absurd (loud (scan-quiet z s t (((reached-kept z lim (run-reached z run (suc i))).tasks n).holds b.busy).fits q))

      first_by : Goes z s n x → NeverDecides z run n j i × (is_scan op ≡ false)
      first_by (Goes.on _ _ q _) = absurd (loud q)
      first_by (Goes.turns _ was _ _ u _) = (before was, ap is_scan (sym g.started.operation) ∙ u)
      first_by (Goes.answers _ _ v) = first-by-end v
      first_by (Goes.refuses _ _ q _) = absurd (loud q)

      pub step-first : NeverDecides z run n j i
      step-first = (first_by goes).0

      pub step-changes : map_at z run (suc (suc i)) ≡ (sequential m op k a f).map
      step-changes = changes-here z lim run n op k a f j i g.started (first_by goes).1 b.numbered d

  -- the same of any call: the first is no step of a task at work
  once : (n op k a f j i : ℕ) → Working z run n op k a f j i → DecidesAt z run n i → (x : ℕ) → j < x → x < i → DecidesAt z run n x → ⊥
  once n op k a f j zero w d x since lt = absurd (not-suc-le-zero lt)
  once n op k a f j (suc i) w d x since lt = step-first n op k a f j i w d.own d x since (omega arith)

  changes : (n op k a f j i : ℕ) → Working z run n op k a f j i → DecidesAt z run n i → map_at z run (suc i) ≡ (sequential (map_at z run i) op k a f).map
  changes n op k a f j zero w d = absurd (not-suc-le-zero w.before)
  changes n op k a f j (suc i) w d = step-changes n op k a f j i w d.own d

  answered : (n op k a f j i : ℕ) → Working z run n op k a f j i → is_scan op ≡ false → run i ≡ step n → is_answer (report_at z run i) ≡ true → ByChange z run n op k a f j i (report_at z run i) ⊎ ByLooking z run n op k a f j i (report_at z run i)
  answered n op k a f j zero w ne e ans = absurd (not-suc-le-zero w.before)
  answered n op k a f j (suc i) w ne e ans = step-answered n op k a f j i w e ne ans

  unserved : (n op k a f j i : ℕ) → Working z run n op k a f j i → run i ≡ step n → report_at z run i ≡ report.Refused 9 → NeverDecides z run n j i
  unserved n op k a f j zero w e r = absurd (not-suc-le-zero w.before)
  unserved n op k a f j (suc i) w e r = step-unserved n op k a f j i w e r

  pub answers : AnswersAsMap z run
  answers =
      record {
        shows = λ i. beside-shows z lim (run-beside z run i);
        ascends = λ i. (beside-holds z lim (run-beside z run i)).1;
        begun = λ n i busy. let b = begun z run lim n i busy in (b.operation, b.key, b.argument, b.function, b.started, b.working);
        ends = ends;
        over = over;
        once = once;
        changes = changes;
        answered = answered;
        unserved = unserved;
      }
