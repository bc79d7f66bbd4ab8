-- An upward scan is judged pair by pair, along a run.
use Prim.Native.Nat.{ℕ, zero, suc, ◌≤◌, ◌<◌}
use mathlib.Core.Path.{◌≡◌, refl, sym, ap, ◌∙◌, subst}
use mathlib.Core.Logic.{◌≢◌}
use mathlib.Core.Bool.{true, false, false≢true}
use mathlib.Core.Option.{some}
use native.Mathlib.Nat.{not-suc-le-zero}
use native.Mathlib.Decide.{ℕ_discrete}
use native.Mathlib.Omega.{arith}
use Rattle.rules.specs.declared.Sizes.{Sizes}
use Rattle.rules.specs.declared.Task.{Task}
use Rattle.rules.specs.declared.Decision.{Decision}
use Rattle.rules.specs.declared.Report.TheVariants as report
use Rattle.rules.specs.Words.{largest, scan, scan_down}
use Rattle.rules.specs.Told.{Told, tells, told, is_answer}
use Rattle.rules.specs.Tables.{task}
use Rattle.rules.specs.Walks.{Present}
use Rattle.rules.specs.Stages
use Rattle.rules.specs.Calls.{Call, calls}
use Rattle.rules.specs.Calls.Call.{step}
use Rattle.rules.specs.Map.{lookup}
use Rattle.statements.specs.Sound.{Limited}
use Rattle.statements.specs.Runs.{decides, tables_at, map_at, report_at, Working}
use Rattle.facts.proofs.Reaching.{reached-kept, run-reached}
use Rattle.history.specs.Turns.{Steps, Came}
use Rattle.statements.specs.Answers.{GivesAt, Given, left, ScansAt}
use Rattle.history.proofs.Runs.{row_next, came}
use Rattle.scans.specs.Scanned.{Left, Among, Always, Scanning, Scanned}
use Rattle.scans.proofs.Judging
use Rattle.scans.proofs.Judging.{shown, found, row, decision, own-step, reports, now, more, less, unseen, undecided}
use Rattle.scans.proofs.Past.{left_to, left-or-not, past-stage, past-above, past-last, past-still, past-fewer, past_all}
use Rattle.scans.proofs.Steps.{scan-by}

module _ (z : Sizes) (lim : Limited z) (run : ℕ → Call) where
  module _ (n : ℕ) where
    -- ---- a step of a scan
    module _ (i : ℕ) (stage : (row z lim run n i).stage ≡ 22) where
      scanning : Scanning z (tables_at z run i) (row z lim run n i) (decision z lim run n i)
      scanning = scan-by z lim (tables_at z run i) (reached-kept z lim (run-reached z run i)) n (row z lim run n i) stage

      busy : (row z lim run n i).stage ≢ 0
      busy e = absurd (omega (arith, stage, e))

      -- the pair that it gives is a present one that is left, and it goes past it
      pub record Gave (q v : ℕ) : Type 0 where
        pub present : Present z (tables_at z run i) q v
        pub was : Left (row z lim run n i) q
        pub past : (decision z lim run n i).task ≡ Stages.goes_past (row z lim run n i) q

      gave : (q v : ℕ) → GivesAt z run n i q v → Gave q v
      gave q v g = go scanning
        where
          says : {x : Decision} → decision z lim run n i ≡ x → told x.report ≡ tells 5 q v
          says is = ap told (sym (reports z lim run n i busy g.own is) ∙ g.pair)

          go : Scanning z (tables_at z run i) (row z lim run n i) (decision z lim run n i) → Gave q v
          go (Scanning.gives p w is there was _) = rw (← ap (λ (t : Told). t.first) (says is), ← ap (λ (t : Told). t.second) (says is)) (record { present = there; was = was; past = ap (λ (x : Decision). x.task) is })
          go (Scanning.passes _ is _ _ _) = absurd (one-five (ap (λ (t : Told). t.number) (says is)))
            where
              one-five : ◌≡◌ {A = ℕ} 1 5 → ⊥
              one-five e = omega arith
          go (Scanning.ends is _) = absurd (eight-five (ap (λ (t : Told). t.number) (says is)))
            where
              eight-five : ◌≡◌ {A = ℕ} 8 5 → ⊥
              eight-five e = omega arith

    module _ (k a f j : ℕ) where
      abbrev ScannedAt : ℕ → Type 0
      ScannedAt i = Scanned z run n k a j i (row z lim run n i)

      -- ---- a call leaves the scan what was left, but for what is given and what is not present at every moment
      onward : (i : ℕ) (u : Task) → ScannedAt i → task (calls z (tables_at z run i) (run i)).tables n ≡ u → u.stage ≡ 22 → ((p : ℕ) → Left u p → Left (row z lim run n i) p) →
          ((q v : ℕ) → GivesAt z run n i q v → (p : ℕ) → Left u p → q < p) →
          ((q : ℕ) → q ≤ largest → Left (row z lim run n i) q → (Left u q → ⊥) → Always z run n j (suc i) q → Given z run n j (suc i) q) → ScannedAt (suc i)
      onward i u h is stage still gives past =
          subst (Scanned z run n k a j (suc i)) (sym (row_next z run lim n i ∙ is))
          (record {
            stage = stage;
            ranged = λ q l. h.ranged q (still q l);
            above = λ x q v since lt g p l. elim (ℕ_discrete x i) [ yes e ↦ gives q v (rw e at g) p l | no ne ↦ h.above x q v since (omega (arith, ne, lt)) g p (still p l) ];
            given = λ q low up small gone always. left-or-not (row z lim run n i) q (λ l. past q small l gone always) (λ out. more z lim run n j i q (h.given q low up small out (less z lim run n j i q always)));
          })

      step-scanned : (i : ℕ) → j < i → ScannedAt i → Steps z (tables_at z run i) (run i) n → (row z lim run n (suc i)).stage ≢ 0 → ScannedAt (suc i)
      step-scanned i after h b on = go (scanning i h.stage)
        where
          t : Task
          t = row z lim run n i

          -- at its step every such key is present, and so among those that the step does not pass over
          here : (These : ℕ → Type 0) → Among z (tables_at z run i) t These → (q : ℕ) → Left t q → Always z run n j (suc i) q → These q
          here These among q l always = found z lim run i q (Judging.here z lim run n j i q after b.call always) (λ w present. among q w present l)

          next : {x : Decision} → decision z lim run n i ≡ x → task (calls z (tables_at z run i) (run i)).tables n ≡ x.task
          next is = b.row ∙ ap (λ (x : Decision). x.task) is

          -- what it gives lies below what is then left
          gives : {x : Decision} → decision z lim run n i ≡ x → (q v : ℕ) → GivesAt z run n i q v → (p : ℕ) → Left x.task p → q < p
          gives is q v g p l = past-above t q p (rw (sym (ap (λ (x : Decision). x.task) is) ∙ (gave i h.stage q v g).past) at l)

          go : Scanning z (tables_at z run i) t (decision z lim run n i) → ScannedAt (suc i)
          go (Scanning.gives q v is there was only) = onward i (Stages.goes_past t q) h (next is) (past-stage t q ∙ h.stage) (past-still t q was) (gives is) past
            where
              past : (p : ℕ) → p ≤ largest → Left t p → (Left (Stages.goes_past t q) p → ⊥) → Always z run n j (suc i) p → Given z run n j (suc i) p
              past p small l gone always =
                  elim (ℕ_discrete p q) [
                    | yes e ↦ record { at = i; value = v; since = after; before = omega arith; gives = record { own = b.call; pair = rw e (reports z lim run n i (busy i h.stage) b.call is) } }
                    | no ne ↦ absurd (gone (past_all t q p small (omega (arith, ne, here (λ p. q ≤ p) only p l always)) l))
                  ]
          go (Scanning.passes c is _ lt clear) = onward i (Stages.cursor_at t c) h (next is) h.stage (λ p l. record { from = omega (arith, lt, l.from); to = l.to }) (gives is) (λ p small l gone always. absurd (gone (record { from = here (λ p. c ≤ p) clear p l always; to = l.to })))
          go (Scanning.ends is _) = absurd (on (ap (λ (t : Task). t.stage) (row_next z run lim n i ∙ next is)))

      -- ---- at every moment of a scan at work
      scanned : (i : ℕ) → Working z run n scan k a f j i → ScannedAt i
      scanned zero w = absurd (not-suc-le-zero w.before)
      scanned (suc i) w = go (came z run lim n w) (scanned i)
        where
          go : Came z run n scan k a f j i → (Working z run n scan k a f j i → ScannedAt i) → ScannedAt (suc i)
          go (Came.begins e b) before =
              subst (Scanned z run n k a j (suc i)) (sym (row_next z run lim n i ∙ b.row))
              (record { stage = refl; ranged = λ q l. (l.from, l.to); above = λ x q v since lt g. absurd (omega (arith, e, since, lt)); given = λ q low up small out always. absurd (out (record { from = low; to = up })) })
          go (Came.steps v b) before = step-scanned i v.before (before v) b (w.on (suc i) w.before (omega arith))
          go (Came.rests v b) before = onward i (row z lim run n i) (before v) b.row (before v).stage (λ p l. l) (λ q u g. absurd (v.on i v.before (omega arith) (b.unstepped g.own))) (λ q small l out always. absurd (out l))

    -- ---- what the demand says, at one moment
    module _ (k a f j i : ℕ) (w : Working z run n scan k a f j i) where
      h : Scanned z run n k a j i (row z lim run n i)
      h = scanned k a f j i w

      gave-now : (q v : ℕ) → GivesAt z run n i q v → Gave i h.stage q v
      gave-now = gave i h.stage

      is-present : (q v : ℕ) → GivesAt z run n i q v → lookup (map_at z run i) q ≡ some v
      is-present q v g = shown z lim run i q v (gave-now q v g).present

      is-ranged : (q v : ℕ) → GivesAt z run n i q v → (k ≤ q) × (q ≤ a)
      is-ranged q v g = h.ranged q (gave-now q v g).was

      ascending : (x p q v u : ℕ) → j < x → x < i → GivesAt z run n x p v → GivesAt z run n i q u → p < q
      ascending x p q v u since lt g g' = h.above x p v since lt g q (gave-now q u g').was

      module _ (own : run i ≡ step n) where
        -- the row that its step leaves
        then : {u : Task} → (decision z lim run n i).task ≡ u → left z run n (suc i) ≡ left_to u
        then is = ap left_to (row_next z run lim n i ∙ (own-step z lim run n i (busy i h.stage) own).row ∙ is)

        fewer : is_answer (report_at z run i) ≡ false → left z run n (suc i) < left z run n i
        fewer quiet = go (scanning i h.stage)
          where
            said : {x : Decision} → decision z lim run n i ≡ x → is_answer x.report ≡ false
            said is = rw (reports z lim run n i (busy i h.stage) own is) at quiet

            go : Scanning z (tables_at z run i) (row z lim run n i) (decision z lim run n i) → left z run n (suc i) < left z run n i
            go (Scanning.gives q _ is _ was _) = rw (then (ap (λ (x : Decision). x.task) is)) (past-fewer (row z lim run n i) q was)
            go (Scanning.passes _ is le lt _) = rw (then (ap (λ (x : Decision). x.task) is)) (omega (arith, le, lt))
            go (Scanning.ends is _) = absurd (false≢true (sym (said is)))

        none_left : (v : ℕ) → GivesAt z run n i largest v → left z run n (suc i) ≡ 0
        none_left v g = then (gave-now largest v g).past ∙ past-last (row z lim run n i) largest refl

      undeciding : decides z (tables_at z run i) (row z lim run n i) ≡ false
      undeciding = rw h.stage refl

      module _ (own : run i ≡ step n) (answered : is_answer (report_at z run i) ≡ true) where
        -- it ends where no key that is left is present
        pub record Ended : Type 0 where
          pub done : report_at z run i ≡ report.Done
          pub clear : Among z (tables_at z run i) (row z lim run n i) (λ _. ⊥)

        ended : Ended
        ended = go (scanning i h.stage)
          where
            said : {x : Decision} → decision z lim run n i ≡ x → is_answer x.report ≡ true
            said is = rw (reports z lim run n i (busy i h.stage) own is) at answered

            go : Scanning z (tables_at z run i) (row z lim run n i) (decision z lim run n i) → Ended
            go (Scanning.gives _ _ is _ _ _) = absurd (false≢true (said is))
            go (Scanning.passes _ is _ _ _) = absurd (false≢true (said is))
            go (Scanning.ends is clear) = record { done = reports z lim run n i (busy i h.stage) own is; clear = clear }

        completes : (q : ℕ) → k ≤ q → q ≤ a → q ≤ largest → Always z run n j i q → Given z run n j i q
        completes q low up small always = left-or-not (row z lim run n i) q (λ l. found z lim run i q (always i (now z lim run n j i w.before own)) (λ v p. absurd (ended.clear q v p l))) (λ out. h.given q low up small out always)

-- a scan from k to a, upward
pub scans-up : (z : Sizes) → Limited z → (run : ℕ → Call) (n k a f j i : ℕ) → Working z run n scan k a f j i → run i ≡ step n → ScansAt z run n scan k a j i
scans-up z lim run n k a f j i w own =
    record {
      present = is-present z lim run n k a f j i w;
      ranged = is-ranged z lim run n k a f j i w;
      strict = ascending z lim run n k a f j i w;
      narrows = λ _. fewer z lim run n k a f j i w own;
      last = λ _. none_left z lim run n k a f j i w own;
      sinks = λ e. absurd (up e);
      complete = completes z lim run n k a f j i w own;
      absent = unseen z lim run n scan k a f j (is-present z lim run n k a f j) i w;
      answers = λ answered. (ended z lim run n k a f j i w own answered).done;
      unchanged = undecided z lim run n scan k a f j (undeciding z lim run n k a f j) i w;
    }
  where
    up : scan ≡ scan_down → ⊥
    up e = omega arith
