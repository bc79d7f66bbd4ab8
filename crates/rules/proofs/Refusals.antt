-- Every call refuses exactly on its stated occasions, in their order, and leaves what document 01 says (document 01, "Numbers of refusal").
use Prim.Native.Nat.{ℕ, ◌≤◌}
use mathlib.Core.Path.{◌≡◌, refl, sym, ap, ◌∙◌}
use mathlib.Core.Logic.{◌≢◌}
use mathlib.Core.Bool.{Bool, true, false, not, true≢false}
use mathlib.Core.List.{List, []}
use native.Mathlib.Omega.{arith}
use lib.Dec.{eqb, ltb, leb}
use lib.ListN.{set}
use lib.Seq.{set-get_or}
use borrow.Author.Tests.{eqb-false}
use Rattle.rules.specs.declared.Sizes.{Sizes}
use Rattle.rules.specs.declared.EntryNo.{EntryNo}
use Rattle.rules.specs.declared.Decision.{Decision}
use Rattle.rules.specs.declared.Report.{Report}
use Rattle.rules.specs.declared.Report.TheVariants.{Moved, Frozen, Full, Lost, Pair, Value, Absent, Done, True, False, Waiting, Finished, Refused}
use Rattle.rules.specs.Words.{pick, ◌and◌, ◌or◌, NONE, is_scan, uses_function, idle}
use Rattle.rules.specs.Tables.{Tables, idle_task, with_stacks, task, put_task, stack}
use Rattle.rules.specs.Stages.{stage_does, stack_then, put_own, apply, takes_handle}
use Rattle.rules.specs.Rebalance.{Outcome, gives, rebalance_does, unused_count}
use Rattle.rules.specs.Shape.{shape}
use Rattle.rules.specs.Calls.{Call, calls, does}
use Rattle.rules.specs.Calls.Call.{start, step, begin, rebalance}
use Rattle.rules.specs.Occasions.{refusal, occasions, occasions_of, none_free, RefusedBy}
use Rattle.rules.proofs.Tests.{outside, or_assoc, pick_same}
use Rattle.rules.proofs.Stages.{stage_cases, rebalance-cases}
use Rattle.rules.proofs.Shaped.{stage-known, rebalance-known}
use Rattle.rules.proofs.Free.{takes-free}

-- ---- reports that refuse nothing
abbrev speaks : Report → Bool
speaks Moved = true
speaks Frozen = true
speaks Full = true
speaks Lost = true
speaks (Pair k v) = true
speaks (Value v) = true
speaks Absent = true
speaks Done = true
speaks True = true
speaks False = true
speaks Waiting = true
speaks Finished = true
speaks (Refused n) = false

-- ---- an outcome against its number
module _ (s : Tables) (c : Call) where
  done : (o : Outcome) → speaks o.report ≡ true → RefusedBy s c 0 o
  done o h =
      record {
        returns = λ n. absurd (n refl);
        accepts = λ e m q. true≢false (sym h ∙ ap speaks q);
        leaves = λ n. absurd (n refl);
        idles = λ e. absurd (omega arith);
      }

  refused : (n : ℕ) → n ≢ 0 → n ≢ 9 → RefusedBy s c n (gives s (Refused n))
  refused n a b = record { returns = λ q. refl; accepts = λ e. absurd (a e); leaves = λ q r. refl; idles = λ e. absurd (b e) }

  -- a test's refusal comes before the rest, where the test holds or where it fails
  where-true : (b : Bool) (k n : ℕ) (o : Outcome) → k ≢ 0 → k ≢ 9 → (b ≡ false → RefusedBy s c n o) → RefusedBy s c (pick b k n) (pick b (gives s (Refused k)) o)
  where-true true k n o a b r = refused k a b
  where-true false k n o a b r = r refl

  where-false : (b : Bool) (k n : ℕ) (o : Outcome) → k ≢ 0 → k ≢ 9 → (b ≡ true → RefusedBy s c n o) → RefusedBy s c (pick (not b) k n) (pick b o (gives s (Refused k)))
  where-false true k n o a b r = r refl
  where-false false k n o a b r = refused k a b

-- ---- the stages: none but 8 refuses
said : (b : Bool) (d e : Decision) → speaks (pick b d e).report ≡ pick b (speaks d.report) (speaks e.report)
said true d e = refl
said false d e = refl

answers : (b : Bool) (q r : Report) → speaks (pick b q r) ≡ pick b (speaks q) (speaks r)
answers true q r = refl
answers false q r = refl

ended : (b : Bool) (o q : Outcome) → speaks (pick b o q).report ≡ pick b (speaks o.report) (speaks q.report)
ended true o q = refl
ended false o q = refl

ruleset spoken = (said, answers, ended, pick_same)

module _ (z : Sizes) (s : Tables) where
  -- ---- each call on tables that have the shape
  start-answers : (n op k a f : ℕ) → RefusedBy s (start n op k a f) (refusal (occasions_of z s (start n op k a f))) (does z s (start n op k a f))
  unfolding refusal does
  start-answers n op k a f =
      where-true s _ (leb z.tasks n) 1 _ _ (omega arith) (omega arith) λ e.
      where-false s _ (eqb (task s n).stage 0) 2 _ _ (omega arith) (omega arith) λ e.
      rw (outside 1 8 op, outside 1 3 f, or_assoc) (where-true s _ (ltb op 1 or ltb 8 op or (uses_function op and (ltb f 1 or ltb 3 f))) 5 _ _ (omega arith) (omega arith) λ e.
      where-true s _ (is_scan op and ltb a k) 4 _ _ (omega arith) (omega arith) λ e. done s _ _ refl)

  begin-answers : (k : ℕ) → RefusedBy s (begin k) (refusal (occasions_of z s (begin k))) (does z s (begin k))
  unfolding refusal does
  begin-answers k =
      where-false s _ (eqb s.directory.stage idle) 6 _ _ (omega arith) (omega arith) λ e.
      where-true s _ (ltb (unused_count s.chunks) 2) 7 _ _ (omega arith) (omega arith) λ e. done s _ _ refl

  rebalance-answers : shape z s ≡ true → RefusedBy s rebalance (refusal (occasions_of z s rebalance)) (does z s rebalance)
  unfolding refusal does rebalance_does
  rebalance-answers h =
      rebalance-cases (λ n. RefusedBy s rebalance (pick (eqb n idle) 8 0) (rebalance_does n z s))
      (refused s rebalance 8 (omega arith) (omega arith))
      (done s rebalance _ (simp spoken))
      (done s rebalance _ (simp spoken))
      (done s rebalance _ refl)
      (done s rebalance _ refl)
      (done s rebalance _ (simp spoken))
      s.directory.stage
      (rebalance-known z s h)

  -- a step's outcome, of what its stage decides
  abbrev stepped : ℕ → Decision → Outcome
  stepped m x = gives (apply z (put_own z s m x.task) x.write) x.report

  -- a task elsewhere than at 23 keeps its stack
  stack-stays : (m n : ℕ) → (task s m).stage ≡ n → eqb n 23 ≡ false → stack_then z s (task s m) m ≡ stack s m
  stack-stays m n e other = rw (e, other)

  -- "stage 8 with no free handle"
  eighth-answers : z.handles ≤ NONE → (m : ℕ) → (task s m).stage ≡ 8 → RefusedBy s (step m) (pick (none_free s.entries s.tasks z.handles) 9 0) (stepped m (takes_handle z s (task s m)))
  eighth-answers le m e = go (none_free s.entries s.tasks z.handles) refl
    where
      own : put_own z s m idle_task ≡ put_task s m idle_task
      own = ap (λ (w : List (List EntryNo)). with_stacks (put_task s m idle_task) w) (ap (λ (w : List EntryNo). set s.stacks m w) (stack-stays m 8 e refl) ∙ set-get_or s.stacks m [])

      go : (b : Bool) → none_free s.entries s.tasks z.handles ≡ b → RefusedBy s (step m) (pick (none_free s.entries s.tasks z.handles) 9 0) (stepped m (takes_handle z s (task s m)))
      go true b =
          rw (takes-free z s le, b)
          (record { returns = λ a. refl; accepts = λ a. absurd (omega arith); leaves = λ a b. absurd (b refl); idles = λ a. (m, refl, own) })
      go false b = rw (takes-free z s le, b) (done s (step m) _ refl)

  stage-answers : z.handles ≤ NONE → (m n : ℕ) → n ≤ 23 → n ≢ 0 → (task s m).stage ≡ n → RefusedBy s (step m) (pick (eqb n 8 and none_free s.entries s.tasks z.handles) 9 0) (stepped m (stage_does n m z s (task s m)))
  unfolding stage_does
  stage-answers le m =
      stage_cases (λ n. n ≢ 0 → (task s m).stage ≡ n → RefusedBy s (step m) (pick (eqb n 8 and none_free s.entries s.tasks z.handles) 9 0) (stepped m (stage_does n m z s (task s m))))
      (λ a. absurd (a refl))
      (λ a e. done s (step m) _ refl)
      (λ a e. done s (step m) _ (simp spoken))
      (λ a e. done s (step m) _ (simp spoken))
      (λ a e. done s (step m) _ (simp spoken))
      (λ a e. done s (step m) _ (simp spoken))
      (λ a e. done s (step m) _ (simp spoken))
      (λ a e. done s (step m) _ (simp spoken))
      (λ a. eighth-answers le m)
      (λ a e. done s (step m) _ refl)
      (λ a e. done s (step m) _ (simp spoken))
      (λ a e. done s (step m) _ (simp spoken))
      (λ a e. done s (step m) _ (simp spoken))
      (λ a e. done s (step m) _ (simp spoken))
      (λ a e. done s (step m) _ (simp spoken))
      (λ a e. done s (step m) _ (simp spoken))
      (λ a e. done s (step m) _ refl)
      (λ a e. done s (step m) _ (simp spoken))
      (λ a e. done s (step m) _ (simp spoken))
      (λ a e. done s (step m) _ (simp spoken))
      (λ a e. done s (step m) _ (simp spoken))
      (λ a e. done s (step m) _ refl)
      (λ a e. done s (step m) _ (simp spoken))
      (λ a e. done s (step m) _ (simp spoken))

  step-answers : z.handles ≤ NONE → shape z s ≡ true → (n : ℕ) → RefusedBy s (step n) (refusal (occasions_of z s (step n))) (does z s (step n))
  unfolding refusal does
  step-answers le h n =
      where-true s _ (leb z.tasks n) 1 _ _ (omega arith) (omega arith) λ e.
      where-true s _ (eqb (task s n).stage 0) 3 _ _ (omega arith) (omega arith) λ e.
      stage-answers le n (task s n).stage (stage-known z s h n) (eqb-false _ _ e) refl

  call-answers : z.handles ≤ NONE → shape z s ≡ true → (c : Call) → RefusedBy s c (refusal (occasions_of z s c)) (does z s c)
  call-answers le h (start n op k a f) = start-answers n op k a f
  call-answers le h (step n) = step-answers le h n
  call-answers le h (begin k) = begin-answers k
  call-answers le h rebalance = rebalance-answers h

-- on any tables and numbers, of no more handles than a machine's word counts, since the number of the last word stands for none
pub refusals : (z : Sizes) (s : Tables) (c : Call) → z.handles ≤ NONE → RefusedBy s c (refusal (occasions z s c)) (calls z s c)
unfolding refusal calls
refusals z s c le = where-false s c (shape z s) 10 _ _ (omega arith) (omega arith) λ e. call-answers z s le e c
