-- Every call keeps old-deleted, and that a taken handle is undeleted and has its value.
use Prim.Native.Nat.{ℕ, ◌<◌}
use mathlib.Core.Path.{◌≡◌, refl, sym, ap, ◌∙◌}
use mathlib.Core.Logic.{◌⊎◌, inl, inr, ⊎_elim, ◌≢◌}
use mathlib.Core.List.{List}
use native.Mathlib.Decide.{ℕ_discrete, dec_lt}
use native.Mathlib.Omega.{arith}
use lib.Dec.{ltb}
use lib.ListN.{length, get_or, set}
use lib.Seq.{get_or-set_same, get_or-set_other, set_out}
use Rattle.rules.specs.declared.Sizes.{Sizes}
use Rattle.rules.specs.declared.EntryNo.{EntryNo}
use Rattle.rules.specs.declared.Task.{Task}
use Rattle.rules.specs.declared.Decision.{Decision}
use Rattle.rules.specs.declared.Write.{Write}
use Rattle.rules.specs.declared.Write.TheVariants as write
use Rattle.rules.specs.Words.{NONE}
use Rattle.rules.specs.Tables.{Tables, idle_task, with_own, task, put_task}
use Rattle.rules.specs.Stages
use Rattle.rules.specs.Calls.{Call, fresh, started, starts, steps, does}
use Rattle.rules.specs.Calls.Call.{start, step, begin, rebalance}
use Rattle.laws.proofs.Tests.{picked}
use Rattle.statements.specs.Sound.{Limited}
use Rattle.facts.specs.Facts.{Kept}
use Rattle.facts.specs.Reached.{Reached}
use Rattle.facts.proofs.Applying.{Applied}
use Rattle.facts.proofs.Fresh.{get_or-all}
use Rattle.facts.proofs.Reaching.{call_by, reached-kept}
use Rattle.facts.proofs.Tasks.{start-by, step_by, step-applied}
use Rattle.handles.proofs.Owning.{OwnedBy, put-tasks}
use Rattle.handles.proofs.Keys.{reached-owned}
use Rattle.handles.proofs.Handing.{rebalance-tasks, begin-tasks}
use Rattle.holds.specs.Marked.{OldDeleted, NewWritten, Marked}
use Rattle.holds.proofs.Marking.{Touches, Marks, decides-marks}

-- a mark of 1 stays where 1 is written
one-stays : (l : List ℕ) (i j : ℕ) → get_or l j 0 ≡ 1 → get_or (set l i 1) j 0 ≡ 1
one-stays l i j h = elim (ℕ_discrete j i) [ yes e ↦ elim (dec_lt i (length l)) [ yes b ↦ rw e (get_or-set_same l i 1 0 b) | no out ↦ rw (set_out l i 1 (omega arith)) h ] | no ne ↦ get_or-set_other l i j 1 0 ne ∙ h ]

module _ (z : Sizes) (lim : Limited z) (s : Tables) (kept : Kept z s) (own : OwnedBy z s) (marked : Marked z s) where
  -- ---- another task's handles, after a write
  module _ (n : ℕ) (ts : List Task) (ss : List (List EntryNo)) (m : ℕ) (ne : m ≢ n) where
    old-then : (w : Write) → Touches z lim s kept marked n w → OldDeleted z (Stages.apply z (with_own s ts ss) w).marks (task s m)
    old-then write.Nothing u = marked.old-deleted m
    old-then (write.Slot c k) u = marked.old-deleted m
    old-then (write.Link c e before) u = picked (λ (x : Tables). OldDeleted z x.marks (task s m)) (ltb before.0 z.entries) (λ _. marked.old-deleted m) (λ _. marked.old-deleted m)
    old-then (write.Fresh h) u = λ x y b. get_or-set_other s.marks h.0 (task s m).old.0 0 0 (u m).0 ∙ marked.old-deleted m x y b
    old-then (write.Store h v) u = marked.old-deleted m
    old-then (write.Delete h) u = λ x y b. one-stays s.marks h.0 (task s m).old.0 (marked.old-deleted m x y b)
    old-then (write.Name c e h) u = marked.old-deleted m

    new_then : (w : Write) → Touches z lim s kept marked n w → NewWritten z (Stages.apply z (with_own s ts ss) w).marks (Stages.apply z (with_own s ts ss) w).values (task s m)
    new_then write.Nothing u = marked.new-written m
    new_then (write.Slot c k) u = marked.new-written m
    new_then (write.Link c e before) u = picked (λ (x : Tables). NewWritten z x.marks x.values (task s m)) (ltb before.0 z.entries) (λ _. marked.new-written m) (λ _. marked.new-written m)
    new_then (write.Fresh h) u = λ b w. let o = marked.new-written m b w in (get_or-set_other s.marks h.0 (task s m).new.0 0 0 (u m).1 ∙ o.0, λ le. get_or-set_other s.values h.0 (task s m).new.0 0 0 (u m).1 ∙ o.1 le)
    new_then (write.Store h v) u = λ b w. let o = marked.new-written m b w in (o.0, λ le. get_or-set_other s.values h.0 (task s m).new.0 v 0 (apart b w u) ∙ o.1 le)
      where
        apart : (task s m).new.0 < z.handles → (task s m).swapped ≡ 0 → (h.0 ≡ (task s n).old.0) ⊎ (h.0 ≡ (task s n).new.0) → (task s m).new.0 ≢ h.0
        apart b w (inl e) q = (own.new-own m b w).not-old n (sym e ∙ sym q)
        apart b w (inr e) q = (own.new-own m b w).not_new n (λ i. ne (sym i)) (sym e ∙ sym q)
    new_then (write.Delete h) u = λ b w. let o = marked.new-written m b w in (get_or-set_other s.marks h.0 (task s m).new.0 1 0 (λ q. (own.new-own m b w).not-old n (sym u ∙ sym q)) ∙ o.0, o.1)
    new_then (write.Name c e h) u = marked.new-written m

  -- ---- the tables after one task's row was written
  one-row : (x : Tables) (n : ℕ) (t : Task) → n < z.tasks → x.tasks ≡ set s.tasks n t → OldDeleted z x.marks t → NewWritten z x.marks x.values t →
      ((m : ℕ) → m ≢ n → OldDeleted z x.marks (task s m) × NewWritten z x.marks x.values (task s m)) → Marked z x
  one-row x n t b e o w others = record { old-deleted = λ m. (both m).0; new-written = λ m. (both m).1 }
    where
      both : (m : ℕ) → OldDeleted z x.marks (task x m) × NewWritten z x.marks x.values (task x m)
      both m = rw (ap (λ (ts : List Task). get_or ts m idle_task) e) (⊎_elim (λ (v : (m ≡ n) × (get_or (set s.tasks n t) m idle_task ≡ t)). rw v.1 (o, w)) (λ (v : (m ≢ n) × (get_or (set s.tasks n t) m idle_task ≡ task s m)). rw v.1 (others m v.0)) (put-tasks z s.tasks n t (rw kept.tasks-sized b) m))

  step-marked : (n : ℕ) → Marked z (steps z s n).tables
  step-marked n = step_by z s (Marked z) marked n (λ b. one-row (Stages.apply z (Stages.put_own z s n x.task) x.write) n x.task b a.tasks (d.old (set s.tasks n x.task) _) (d.new (set s.tasks n x.task) _) (λ m ne. (old-then n (set s.tasks n x.task) _ m ne x.write d.touches, new_then n (set s.tasks n x.task) _ m ne x.write d.touches)))
    where
      x : Decision
      x = Stages.decide z s n (task s n)

      d : Marks z lim s kept marked n x
      d = decides-marks z lim s kept marked n

      a : Applied z (Stages.put_own z s n x.task) (Stages.apply z (Stages.put_own z s n x.task) x.write)
      a = step-applied z lim s kept n

  start-marked : (n op k a f : ℕ) → Marked z (starts z s n op k a f).tables
  start-marked n op k a f = start-by z s (Marked z) marked n op k a f (λ b _ _. one-row (put_task s n (started z s op k a f)) n (started z s op k a f) b refl (λ _ _ i. absurd (out i)) (λ i. absurd (out i)) (λ m _. (marked.old-deleted m, marked.new-written m)))
    where
      out : NONE < z.handles → ⊥
      out b = omega (arith, lim.handles)

  -- ---- a call that leaves the tasks and the handles' records
  left : (x : Tables) → (x.tasks ≡ s.tasks) × (x.values ≡ s.values) × (x.marks ≡ s.marks) × (x.stacks ≡ s.stacks) → Marked z x
  left x e = record { old-deleted = λ n. rw (e.0, e.2) (marked.old-deleted n); new-written = λ n. rw (e.0, e.1, e.2) (marked.new-written n) }

  pub does-marked : (c : Call) → Marked z (does z s c).tables
  unfolding does
  does-marked (start n op k a f) = start-marked n op k a f
  does-marked (step n) = step-marked n
  does-marked (begin k) = left _ (begin-tasks z s k)
  does-marked rebalance = left _ (rebalance-tasks z s)

module _ (z : Sizes) (lim : Limited z) where
  fresh-marked : Marked z (fresh z)
  fresh-marked = record { old-deleted = λ n. rw (get_or-all z.tasks n idle_task) (λ _ _ b. absurd (out b)); new-written = λ n. rw (get_or-all z.tasks n idle_task) (λ b. absurd (out b)) }
    where
      out : NONE < z.handles → ⊥
      out b = omega (arith, lim.handles)

  pub reached-marked : {s : Tables} → Reached z s → Marked z s
  reached-marked Reached.started = fresh-marked
  reached-marked (Reached.called {s = s'} r c) = call_by z s' c (Marked z) (reached-marked r) (does-marked z lim s' (reached-kept z lim r) (reached-owned z lim r) (reached-marked r) c)
