-- What each call does to the tasks' holds, and that no held handle is handed out.
use Prim.Native.Nat.{ℕ, ◌≤◌, ◌<◌}
use mathlib.Core.Path.{◌≡◌, refl, sym, ap, ◌∙◌}
use mathlib.Core.Logic.{◌⊎◌, inl, inr, ⊎_elim, ◌≢◌}
use mathlib.Core.List.{List}
use native.Mathlib.Decide.{ℕ_discrete, dec_lt}
use native.Mathlib.Omega.{arith}
use lib.Dec.{eqb, ltb, leb}
use lib.ListN.{length, get_or, set}
use lib.Seq.{get_or-set_same, get_or-set_other, set_out}
use Rattle.rules.specs.declared.Sizes.{Sizes}
use Rattle.rules.specs.declared.Directory.{Directory}
use Rattle.rules.specs.declared.Task.{Task}
use Rattle.rules.specs.declared.Entry.{Entry}
use Rattle.rules.specs.declared.ChunkNo.{ChunkNo}
use Rattle.rules.specs.declared.EntryNo.{EntryNo}
use Rattle.rules.specs.declared.HandleNo.{HandleNo}
use Rattle.rules.specs.declared.Write.{Write}
use Rattle.rules.specs.declared.Write.TheVariants as write
use Rattle.rules.specs.declared.Decision.{Decision}
use Rattle.rules.specs.Words.{NONE, entry_no, no_entry, no_handle, idle, to_drain, to_copy, to_swap, to_index, to_release}
use Rattle.rules.specs.Tables.{Tables, idle_task, empty_entry, row, chunk, entry, task, put_task, with_directory}
use Rattle.rules.specs.Stages
use Rattle.rules.specs.Rebalance.{Outcome, unused_count, published_on, held_chunk, begins, copies, swaps_in, releases, rebalance_does, at_rest}
use Rattle.rules.specs.Calls.{Call, started, starts, steps, does, calls}
use Rattle.rules.specs.Calls.Call.{start, step, begin, rebalance}
use Rattle.laws.proofs.Tests.{picked}
use Rattle.views.proofs.Copies.{clears-is}
use Rattle.statements.specs.Runs.{tables_at}
use Rattle.statements.specs.Sound.{Limited, HoldsHandle, HandsOut}
use Rattle.facts.specs.Facts.{Kept}
use Rattle.facts.proofs.SwapIn.{swap-by}
use Rattle.facts.proofs.Copying.{copy-by}
use Rattle.facts.proofs.Tasks.{start-by, step_by, step-applied}
use Rattle.facts.proofs.Reaching.{call_by, reached-kept, run-reached}
use Rattle.handles.proofs.Naming.{Passes}
use Rattle.handles.proofs.Passing.{NamesRight, decides-pass}
use Rattle.handles.proofs.Owning.{put-tasks}

module _ (z : Sizes) (s : Tables) where
  -- ---- the rebalance leaves the tasks and the handles' records
  abbrev pub SameTasks : Tables → Type 0
  SameTasks x = (x.tasks ≡ s.tasks) × (x.values ≡ s.values) × (x.marks ≡ s.marks) × (x.stacks ≡ s.stacks)

  copy-tasks : SameTasks (copies z s).tables
  copy-tasks = copy-by z s SameTasks (λ c cs es _. (refl, refl, refl, refl))

  pub swap-tasks : SameTasks (swaps_in z s).tables
  swap-tasks = swap-by z s SameTasks (refl, refl, refl, refl) (λ x e. e) (λ x e. e) (λ x e. e) (λ x e. e) (λ x d e. e)

  release-tasks : SameTasks (releases z s).tables
  release-tasks = picked (λ (o : Outcome). SameTasks o.tables) (held_chunk s.tasks s.directory.old) (λ _. (refl, refl, refl, refl)) (λ _. rw (clears-is z s.directory.old s z.entries (with_directory s to)) (refl, refl, refl, refl))
    where
      to : Directory
      to = at_rest s.directory

  pub rebalance-tasks : SameTasks (does z s rebalance).tables
  unfolding does rebalance_does
  rebalance-tasks =
      picked Q (eqb s.directory.stage to_drain) (λ _. picked (λ (o : Outcome). SameTasks o.tables) (published_on s.tasks s.directory.old) (λ _. (refl, refl, refl, refl)) (λ _. (refl, refl, refl, refl)))
      (λ _. picked Q (eqb s.directory.stage to_copy) (λ _. copy-tasks)
      (λ _. picked Q (eqb s.directory.stage to_swap) (λ _. swap-tasks)
      (λ _. picked Q (eqb s.directory.stage to_index) (λ _. (refl, refl, refl, refl))
      (λ _. picked Q (eqb s.directory.stage to_release) (λ _. release-tasks) (λ _. (refl, refl, refl, refl))))))
    where
      Q : (Sizes → Tables → Outcome) → Type 0
      Q f = SameTasks (f z s).tables

  pub begin-tasks : (k : ℕ) → SameTasks (begins z s k).tables
  begin-tasks k = picked (λ (o : Outcome). SameTasks o.tables) (eqb s.directory.stage idle) (λ _. picked (λ (o : Outcome). SameTasks o.tables) (ltb (unused_count s.chunks) 2) (λ _. (refl, refl, refl, refl)) (λ _. (refl, refl, refl, refl))) (λ _. (refl, refl, refl, refl))

-- ---- every call
module _ (z : Sizes) (lim : Limited z) (s : Tables) (kept : Kept z s) where
  -- a task's row is as it was, or holds what it may
  abbrev Turns : Tables → Type 0
  Turns x = (m : ℕ) → (task x m ≡ task s m) ⊎ Passes z s.entries (task s) (task s m) (task x m)

  same-turns : (x : Tables) → x.tasks ≡ s.tasks → Turns x
  same-turns x e m = inl (ap (λ (ts : List Task). get_or ts m idle_task) e)

  put-turns : (x : Tables) (n : ℕ) (t : Task) → n < z.tasks → x.tasks ≡ set s.tasks n t → Passes z s.entries (task s) (task s n) t → Turns x
  put-turns x n t b e p m = go (put-tasks z s.tasks n t (rw kept.tasks-sized b) m)
    where
      row : task x m ≡ get_or (set s.tasks n t) m idle_task
      row = ap (λ (ts : List Task). get_or ts m idle_task) e

      go : ((m ≡ n) × (get_or (set s.tasks n t) m idle_task ≡ t)) ⊎ ((m ≢ n) × (get_or (set s.tasks n t) m idle_task ≡ task s m)) → (task x m ≡ task s m) ⊎ Passes z s.entries (task s) (task s m) (task x m)
      go (inl q) = inr (rw (row, q.1, q.0) p)
      go (inr q) = inl (row ∙ q.1)

  step-turns : (n : ℕ) → Turns (steps z s n).tables
  step-turns n = step_by z s Turns (same-turns s refl) n (λ b. put-turns (Stages.apply z (Stages.put_own z s n x.task) x.write) n x.task b (step-applied z lim s kept n).tasks (decides-pass z lim s kept.tables n (kept.tasks n)).passes)
    where
      x : Decision
      x = Stages.decide z s n (task s n)

  start-turns : (n op k a f : ℕ) → Turns (starts z s n op k a f).tables
  start-turns n op k a f = start-by z s Turns (same-turns s refl) n op k a f (λ b _ _. put-turns (put_task s n (started z s op k a f)) n (started z s op k a f) b refl (record { old = inl refl; new = inl refl }))

  pub does-turns : (c : Call) → Turns (does z s c).tables
  unfolding does
  does-turns (start n op k a f) = start-turns n op k a f
  does-turns (step n) = step-turns n
  does-turns (begin k) = same-turns (begins z s k).tables (begin-tasks z s k).0
  does-turns rebalance = same-turns (does z s rebalance).tables (rebalance-tasks z s).0

  -- no task takes a handle that some task holds
  none-takes : (c : Call) (n h : ℕ) → h < z.handles → ((task s n).old.0 ≡ h) ⊎ ((task s n).new.0 ≡ h) → (m : ℕ) → (task s m).new.0 ≢ h → (task (calls z s c).tables m).new.0 ≢ h
  none-takes c n h b holds m was = call_by z s c (λ x. (task x m).new.0 ≢ h) was (λ then. go then (does-turns c m))
    where
      none : h ≡ NONE → ⊥
      none e = omega (arith, lim.handles)

      go : (task (does z s c).tables m).new.0 ≡ h → (task (does z s c).tables m ≡ task s m) ⊎ Passes z s.entries (task s) (task s m) (task (does z s c).tables m) → ⊥
      go then (inl e) = was (sym (ap (λ (t : Task). t.new.0) e) ∙ then)
      go then (inr p) = ⊎_elim (λ e. none (sym then ∙ e)) (λ q. ⊎_elim (λ e. was (sym e.0 ∙ then)) (λ e. ⊎_elim (λ o. (e.1 n).0 (o ∙ sym then)) (λ o. (e.1 n).1 (o ∙ sym then)) holds) q) p.new

-- ---- which handle a row names after a step's write
-- a row of a list after another, or itself, was written
put-either : (l : List Entry) (i r : ℕ) (x : Entry) → (get_or (set l i x) r empty_entry ≡ x) ⊎ (get_or (set l i x) r empty_entry ≡ get_or l r empty_entry)
put-either l i r x = elim (ℕ_discrete r i) [ yes e ↦ elim (dec_lt i (length l)) [ yes b ↦ inl (rw e (get_or-set_same l i x empty_entry b)) | no out ↦ inr (rw (set_out l i x (omega arith))) ] | no ne ↦ inr (get_or-set_other l i r x empty_entry ne) ]

-- a row written with the handle that it names
same-named : (l : List Entry) (i r : ℕ) (x : Entry) → x.handle ≡ (get_or l i empty_entry).handle → (get_or (set l i x) r empty_entry).handle ≡ (get_or l r empty_entry).handle
same-named l i r x e = elim (ℕ_discrete r i) [ yes q ↦ elim (dec_lt i (length l)) [ yes b ↦ rw (q, get_or-set_same l i x empty_entry b) e | no out ↦ rw (set_out l i x (omega arith)) ] | no ne ↦ ap (λ (y : Entry). y.handle) (get_or-set_other l i r x empty_entry ne) ]

module _ (z : Sizes) (t t' : Task) (s : Tables) (r : ℕ) where
  abbrev named : Tables → HandleNo
  named x = (get_or x.entries r empty_entry).handle

  -- the same as before, none, or the task's new one
  abbrev Names : Tables → Type 0
  Names x = (named x ≡ named s) ⊎ (((named x).0 ≡ NONE) ⊎ ((named x).0 ≡ t.new.0))

  write-names : (w : Write) → NamesRight z t t' w → Names (Stages.apply z s w)
  write-names write.Nothing m = inl refl
  write-names (write.Slot c k) m = ⊎_elim (λ e. inr (inl (ap (λ (y : Entry). y.handle.0) e))) (λ e. inl (ap (λ (y : Entry). y.handle) e)) (put-either s.entries (row z c (entry_no (chunk s c).used)) r (record { key = k; handle = no_handle; next = no_entry }))
  write-names (write.Link c e before) m =
      picked Names (ltb before.0 z.entries)
      (λ _. inl (same-named (linked (entry z s c before).next) (row z c before) r (Stages.with_next (entry z s c before) e) (sym (keeps (entry z s c before).next (row z c before))) ∙ keeps (entry z s c before).next r))
      (λ _. inl (keeps (chunk s c).head r))
    where
      linked : EntryNo → List Entry
      linked n = set s.entries (row z c e) (Stages.with_next (entry z s c e) n)

      keeps : (n : EntryNo) (j : ℕ) → (get_or (linked n) j empty_entry).handle ≡ (get_or s.entries j empty_entry).handle
      keeps n j = same-named s.entries (row z c e) j (Stages.with_next (entry z s c e) n) refl
  write-names (write.Fresh h) m = inl refl
  write-names (write.Store h v) m = inl refl
  write-names (write.Delete h) m = inl refl
  write-names (write.Name c e h) m = ⊎_elim (λ q. inr (there q m.1)) (λ q. inl (ap (λ (y : Entry). y.handle) q)) (put-either s.entries (row z c e) r (Stages.with_handle (entry z s c e) h))
    where
      put : Tables
      put = Stages.apply z s (write.Name c e h)

      there : get_or (set s.entries (row z c e) (Stages.with_handle (entry z s c e) h)) r empty_entry ≡ Stages.with_handle (entry z s c e) h → (NONE ≡ h.0) ⊎ ((h.0 ≡ t.new.0) × (t.new.0 < z.handles) × (t.swapped ≡ 0) × (t'.swapped ≡ 1)) → ((named put).0 ≡ NONE) ⊎ ((named put).0 ≡ t.new.0)
      there q (inl o) = inl (ap (λ (y : Entry). y.handle.0) q ∙ sym o)
      there q (inr o) = inr (ap (λ (y : Entry). y.handle.0) q ∙ o.0)

module _ (z : Sizes) (lim : Limited z) (s : Tables) (kept : Kept z s) where
  -- a step names no handle that its task did not hold
  none-names : (n h : ℕ) → h < z.handles → (((task s n).old.0 ≡ h) ⊎ ((task s n).new.0 ≡ h) → ⊥) → (c : ChunkNo) (e : EntryNo) → (entry z s c e).handle.0 ≢ h → (entry z (calls z s (step n)).tables c e).handle.0 ≢ h
  unfolding does
  none-names n h b lacks c e was =
      call_by z s (step n) (λ x. (entry z x c e).handle.0 ≢ h) was
      (picked Q (leb z.tasks n) (λ _. was) (λ _. picked Q (eqb (task s n).stage 0) (λ _. was)
      (λ _ then. ⊎_elim (λ q. was (sym (ap (λ (h : HandleNo). h.0) q) ∙ then)) (⊎_elim (λ q. none (sym then ∙ q)) (λ q. lacks (inr (sym q ∙ then)))) (write-names z (task s n) x.task (Stages.put_own z s n x.task) (row z c e) x.write (decides-pass z lim s kept.tables n (kept.tasks n)).names))))
    where
      x : Decision
      x = Stages.decide z s n (task s n)

      none : h ≡ NONE → ⊥
      none q = omega (arith, lim.handles)

      Q : Outcome → Type 0
      Q o = (entry z o.tables c e).handle.0 ≢ h

module _ (z : Sizes) (lim : Limited z) (run : ℕ → Call) where
  pub never-handed-out : (i n h : ℕ) → h < z.handles → HoldsHandle z run n h i → HandsOut z run h i → ⊥
  unfolding tables_at
  never-handed-out i n h b holds (HandsOut.takes m was then) = none-takes z lim (tables_at z run i) (reached-kept z lim (run-reached z run i)) (run i) n h b holds m was then
  never-handed-out i n h b holds (HandsOut.names m own lacks c e was then) = none-names z lim (tables_at z run i) (reached-kept z lim (run-reached z run i)) m h b lacks c e was (ap (λ (x : Call). (entry z (calls z (tables_at z run i) x).tables c e).handle.0) (sym own) ∙ then)

  -- so from the moment at which a task came to hold it, through all calls over which it holds it
  pub never-since : (j i n h : ℕ) → h < z.handles → ((x : ℕ) → j ≤ x → x ≤ i → HoldsHandle z run n h x) → (x : ℕ) → j ≤ x → x ≤ i → HandsOut z run h x → ⊥
  never-since j i n h b holds x from to = never-handed-out x n h b (holds x from to)
