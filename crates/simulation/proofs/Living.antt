-- Every call keeps undeleted-live and old-live.
use Prim.Native.Nat.{ℕ, ◌*◌, ◌<◌}
use mathlib.Core.Path.{◌≡◌, sym, ap, ◌∙◌}
use mathlib.Core.Logic.{◌⊎◌, inl, inr, ⊎_elim, ◌≢◌}
use mathlib.Core.Bool.{true}
use mathlib.Core.List.{List}
use native.Mathlib.Omega.{arith}
use lib.ListN.{get_or, set}
use Rattle.rules.specs.declared.Sizes.{Sizes}
use Rattle.rules.specs.declared.Task.{Task}
use Rattle.rules.specs.declared.Entry.{Entry}
use Rattle.rules.specs.declared.ChunkNo.{ChunkNo}
use Rattle.rules.specs.declared.EntryNo.{EntryNo}
use Rattle.rules.specs.declared.HandleNo.{HandleNo}
use Rattle.rules.specs.declared.Decision.{Decision}
use Rattle.rules.specs.Words.{NONE}
use Rattle.rules.specs.Tables.{Tables, idle_task, empty_entry, chunk_at, chunk, entry_at, row, task}
use Rattle.rules.specs.Walks.{lowest_free}
use Rattle.rules.specs.Stages
use Rattle.rules.specs.Rebalance.{begins}
use Rattle.rules.specs.Calls.{Call, fresh, started, starts, steps, does}
use Rattle.rules.specs.Calls.Call.{start, step, begin, rebalance}
use Rattle.statements.specs.Sound.{Limited}
use Rattle.facts.specs.Facts.{Allowed, Kept}
use Rattle.facts.specs.Reached.{Reached}
use Rattle.statements.specs.Runs.{decides}
use Rattle.facts.proofs.Applying.{Applied, applied_by}
use Rattle.facts.proofs.Ends.{decides-fine}
use Rattle.facts.proofs.Fresh.{get_or-all}
use Rattle.facts.proofs.Reaching.{call_by, reached-kept}
use Rattle.facts.proofs.Tasks.{start-by, step_by}
use Rattle.handles.specs.Owned.{NamedUnder, Sourced}
use Rattle.handles.proofs.Naming.{sourced-back}
use Rattle.handles.proofs.Free.{free-unnamed, free-unheld}
use Rattle.handles.proofs.Passing.{decides-pass}
use Rattle.handles.proofs.Owning.{OwnedBy, put-tasks}
use Rattle.handles.proofs.Handing.{SameTasks, rebalance-tasks, begin-tasks}
use Rattle.handles.proofs.Keys.{reached-owned}
use Rattle.holds.specs.Held.{Held}
use Rattle.holds.specs.Marked.{Marked}
use Rattle.holds.specs.Unlinked.{UnlinkedNone}
use Rattle.holds.proofs.Holding.{reached-held}
use Rattle.holds.proofs.Marks.{reached-marked}
use Rattle.holds.proofs.Unlinked.{reached-unlinked}
use Rattle.simulation.specs.Named.{NamedIn, LiveNamed, CopiedThen, Lively}
use Rattle.simulation.proofs.Acts.{Swaps, Acts, decides-act}
use Rattle.simulation.proofs.Rows.{RowKept, NewAt, row-then, row_back, mark-back}
use Rattle.simulation.proofs.Copied.{named-like, SameLive}
use Rattle.simulation.proofs.Keeping.{reached-copied}
use Rattle.simulation.proofs.Moving.{begin-moves, rebalance-moves}

pub under : (z : Sizes) (es : List Entry) (c : ChunkNo) {h k : ℕ} → c.0 < z.chunks → NamedIn z es c h k → NamedUnder z es h k
under z es c b v = record { chunk = c; entry = v.entry; row = record { chunk = b; entry = v.inside }; names = v.names; keyed = v.keyed }

-- a deciding swap of the task has named its new handle, in its chunk and under its key
pub record NewName (z : Sizes) (s : Tables) (t : Task) (c : ChunkNo) (h k : ℕ) : Type 0 where
  pub swaps : Swaps z s t
  pub chunk : c ≡ t.chunk
  pub handle : h ≡ t.new.0
  pub key : k ≡ t.key
  pub decided : decides z s t ≡ true

-- ---- a step
module _ (z : Sizes) (lim : Limited z) (s : Tables) (kept : Kept z s) (n : ℕ) where
  abbrev t : Task
  t = task s n

  abbrev x : Decision
  x = Stages.decide z s n (task s n)

  abbrev pub s' : Tables
  s' = Stages.apply z (Stages.put_own z s n x.task) x.write

  pub allowed : Allowed z s.chunks s.entries x.write
  allowed = (decides-fine z lim s kept.tables (task s n) (kept.tasks n) n).allowed

  pub acts : Acts z s t x.write
  acts = decides-act z s (task s n) (kept.tasks n) n

  pub applied : Applied z (Stages.put_own z s n x.task) s'
  applied = applied_by z lim (Stages.put_own z s n x.task) kept.tables x.write allowed

  pub same-status : (c : ChunkNo) → (chunk_at s'.chunks c).status ≡ (chunk s c).status
  same-status = applied.written.same.status

  -- an undeleted handle that a live chunk names stays so
  pub live_on : Marked z s → (h k : ℕ) → h < z.handles → get_or s.marks h 0 ≡ 0 → LiveNamed z s.chunks s.entries h k → LiveNamed z s'.chunks s'.entries h k
  live_on marked h k i m v =
      record {
        chunk = v.chunk;
        numbered = v.numbered;
        is_live = same-status v.chunk ∙ v.is_live;
        named = named-like z s.entries s'.entries v.chunk (λ e b q. let r = kept_row e b q in (r.0, r.1 (rw q i))) v.named;
      }
    where
      kept_row : (e : EntryNo) → e.0 < z.entries → (entry_at z s.entries v.chunk e).handle.0 ≡ h → RowKept z (entry_at z s.entries v.chunk e) (entry_at z s'.entries v.chunk e)
      kept_row e b q = row-then z lim s kept (set s.tasks n x.task) _ n marked acts allowed v.chunk e (record { chunk = v.numbered; entry = b }) (rw q i) (rw q m)

  -- what a chunk names it named before, or a deciding swap has named it
  pub named_back : (c : ChunkNo) → c.0 < z.chunks → (h k : ℕ) → h < z.handles → NamedIn z s'.entries c h k → NamedIn z s.entries c h k ⊎ NewName z s t c h k
  named_back c b h k i v = go (row_back z lim s kept (set s.tasks n x.task) _ n acts allowed c v.entry (record { chunk = b; entry = v.inside }) (rw v.names i))
    where
      go : RowKept z (entry_at z s.entries c v.entry) (entry_at z s'.entries c v.entry) ⊎ NewAt z s t c v.entry (entry_at z s'.entries c v.entry) → NamedIn z s.entries c h k ⊎ NewName z s t c h k
      go (inl r) = inl (record { entry = v.entry; inside = v.inside; names = was; keyed = sym (r.1 (rw was i)) ∙ v.keyed })
        where
          was : (entry_at z s.entries c v.entry).handle.0 ≡ h
          was = ap (λ (h : HandleNo). h.0) (sym r.0) ∙ v.names
      go (inr r) = inr (record { swaps = r.swaps; chunk = r.chunk; handle = sym v.names ∙ r.handle; key = sym v.keyed ∙ r.key ∙ ((kept.tasks n).entry r.swaps.row.entry).keyed; decided = r.decided })

  -- a handle that is named or held is not the one taken
  pub named-not-free : (h k : ℕ) → NamedUnder z s.entries h k → (lowest_free z s).0 < z.handles → h ≢ (lowest_free z s).0
  named-not-free h k v b p = free-unnamed z lim.handles s kept.tables.entries-sized b v.chunk v.entry v.row (v.names ∙ p)

  pub mark_was : (h : ℕ) → ((lowest_free z s).0 < z.handles → h ≢ (lowest_free z s).0) → get_or s'.marks h 0 ≡ 0 → get_or s.marks h 0 ≡ 0
  mark_was = mark-back z lim s kept (set s.tasks n x.task) _ n acts

  module _ (held : Held z s) (marked : Marked z s) (lively : Lively z s) where
    undeleted-then : (h k : ℕ) → h < z.handles → get_or s'.marks h 0 ≡ 0 → NamedUnder z s'.entries h k → LiveNamed z s'.chunks s'.entries h k
    undeleted-then h k i m v = go (named_back v.chunk v.row.chunk h k i here)
      where
        here : NamedIn z s'.entries v.chunk h k
        here = record { entry = v.entry; inside = v.row.entry; names = v.names; keyed = v.keyed }

        go : NamedIn z s.entries v.chunk h k ⊎ NewName z s t v.chunk h k → LiveNamed z s'.chunks s'.entries h k
        go (inl w) = let u = under z s.entries v.chunk v.row.chunk w in let was = mark_was h (named-not-free h k u) m in live_on marked h k i was (lively.undeleted-live h k i was u)
        go (inr w) = record { chunk = v.chunk; numbered = v.row.chunk; is_live = same-status v.chunk ∙ ap (λ (c : ChunkNo). (chunk s c).status) w.chunk ∙ (held.publisher-live n w.swaps.published).is_live; named = here }

    abbrev OldLive : Task → Type 0
    OldLive y = y.old.0 < z.handles → get_or s'.marks y.old.0 0 ≡ 0 → LiveNamed z s'.chunks s'.entries y.old.0 y.key

    old-on : (m : ℕ) → OldLive (task s m)
    old-on m i q = let was = mark_was (task s m).old.0 (λ b. (free-unheld z lim.handles s kept.tables.entries-sized b m).0) q in live_on marked (task s m).old.0 (task s m).key i was (lively.old-live m i was)

    old-here : (t' : Task) → (t'.old.0 ≡ NONE) ⊎ (((t'.old.0 ≡ t.old.0) ⊎ NamedUnder z s.entries t'.old.0 t.key) × (t'.key ≡ t.key)) → OldLive t'
    old-here t' (inl e) = λ i q. absurd (none e i)
      where
        none : t'.old.0 ≡ NONE → t'.old.0 < z.handles → ⊥
        none e i = omega (arith, lim.handles)
    old-here t' (inr e) = rw e.1 (⊎_elim (λ (p : t'.old.0 ≡ t.old.0). rw p (old-on n)) (λ v i q. found v i q) e.0)
      where
        found : NamedUnder z s.entries t'.old.0 t.key → t'.old.0 < z.handles → get_or s'.marks t'.old.0 0 ≡ 0 → LiveNamed z s'.chunks s'.entries t'.old.0 t.key
        found v i q = let was = mark_was t'.old.0 (named-not-free t'.old.0 t.key v) q in live_on marked t'.old.0 t.key i was (lively.undeleted-live t'.old.0 t.key i was v)

    step-done : n < z.tasks → Lively z s'
    step-done b = record { undeleted-live = undeleted-then; old-live = λ m. rw (ap (λ (ts : List Task). get_or ts m idle_task) applied.tasks) (go m (put-tasks z s.tasks n x.task (rw kept.tasks-sized b) m)) }
      where
        go : (m : ℕ) → ((m ≡ n) × (get_or (set s.tasks n x.task) m idle_task ≡ x.task)) ⊎ ((m ≢ n) × (get_or (set s.tasks n x.task) m idle_task ≡ task s m)) → OldLive (get_or (set s.tasks n x.task) m idle_task)
        go m (inl e) = rw e.1 (old-here x.task (decides-pass z lim s kept.tables n (kept.tasks n)).passes.old)
        go m (inr e) = rw e.1 (old-on m)

    step-lively : Lively z (steps z s n).tables
    step-lively = step_by z s (Lively z) lively n (λ b. step-done b)

-- ---- the other calls
module _ (z : Sizes) (lim : Limited z) (s : Tables) (kept : Kept z s) (lively : Lively z s) where
  start-lively : (n op k a f : ℕ) → Lively z (starts z s n op k a f).tables
  start-lively n op k a f = start-by z s (Lively z) lively n op k a f (λ b _ _. record { undeleted-live = lively.undeleted-live; old-live = λ m. go m (put-tasks z s.tasks n (started z s op k a f) (rw kept.tasks-sized b) m) })
    where
      OldLive : Task → Type 0
      OldLive y = y.old.0 < z.handles → get_or s.marks y.old.0 0 ≡ 0 → LiveNamed z s.chunks s.entries y.old.0 y.key

      none : NONE < z.handles → ⊥
      none i = omega (arith, lim.handles)

      go : (m : ℕ) → ((m ≡ n) × (get_or (set s.tasks n (started z s op k a f)) m idle_task ≡ started z s op k a f)) ⊎ ((m ≢ n) × (get_or (set s.tasks n (started z s op k a f)) m idle_task ≡ task s m)) → OldLive (get_or (set s.tasks n (started z s op k a f)) m idle_task)
      go m (inl e) = rw e.1 (λ i. absurd (none i))
      go m (inr e) = rw e.1 (lively.old-live m)

  -- tables with the same tasks and handles' records, whose live chunks name the same
  moved-lively : (x : Tables) → SameTasks z s x → SameLive z s x → Sourced z s.entries x.entries → Lively z x
  moved-lively x same moves from =
      record {
        undeleted-live = λ h k i m v. moves.to h k i (lively.undeleted-live h k i (rw same.2 at m) (sourced-back z s.entries x.entries from h k i v));
        old-live = λ n. rw (ap (λ (ts : List Task). get_or ts n idle_task) same.0, same.2) (λ i m. moves.to _ _ i (lively.old-live n i m));
      }

  pub does-lively : OwnedBy z s → Held z s → Marked z s → UnlinkedNone z s.chunks s.entries → CopiedThen z s.directory s.entries → (c : Call) → Lively z (does z s c).tables
  unfolding does
  does-lively own held marked un copied (start n op k a f) = start-lively n op k a f
  does-lively own held marked un copied (step n) = step-lively z lim s kept n held marked lively
  does-lively own held marked un copied (begin k) = let m = begin-moves z lim s kept own held un copied k in moved-lively (begins z s k).tables (begin-tasks z s k) m.0 m.1
  does-lively own held marked un copied rebalance = let m = rebalance-moves z lim s kept own held un copied in moved-lively (does z s rebalance).tables (rebalance-tasks z s) m.0 m.1

module _ (z : Sizes) (lim : Limited z) where
  none : (h : ℕ) → h < z.handles → h ≡ NONE → ⊥
  none h i e = omega (arith, lim.handles)

  fresh-lively : Lively z (fresh z)
  fresh-lively =
      record {
        undeleted-live = λ h k i m v. absurd (none h i (sym v.names ∙ ap (λ (y : Entry). y.handle.0) (get_or-all (z.chunks * z.entries) (row z v.chunk v.entry) empty_entry)));
        old-live = λ n i. absurd (none _ i (ap (λ (t : Task). t.old.0) (get_or-all z.tasks n idle_task)));
      }

  pub reached-lively : {s : Tables} → Reached z s → Lively z s
  reached-lively Reached.started = fresh-lively
  reached-lively (Reached.called {s = s₀} r c) = call_by z s₀ c (Lively z) (reached-lively r) (does-lively z lim s₀ (reached-kept z lim r) (reached-lively r) (reached-owned z lim r) (reached-held z lim r) (reached-marked z lim r) (reached-unlinked z lim r) (reached-copied z lim r) c)
