-- Every call keeps one key to each handle, and each new handle one task's own.
use Prim.Native.Nat.{ℕ, ◌+◌, ◌*◌, ◌/◌, ◌≤◌, ◌<◌}
use mathlib.Core.Path.{◌≡◌, refl, sym, ap, ◌∙◌, subst}
use mathlib.Core.Logic.{◌⊎◌, inl, inr, ⊎_elim, ◌≢◌}
use mathlib.Core.List.{List}
use native.Mathlib.Nat.{le_trans, le_refl, zero-add}
use native.Mathlib.Decide.{ℕ_discrete, dec_lt}
use native.Mathlib.Omega.{arith}
use lib.Dec.{eqb, ltb, leb}
use lib.ListN.{length, get_or, set, take, drop, length-set}
use lib.Seq.{get_or-set_same, get_or-set_other}
use borrow.Author.Tests.{ltb-true, leb-false, eqb-true}
use Rattle.rules.specs.declared.Sizes.{Sizes}
use Rattle.rules.specs.declared.Directory.{Directory}
use Rattle.rules.specs.declared.Task.{Task}
use Rattle.rules.specs.declared.Entry.{Entry}
use Rattle.rules.specs.declared.ChunkNo.{ChunkNo}
use Rattle.rules.specs.declared.EntryNo.{EntryNo}
use Rattle.rules.specs.declared.Decision.{Decision}
use Rattle.rules.specs.declared.Write.{Write}
use Rattle.rules.specs.declared.Write.TheVariants as write
use Rattle.rules.specs.Words.{NONE, entry_no, no_handle, no_entry, no_chunk, idle, to_drain, to_copy, to_swap, to_index, to_release}
use Rattle.rules.specs.Tables.{Tables, idle_task, empty_chunk, empty_entry, with_directory, with_chunks, with_entries, chunk, entry_at, entry, task, put_task, put_chunk, row}
use Rattle.rules.specs.Walks.{linked}
use Rattle.rules.specs.Stages
use Rattle.laws.specs.Counts.{Every}
use Rattle.laws.proofs.Tests.{picked}
use Rattle.views.specs.Copies.{filled, cleared}
use Rattle.views.proofs.Rows.{entry-put}
use Rattle.views.proofs.Naming.{naming-every, every_take, every_drop}
use Rattle.views.proofs.Copies.{fill_is, clears-is, filled-length, filled-other, filled-rows, cleared-other, cleared-here}
use Rattle.statements.specs.Sound.{Limited}
use Rattle.facts.specs.Facts.{Tabled, Waits, Allowed, Kept}
use Rattle.rules.specs.Rebalance.{Outcome, unused_count, published_on, held_chunk, naming_from, unused_from, makes, at, clears, begins, drains, copies, swaps_in, releases, rebalance_does, at_rest}
use Rattle.rules.specs.Calls.{Call, started, starts, steps, does}
use Rattle.rules.specs.Calls.Call.{start, step, begin, rebalance}
use Rattle.facts.proofs.SwapIn.{swap-by}
use Rattle.facts.proofs.Applying.{Applied, applied_by}
use Rattle.facts.proofs.Going.{Fine}
use Rattle.facts.proofs.Ends.{decides-fine}
use Rattle.facts.proofs.Writes.{same-chunk, inside}
use Rattle.facts.proofs.Copying
use Rattle.facts.proofs.Making.{new_row}
use Rattle.facts.proofs.Tasks.{start-by, step_by}
use Rattle.handles.specs.Owned.{Row, NamedUnder, Unnamed, NewOwn, Owned, Sourced}
use Rattle.handles.proofs.Naming.{put, sourced-same, sourced-owned, named-owned, name-none, old-not, task-owned}
use Rattle.handles.proofs.Passing.{NamesRight, Passed, decides-pass}

-- ---- tables whose names come from others
module _ (z : Sizes) (lim : Limited z) (es : List Entry) (len : length es ≡ z.chunks * z.entries) where
  out : NONE < z.handles → ⊥
  out b = omega (arith, lim.handles)

  here : (c : ChunkNo) (e : EntryNo) → Row z c e → NamedUnder z es (entry_at z es c e).handle.0 (entry_at z es c e).key
  here c e r = record { chunk = c; entry = e; row = r; names = refl; keyed = refl }

  -- a row written with a key, and none
  pub slot-sourced : (c : ChunkNo) (e : EntryNo) (k : ℕ) → Row z c e → Sourced z es (set es (row z c e) (record { key = k; handle = no_handle; next = no_entry }))
  slot-sourced c e k at d f r =
      entry-put z es c e (record { key = k; handle = no_handle; next = no_entry }) d f (λ y. y.handle.0 < z.handles → NamedUnder z es y.handle.0 y.key) len at.chunk at.entry r.entry (λ _ _ b. absurd (out b)) (λ _ _. here d f r)

  -- a row linked to another
  next-sourced : (es' : List Entry) → Sourced z es es' → length es' ≡ z.chunks * z.entries → (c : ChunkNo) (e n : EntryNo) → Row z c e → Sourced z es (set es' (row z c e) (Stages.with_next (entry_at z es c e) n))
  next-sourced es' from len' c e n at d f r =
      entry-put z es' c e (Stages.with_next (entry_at z es c e) n) d f (λ y. y.handle.0 < z.handles → NamedUnder z es y.handle.0 y.key) len' at.chunk at.entry r.entry (λ _ _ _. here c e at) (λ _. from d f r)

  -- rows filled from a list whose members are named there
  pub filled-sourced : (es' : List Entry) → Sourced z es es' → length es' ≡ z.chunks * z.entries → (c : ChunkNo) → c.0 < z.chunks → (l : List Entry) → length l ≤ z.entries →
      Every (λ x. x.handle.0 < z.handles → NamedUnder z es x.handle.0 x.key) l → Sourced z es (filled z c 0 l es')
  filled-sourced es' from len' c b l short all d f r = ⊎_elim (λ (p : d ≡ c). by_place p) (λ ne. other (λ p. absurd (ne p))) (same-chunk d c)
    where
      P : Entry → Type 0
      P y = y.handle.0 < z.handles → NamedUnder z es y.handle.0 y.key

      fits : 0 + length l ≤ z.entries
      fits = rw zero-add short

      other : (d ≡ c → (f.0 < 0) ⊎ (0 + length l ≤ f.0)) → P (entry_at z (filled z c 0 l es') d f)
      other o = rw (filled-other z c b 0 l es' d f fits len' r.entry o) (from d f r)

      by_place : d ≡ c → P (entry_at z (filled z c 0 l es') d f)
      by_place p = elim (dec_lt f.0 (length l)) [ yes lt ↦ inner lt | no ge ↦ other (λ _. inr (past ge)) ]
        where
          past : (f.0 < length l → ⊥) → 0 + length l ≤ f.0
          past ge = omega arith

          inner : f.0 < length l → P (entry_at z (filled z c 0 l es') d f)
          inner lt = rw p (filled-rows z c b P 0 l es' fits len' (λ x m n _. all x m) f (omega arith) (omega arith))

  pub cleared-sourced : (c : ChunkNo) → c.0 < z.chunks → Sourced z es (cleared z c z.entries es)
  cleared-sourced c b d f r = ⊎_elim (λ (p : d ≡ c). rw (p, cleared-here z c b z.entries es f (le_refl _) len r.entry) (λ i. absurd (out i))) (λ ne. rw (cleared-other z c b z.entries es d f (le_refl _) len r.entry (λ p. absurd (ne p))) (λ _. here d f r)) (same-chunk d c)

-- ---- a step
module _ (z : Sizes) (lim : Limited z) (s : Tables) (h : Tabled z s.directory s.chunks s.entries) (t t' : Task) (tasks tasks' : ℕ → Task) where
  -- what the write leaves, where the tasks' facts hold already
  write-owned : (w : Write) → Allowed z s.chunks s.entries w → NamesRight z t t' w →
      ((t.new.0 < z.handles) → t.swapped ≡ 0 → t'.swapped ≡ 1 → Unnamed z s.entries t.new.0 × ((n : ℕ) → (tasks' n).swapped ≡ 0 → (tasks' n).new.0 ≢ t.new.0) × ((n : ℕ) → (tasks' n).old.0 ≢ t.new.0)) →
      Owned z s.entries tasks' → Owned z (Stages.apply z s w).entries tasks'
  write-owned write.Nothing a m u own = own
  write-owned (write.Slot c k) a m u own = sourced-owned z s.entries _ tasks' (slot-sourced z lim s.entries h.entries-sized c (entry_no (chunk s c).used) k (record { chunk = a.0; entry = a.2 })) own
  write-owned (write.Link c e before) a m u own =
      picked (λ (x : Tables). Owned z x.entries tasks') (ltb before.0 z.entries)
      (λ i. sourced-owned z s.entries (set (linked (entry z s c before).next) (row z c before) (Stages.with_next (entry z s c before) e)) tasks' (next-sourced z lim s.entries h.entries-sized (linked (entry z s c before).next) (from (entry z s c before).next) (length-set s.entries (row z c e) (Stages.with_next (entry z s c e) (entry z s c before).next) ∙ h.entries-sized) c before e (record { chunk = w.numbered; entry = ltb-true _ _ i })) own)
      (λ _. sourced-owned z s.entries (linked (chunk s c).head) tasks' (from (chunk s c).head) own)
    where
      w : Waits z s.chunks s.entries c e before a.0
      w = a.1

      at : Row z c e
      at = record { chunk = w.numbered; entry = le_trans w.used (h.lists c w.numbered).row.used }

      linked : EntryNo → List Entry
      linked n = set s.entries (row z c e) (Stages.with_next (entry z s c e) n)

      from : (n : EntryNo) → Sourced z s.entries (linked n)
      from n = next-sourced z lim s.entries h.entries-sized s.entries (sourced-same z s.entries) h.entries-sized c e n at
  write-owned (write.Fresh n) a m u own = own
  write-owned (write.Store n v) a m u own = own
  write-owned (write.Delete n) a m u own = own
  write-owned (write.Name c e n) a m u own = go m.1
    where
      go : (NONE ≡ n.0) ⊎ ((n.0 ≡ t.new.0) × (t.new.0 < z.handles) × (t.swapped ≡ 0) × (t'.swapped ≡ 1)) → Owned z (set s.entries (row z c e) (Stages.with_handle (entry z s c e) n)) tasks'
      go (inl q) = sourced-owned z s.entries _ tasks' (name-none z s.entries c e n h.entries-sized m.0 q lim.handles) own
      go (inr q) = let x = u q.1 q.2 q.3 in named-owned z s.entries tasks' c e n h.entries-sized m.0 (rw q.0 x.0) (λ j b. rw q.0 (x.1 j b)) (λ j. rw q.0 (x.2 j)) own

-- the tables' facts of handles
abbrev pub OwnedBy : Sizes → Tables → Type 0
OwnedBy z s = Owned z s.entries (task s)

-- a task's row read after one was written
pub put-tasks : (z : Sizes) (ts : List Task) (n : ℕ) (t : Task) → n < length ts → put z (λ m. get_or ts m idle_task) (λ m. get_or (set ts n t) m idle_task) n t
put-tasks z ts n t b m = elim (ℕ_discrete m n) [ yes e ↦ inl (e, there e) | no ne ↦ inr (ne, get_or-set_other ts n m t idle_task ne) ]
  where
    there : m ≡ n → get_or (set ts n t) m idle_task ≡ t
    there e = rw e (get_or-set_same ts n t idle_task b)

module _ (z : Sizes) (lim : Limited z) (s : Tables) (kept : Kept z s) (own : OwnedBy z s) where
  step-done : (n : ℕ) → n < z.tasks → (x : Decision) → Fine z s x → Passed z lim s kept.tables n (kept.tasks n) x → OwnedBy z (Stages.apply z (Stages.put_own z s n x.task) x.write)
  step-done n b x fine pass = subst (λ (ts : List Task). Owned z (Stages.apply z (Stages.put_own z s n x.task) x.write).entries (λ m. get_or ts m idle_task)) (sym a.tasks) (write-owned z lim s₁ kept.tables (task s n) x.task (task s) (task s₁) x.write fine.allowed pass.names apart own₁)
    where
      s₁ : Tables
      s₁ = Stages.put_own z s n x.task

      is : put z (task s) (task s₁) n x.task
      is = put-tasks z s.tasks n x.task (rw kept.tasks-sized b)

      a : Applied z s₁ (Stages.apply z s₁ x.write)
      a = applied_by z lim s₁ kept.tables x.write fine.allowed

      own₁ : Owned z s.entries (task s₁)
      own₁ = task-owned z lim.handles s.entries (task s) (task s₁) n x.task is own pass.passes

      apart : (task s n).new.0 < z.handles → (task s n).swapped ≡ 0 → x.task.swapped ≡ 1 → Unnamed z s.entries (task s n).new.0 × ((m : ℕ) → (task s₁ m).swapped ≡ 0 → (task s₁ m).new.0 ≢ (task s n).new.0) × ((m : ℕ) → (task s₁ m).old.0 ≢ (task s n).new.0)
      apart i w sw = (o.unnamed, λ m u. other m u (is m), old-not z lim.handles s.entries (task s) (task s₁) n x.task is own pass.passes (task s n).new.0 i o.unnamed o.not-old)
        where
          o : NewOwn z s.entries (task s) n
          o = own.new-own n i w

          one : ◌≡◌ {A = ℕ} 1 0 → ⊥
          one e = omega arith

          other : (m : ℕ) → (task s₁ m).swapped ≡ 0 → ((m ≡ n) × (task s₁ m ≡ x.task)) ⊎ ((m ≢ n) × (task s₁ m ≡ task s m)) → (task s₁ m).new.0 ≢ (task s n).new.0
          other m u (inl e) q = one (sym sw ∙ sym (ap (λ (t : Task). t.swapped) e.1) ∙ u)
          other m u (inr e) q = o.not_new m e.0 (sym (ap (λ (t : Task). t.new.0) e.1) ∙ q)

  pub step-owned : (n : ℕ) → OwnedBy z (steps z s n).tables
  step-owned n = step_by z s (OwnedBy z) own n (λ b. step-done n b (Stages.decide z s n (task s n)) (decides-fine z lim s kept.tables (task s n) (kept.tasks n) n) (decides-pass z lim s kept.tables n (kept.tasks n)))

  pub start-owned : (n op k a f : ℕ) → OwnedBy z (starts z s n op k a f).tables
  start-owned n op k a f = start-by z s (OwnedBy z) own n op k a f (λ b _ _. task-owned z lim.handles s.entries (task s) (task (put_task s n (started z s op k a f))) n (started z s op k a f) (put-tasks z s.tasks n (started z s op k a f) (rw kept.tasks-sized b)) own (record { old = inl refl; new = inl refl }))

  -- ---- the rebalance
  pub begin-owned : (k : ℕ) → OwnedBy z (begins z s k).tables
  begin-owned k = picked (λ (o : Outcome). OwnedBy z o.tables) (eqb s.directory.stage idle) (λ _. picked (λ (o : Outcome). OwnedBy z o.tables) (ltb (unused_count s.chunks) 2) (λ _. own) (λ _. own)) (λ _. own)

  drain-owned : OwnedBy z (drains z s).tables
  drain-owned = picked (λ (o : Outcome). OwnedBy z o.tables) (published_on s.tasks s.directory.old) (λ _. own) (λ _. own)

  swap-owned : OwnedBy z (swaps_in z s).tables
  swap-owned = swap-by z s (OwnedBy z) own (λ x o. o) (λ x o. o) (λ x o. o) (λ x o. o) (λ x d o. o)

  -- every copied entry is one of the old chunk's
  module _ (copying : s.directory.stage ≡ to_copy) where
    abbrev old : ChunkNo
    old = s.directory.old

    abbrev l : List Entry
    l = naming_from z s.entries old z.entries (chunk s old).head

    len : length s.entries ≡ z.chunks * z.entries
    len = kept.tables.entries-sized

    l-named : Every (λ x. x.handle.0 < z.handles → NamedUnder z s.entries x.handle.0 x.key) l
    l-named =
        naming-every z s.entries old (chunk s old).used (Copying.small z lim s kept copying) lim.entries (λ x. x.handle.0 < z.handles → NamedUnder z s.entries x.handle.0 x.key) z.entries 0 (chunk s old).head (linked z s old) (Copying.links z lim s kept copying)
        (λ e m _ _. record { chunk = old; entry = e; row = record { chunk = Copying.old-in z lim s kept copying; entry = inside z lim s.directory s.chunks s.entries kept.tables old (Copying.old-in z lim s kept copying) e m }; names = refl; keyed = refl })

    abbrev a : ChunkNo
    a = unused_from s.chunks 0

    abbrev b : ChunkNo
    b = unused_from (drop (a.0 + 1) s.chunks) (a.0 + 1)

    abbrev FromHere : Tables → Type 0
    FromHere x = Sourced z s.entries x.entries × (x.tasks ≡ s.tasks)

    -- what names a handle after copy names it before
    pub copy-sourced : Sourced z s.entries (copies z s).tables.entries × ((copies z s).tables.tasks ≡ s.tasks)
    copy-sourced = picked (λ (o : Outcome). FromHere o.tables) (leb (length l) (z.entries / 2)) (λ _. one) (λ t. two (leb-false _ _ t))
      where
        Row-of : List Entry → Type 0
        Row-of = Every (λ x. x.handle.0 < z.handles → NamedUnder z s.entries x.handle.0 x.key)

        filled-one : (r : List Entry) → length r ≤ z.entries → Row-of r → Sourced z s.entries (filled z a 0 r s.entries)
        filled-one r short all = filled-sourced z lim s.entries len s.entries (sourced-same z s.entries) len a (Copying.a-free z lim s kept copying).0 r short all

        one : FromHere (makes z (with_directory s (at z s to_swap a no_chunk)) a (chunk s old).min l)
        one = rw (fill_is z a (with_directory s (at z s to_swap a no_chunk)) 0 l) (filled-one l (Copying.l-short z lim s kept copying) l-named, refl)

        two : z.entries / 2 < length l → FromHere (makes z (makes z (with_directory s (at z s to_swap a b)) a (chunk s old).min (take ((length l + 1) / 2) l)) b (get_or l ((length l + 1) / 2) empty_entry).key (drop ((length l + 1) / 2) l))
        two over =
            rw (fill_is z a (with_directory s (at z s to_swap a b)) 0 l₁, fill_is z b (with_chunks (with_entries (with_directory s (at z s to_swap a b)) es₁) (set s.chunks a.0 (new_row (chunk s old).min l₁))) 0 l₂)
            (filled-sourced z lim s.entries len es₁ (filled-one l₁ (Copying.l₁-short z lim s kept copying over) (every_take (λ x. x.handle.0 < z.handles → NamedUnder z s.entries x.handle.0 x.key) ((length l + 1) / 2) l l-named)) (filled-length z a 0 l₁ s.entries ∙ len) b (Copying.b-free z lim s kept copying).0 l₂ (Copying.l₂-short z lim s kept copying over) (every_drop (λ x. x.handle.0 < z.handles → NamedUnder z s.entries x.handle.0 x.key) ((length l + 1) / 2) l l-named), refl)
          where
            l₁ : List Entry
            l₁ = take ((length l + 1) / 2) l

            l₂ : List Entry
            l₂ = drop ((length l + 1) / 2) l

            es₁ : List Entry
            es₁ = filled z a 0 l₁ s.entries

    copy-owned : OwnedBy z (copies z s).tables
    copy-owned = subst (λ (ts : List Task). Owned z (copies z s).tables.entries (λ m. get_or ts m idle_task)) (sym copy-sourced.1) (sourced-owned z s.entries (copies z s).tables.entries (task s) copy-sourced.0 own)

  release-owned : s.directory.stage ≡ to_release → OwnedBy z (releases z s).tables
  release-owned e = picked (λ (o : Outcome). OwnedBy z o.tables) (held_chunk s.tasks s.directory.old) (λ _. own) (λ _. cleared-owned)
    where
      to : Directory
      to = at_rest s.directory

      cleared-owned : OwnedBy z (put_chunk (clears z s z.entries (with_directory s to) s.directory.old) s.directory.old empty_chunk)
      cleared-owned = rw (clears-is z s.directory.old s z.entries (with_directory s to)) (sourced-owned z s.entries (cleared z s.directory.old z.entries s.entries) (task s) (cleared-sourced z lim s.entries kept.tables.entries-sized s.directory.old (kept.tables.rebalancing.old (omega arith))) own)

  pub does-owned : (c : Call) → OwnedBy z (does z s c).tables
  unfolding does rebalance_does
  does-owned (start n op k a f) = start-owned n op k a f
  does-owned (step n) = step-owned n
  does-owned (begin k) = begin-owned k
  does-owned rebalance =
      picked Q (eqb s.directory.stage to_drain) (λ _. drain-owned)
      (λ _. picked Q (eqb s.directory.stage to_copy) (λ e. copy-owned (eqb-true _ _ e))
      (λ _. picked Q (eqb s.directory.stage to_swap) (λ _. swap-owned)
      (λ _. picked Q (eqb s.directory.stage to_index) (λ _. own)
      (λ _. picked Q (eqb s.directory.stage to_release) (λ e. release-owned (eqb-true _ _ e)) (λ _. own)))))
    where
      Q : (Sizes → Tables → Outcome) → Type 0
      Q f = OwnedBy z (f z s).tables
