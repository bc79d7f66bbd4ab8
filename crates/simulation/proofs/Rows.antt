-- What a step leaves of the rows' names and of the handles' records, by what it does.
use Prim.Native.Nat.{ℕ, ◌*◌, ◌<◌}
use mathlib.Core.Path.{◌≡◌, refl, sym, ap, ◌∙◌}
use mathlib.Core.Logic.{◌⊎◌, inl, inr, ⊎_elim, ⊎_map, ◌≢◌}
use mathlib.Core.Bool.{true, false≢true}
use mathlib.Core.List.{List}
use native.Mathlib.Nat.{le_trans}
use native.Mathlib.Decide.{ℕ_discrete}
use native.Mathlib.Omega.{arith}
use lib.Dec.{ltb}
use lib.ListN.{length, get_or, set, length-set}
use lib.Seq.{get_or-set_other}
use borrow.Author.Tests.{ltb-true}
use Rattle.rules.specs.declared.Sizes.{Sizes}
use Rattle.rules.specs.declared.Task.{Task}
use Rattle.rules.specs.declared.Entry.{Entry}
use Rattle.rules.specs.declared.ChunkNo.{ChunkNo}
use Rattle.rules.specs.declared.EntryNo.{EntryNo}
use Rattle.rules.specs.declared.HandleNo.{HandleNo}
use Rattle.rules.specs.declared.Write.{Write}
use Rattle.rules.specs.declared.Write.TheVariants as write
use Rattle.rules.specs.Words.{NONE, entry_no, no_handle, no_entry}
use Rattle.rules.specs.Tables.{Tables, empty_entry, chunk, entry_at, entry, row, task, with_own}
use Rattle.rules.specs.Walks.{lowest_free}
use Rattle.rules.specs.Stages
use Rattle.laws.proofs.Tests.{picked}
use Rattle.views.proofs.Rows.{entry-put}
use Rattle.statements.specs.Sound.{Limited}
use Rattle.facts.specs.Facts.{Waits, Allowed, Kept}
use Rattle.statements.specs.Runs.{decides}
use Rattle.handles.specs.Owned.{Row, NamedUnder}
use Rattle.handles.proofs.Free.{free-unnamed, free-unheld}
use Rattle.handles.proofs.Owning.{OwnedBy}
use Rattle.holds.specs.Marked.{Marked}
use Rattle.simulation.proofs.Acts.{stills, Swaps, Acts}

-- the second row names what the first names, under the same key
abbrev pub RowKept : Sizes → Entry → Entry → Type 0
RowKept z x y = (y.handle ≡ x.handle) × (x.handle.0 < z.handles → y.key ≡ x.key)

-- the row that a swap of the task has written, to none or to the new handle
pub record Renamed (z : Sizes) (s : Tables) (t : Task) (c : ChunkNo) (e : EntryNo) (y : Entry) : Type 0 where
  pub swaps : Swaps z s t
  pub chunk : c ≡ t.chunk
  pub entry : e ≡ t.entry
  pub key : y.key ≡ (entry_at z s.entries t.chunk t.entry).key
  pub to : (y.handle.0 ≡ NONE) ⊎ ((y.handle.0 ≡ t.new.0) × (t.new.0 < z.handles) × (t.swapped ≡ 0) × (decides z s t ≡ true))

-- the row that a deciding swap has written
pub record NewAt (z : Sizes) (s : Tables) (t : Task) (c : ChunkNo) (e : EntryNo) (y : Entry) : Type 0 where
  pub swaps : Swaps z s t
  pub chunk : c ≡ t.chunk
  pub entry : e ≡ t.entry
  pub handle : y.handle.0 ≡ t.new.0
  pub key : y.key ≡ (entry_at z s.entries t.chunk t.entry).key
  pub decided : decides z s t ≡ true

module _ (z : Sizes) (lim : Limited z) (s : Tables) (kept : Kept z s) (ts : List Task) (ss : List (List EntryNo)) where
  -- the tables after the write
  abbrev pub after : Write → Tables
  after w = Stages.apply z (with_own s ts ss) w

  len : length s.entries ≡ z.chunks * z.entries
  len = kept.tables.entries-sized

  out : NONE < z.handles → ⊥
  out b = omega (arith, lim.handles)

  -- ---- writes that change no name
  module _ (c : ChunkNo) (e : EntryNo) (at : Row z c e) where
    abbrev Kept-as : Entry → Type 0
    Kept-as y = RowKept z (entry z s c e) y

    as_it_was : Kept-as (entry z s c e)
    as_it_was = (refl, λ _. refl)

    next_row : (es : List Entry) → length es ≡ z.chunks * z.entries → Kept-as (entry_at z es c e) → (d : ChunkNo) (f x : EntryNo) → Row z d f → Kept-as (entry_at z (set es (row z d f) (Stages.with_next (entry z s d f) x)) c e)
    next_row es l was d f x to = entry-put z es d f (Stages.with_next (entry z s d f) x) c e Kept-as l to.chunk to.entry at.entry here (λ _. was)
      where
        here : c ≡ d → e ≡ f → Kept-as (Stages.with_next (entry z s d f) x)
        here p q = rw (p, q) (refl, λ _. refl)

    -- a slot taken named none before
    slot_row : (d : ChunkNo) (k : ℕ) → d.0 < z.chunks → (chunk s d).used < z.entries → Kept-as (entry_at z (set s.entries (row z d (entry_no (chunk s d).used)) (record { key = k; handle = no_handle; next = no_entry })) c e)
    slot_row d k b room = entry-put z s.entries d (entry_no (chunk s d).used) (record { key = k; handle = no_handle; next = no_entry }) c e Kept-as len b room at.entry here (λ _. as_it_was)
      where
        here : c ≡ d → e ≡ entry_no (chunk s d).used → Kept-as (record { key = k; handle = no_handle; next = no_entry })
        here p q = rw empty (refl, λ i. absurd (out i))
          where
            empty : entry z s c e ≡ empty_entry
            empty = ((kept.tables.lists c at.chunk).slot e at.entry).empty (omega (arith, ap (λ (e : EntryNo). e.0) q, ap (λ (c : ChunkNo). (chunk s c).used) p))

    still-row : (w : Write) → stills w ≡ true → Allowed z s.chunks s.entries w → Kept-as (entry z (after w) c e)
    still-row write.Nothing v a = as_it_was
    still-row (write.Slot d k) v a = slot_row d k a.0 a.2
    still-row (write.Link d f before) v a =
        picked (λ (x : Tables). Kept-as (entry_at z x.entries c e)) (ltb before.0 z.entries)
        (λ i. next_row (set s.entries (row z d f) (Stages.with_next (entry z s d f) (entry z s d before).next)) (length-set s.entries (row z d f) _ ∙ len) (next_row s.entries len as_it_was d f (entry z s d before).next to) d before f (record { chunk = w.numbered; entry = ltb-true _ _ i }))
        (λ _. next_row s.entries len as_it_was d f (chunk s d).head to)
      where
        w : Waits z s.chunks s.entries d f before a.0
        w = a.1

        to : Row z d f
        to = record { chunk = w.numbered; entry = le_trans w.used (kept.tables.lists d w.numbered).row.used }
    still-row (write.Fresh h) v a = absurd (false≢true v)
    still-row (write.Store h x) v a = absurd (false≢true v)
    still-row (write.Delete h) v a = absurd (false≢true v)
    still-row (write.Name d f h) v a = absurd (false≢true v)

  still-records : (w : Write) → stills w ≡ true → ((after w).marks ≡ s.marks) × ((after w).values ≡ s.values)
  still-records write.Nothing v = (refl, refl)
  still-records (write.Slot d k) v = (refl, refl)
  still-records (write.Link d f before) v = picked (λ (x : Tables). (x.marks ≡ s.marks) × (x.values ≡ s.values)) (ltb before.0 z.entries) (λ _. (refl, refl)) (λ _. (refl, refl))
  still-records (write.Fresh h) v = absurd (false≢true v)
  still-records (write.Store h x) v = absurd (false≢true v)
  still-records (write.Delete h) v = absurd (false≢true v)
  still-records (write.Name d f h) v = absurd (false≢true v)

  -- ---- a step of a task
  module _ (n : ℕ) where
    abbrev t : Task
    t = task s n

    name-row : (g : HandleNo) → Swaps z s t → (g.0 ≡ NONE) ⊎ ((g.0 ≡ t.new.0) × (t.new.0 < z.handles) × (t.swapped ≡ 0) × (decides z s t ≡ true)) → (c : ChunkNo) (e : EntryNo) → Row z c e →
        RowKept z (entry z s c e) (entry z (after (write.Name t.chunk t.entry g)) c e) ⊎ Renamed z s t c e (entry z (after (write.Name t.chunk t.entry g)) c e)
    name-row g x to c e at =
        entry-put z s.entries t.chunk t.entry (Stages.with_handle (entry z s t.chunk t.entry) g) c e (λ y. RowKept z (entry z s c e) y ⊎ Renamed z s t c e y) len x.row.chunk x.row.entry at.entry
        (λ p q. inr (record { swaps = x; chunk = p; entry = q; key = refl; to = to })) (λ _. inl (refl, λ _. refl))

    -- a row names what it named, or is the one that a swap has written
    pub row_step : {w : Write} → Acts z s t w → Allowed z s.chunks s.entries w → (c : ChunkNo) (e : EntryNo) → Row z c e → RowKept z (entry z s c e) (entry z (after w) c e) ⊎ Renamed z s t c e (entry z (after w) c e)
    row_step (Acts.still {w = w} v u) a c e at = inl (still-row c e at w v a)
    row_step (Acts.takes b u) a c e at = inl (refl, λ _. refl)
    row_step (Acts.writes b q u) a c e at = inl (refl, λ _. refl)
    row_step (Acts.stores v b q i u) a c e at = inl (refl, λ _. refl)
    row_step (Acts.deletes b q i u) a c e at = inl (refl, λ _. refl)
    row_step (Acts.names x b q le i u) a c e at = name-row t.new x (inr (refl, b, q, u)) c e at
    row_step (Acts.drops x u) a c e at = name-row no_handle x (inl refl) c e at

    module _ {w : Write} (act : Acts z s t w) (a : Allowed z s.chunks s.entries w) (c : ChunkNo) (e : EntryNo) (at : Row z c e) where
      -- rows of chunks on which the task does not publish
      pub frame : (t.published ≡ 1 → c ≢ t.chunk) → RowKept z (entry z s c e) (entry z (after w) c e)
      frame ne = ⊎_elim (λ k. k) (λ x. absurd (ne x.swaps.published x.chunk)) (row_step act a c e at)

      -- a row that names a handle afterwards named it before, or is the one that a deciding swap has written
      pub row_back : (entry z (after w) c e).handle.0 < z.handles → RowKept z (entry z s c e) (entry z (after w) c e) ⊎ NewAt z s t c e (entry z (after w) c e)
      row_back b = ⊎_map (λ k. k) new-at (row_step act a c e at)
        where
          new-at : Renamed z s t c e (entry z (after w) c e) → NewAt z s t c e (entry z (after w) c e)
          new-at x = ⊎_elim (λ (q : (entry z (after w) c e).handle.0 ≡ NONE). absurd (out (rw q at b))) (λ q. record { swaps = x.swaps; chunk = x.chunk; entry = x.entry; handle = q.0; key = x.key; decided = q.3 }) x.to

    -- a row that names an undeleted handle is not one that a swap writes
    pub row-then : Marked z s → {w : Write} → Acts z s t w → Allowed z s.chunks s.entries w → (c : ChunkNo) (e : EntryNo) → Row z c e → (entry z s c e).handle.0 < z.handles → get_or s.marks (entry z s c e).handle.0 0 ≡ 0 → RowKept z (entry z s c e) (entry z (after w) c e)
    row-then marked act a c e at b m = ⊎_elim (λ k. k) (λ x. absurd (other x.swaps x.chunk x.entry)) (row_step act a c e at)
      where
        other : Swaps z s t → c ≡ t.chunk → e ≡ t.entry → ⊥
        other x p q = omega (arith, m, rw (← named) at (marked.old-deleted n x.past.0 x.past.1 (rw named at b)))
          where
            named : (entry z s c e).handle.0 ≡ t.old.0
            named = rw (p, q) x.names

    -- ---- the handles' records
    -- what is undeleted afterwards was so, but for the handle taken
    pub mark-back : {w : Write} → Acts z s t w → (h : ℕ) → ((lowest_free z s).0 < z.handles → h ≢ (lowest_free z s).0) → get_or (after w).marks h 0 ≡ 0 → get_or s.marks h 0 ≡ 0
    mark-back (Acts.still {w = w} v u) h ne m = rw (still-records w v).0 at m
    mark-back (Acts.takes b u) h ne m = sym (get_or-set_other s.marks (lowest_free z s).0 h 0 0 (ne b)) ∙ m
    mark-back (Acts.writes b q u) h ne m = m
    mark-back (Acts.stores v b q i u) h ne m = m
    mark-back (Acts.deletes b q i u) h ne m = elim (ℕ_discrete h t.old.0) [ yes p ↦ ap (λ (h : ℕ). get_or s.marks h 0) p ∙ q | no np ↦ sym (get_or-set_other s.marks t.old.0 h 1 0 np) ∙ m ]
    mark-back (Acts.names x b q le i u) h ne m = m
    mark-back (Acts.drops x u) h ne m = m

    -- the record of a named handle is as it was, but for the key at which the step decides
    pub record_same : OwnedBy z s → {w : Write} → Acts z s t w → (h k : ℕ) → h < z.handles → NamedUnder z s.entries h k → (decides z s t ≡ true → k ≢ t.key) → (get_or (after w).marks h 0 ≡ get_or s.marks h 0) × (get_or (after w).values h 0 ≡ get_or s.values h 0)
    record_same own {w = w} act h k b v far = go act
      where
        not-old : t.old.0 < z.handles → decides z s t ≡ true → h ≢ t.old.0
        not-old i u p = far u (own.old-key n k i (rw p at v))

        go : {w : Write} → Acts z s t w → (get_or (after w).marks h 0 ≡ get_or s.marks h 0) × (get_or (after w).values h 0 ≡ get_or s.values h 0)
        go (Acts.still {w = w} x u) = rw ((still-records w x).0, (still-records w x).1) (refl, refl)
        go (Acts.takes i u) = (get_or-set_other s.marks (lowest_free z s).0 h 0 0 ne, get_or-set_other s.values (lowest_free z s).0 h 0 0 ne)
          where
            ne : h ≢ (lowest_free z s).0
            ne p = free-unnamed z lim.handles s len i v.chunk v.entry v.row (v.names ∙ p)
        go (Acts.writes i q u) = (refl, get_or-set_other s.values t.new.0 h t.argument 0 (λ p. (own.new-own n i q).unnamed v.chunk v.entry v.row (v.names ∙ p)))
        go (Acts.stores x i q j u) = (refl, get_or-set_other s.values t.old.0 h x 0 (not-old i u))
        go (Acts.deletes i q j u) = (get_or-set_other s.marks t.old.0 h 1 0 (not-old i u), refl)
        go (Acts.names x i q le j u) = (refl, refl)
        go (Acts.drops x u) = (refl, refl)

    -- the value in a deleted handle that a task holds stays: nobody stores into a deleted one, and none that is held is handed out
    pub deleted-same : OwnedBy z s → {w : Write} → Acts z s t w → (m : ℕ) → get_or s.marks (task s m).old.0 0 ≡ 1 → get_or (after w).values (task s m).old.0 0 ≡ get_or s.values (task s m).old.0 0
    deleted-same own (Acts.still {w = w} x u) m d = rw (still-records w x).1 refl
    deleted-same own (Acts.takes i u) m d = get_or-set_other s.values (lowest_free z s).0 (task s m).old.0 0 0 (free-unheld z lim.handles s len i m).0
    deleted-same own (Acts.writes i q u) m d = get_or-set_other s.values t.new.0 (task s m).old.0 t.argument 0 ((own.new-own n i q).not-old m)
    deleted-same own (Acts.stores v i q j u) m d = get_or-set_other s.values t.old.0 (task s m).old.0 v 0 (λ p. omega (arith, d, ap (λ (h : ℕ). get_or s.marks h 0) p ∙ q))
    deleted-same own (Acts.deletes i q j u) m d = refl
    deleted-same own (Acts.names x i q le j u) m d = refl
    deleted-same own (Acts.drops x u) m d = refl
