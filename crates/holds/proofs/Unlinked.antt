-- Every call keeps unlinked-none.
use Prim.Native.Nat.{ℕ, zero, suc, ◌+◌, ◌*◌, ◌/◌, ◌≤◌, ◌<◌}
use mathlib.Core.Path.{◌≡◌, refl, sym, ap, ◌∙◌}
use mathlib.Core.Logic.{⊎_elim, ◌≢◌}
use mathlib.Core.Bool.{true}
use mathlib.Core.List.Memᴰ
use mathlib.Core.List.{List, ◌∷◌, Memᴰ}
use native.Mathlib.Nat.{le_trans, le_refl}
use native.Mathlib.Decide.{ℕ_discrete, dec_lt}
use native.Mathlib.Omega.{arith}
use lib.Dec.{eqb, ltb, leb}
use lib.ListN.{length, get_or, set, take, drop, length-set}
use borrow.Author.Tests.{leb-false, eqb-true, ltb-true}
use Rattle.rules.specs.Map.{Ascends}
use Rattle.views.specs.Copies.{entry_key, filled, cleared, up_from}
use Rattle.rules.specs.declared.Sizes.{Sizes}
use Rattle.rules.specs.declared.Directory.{Directory}
use Rattle.rules.specs.declared.Task.{Task}
use Rattle.rules.specs.declared.Chunk.{Chunk}
use Rattle.rules.specs.declared.Entry.{Entry}
use Rattle.rules.specs.declared.ChunkNo.{ChunkNo}
use Rattle.rules.specs.declared.EntryNo.{EntryNo}
use Rattle.rules.specs.declared.Decision.{Decision}
use Rattle.rules.specs.declared.Write.{Write}
use Rattle.rules.specs.declared.Write.TheVariants as write
use Rattle.rules.specs.Words.{NONE, entry_no, no_chunk, no_handle, no_entry, unused, idle, to_drain, to_copy, to_swap, to_index, to_release}
use Rattle.rules.specs.Tables.{Tables, empty_chunk, empty_entry, chunk_at, chunk, entry_at, entry, row, task, put_chunk, with_own, with_directory, with_chunks, with_entries}
use Rattle.rules.specs.Walks.{locate, linked, list_from}
use Rattle.rules.specs.Stages
use Rattle.rules.specs.Rebalance.{Outcome, unused_count, unused_from, published_on, held_chunk, naming_from, frozen_of, makes, at, begins, copies, swaps_in, releases, rebalance_does, at_rest}
use Rattle.rules.specs.Calls.{Call, fresh, starts, steps, does}
use Rattle.rules.specs.Calls.Call.{start, step, begin, rebalance}
use Rattle.laws.proofs.Tests.{picked, by-test}
use Rattle.views.proofs.Rows.{chunk-either, entry-put}
use Rattle.views.proofs.Copies.{fill_is, clears-is, cleared-other, cleared-here}
use Rattle.statements.specs.Sound.{Limited}
use Rattle.facts.specs.Facts.{listed, Waits, Allowed, Kept}
use Rattle.facts.specs.Reached.{Reached}
use Rattle.facts.proofs.Applying.{Applied}
use Rattle.facts.proofs.Ends.{decides-fine}
use Rattle.facts.proofs.Fresh.{get_or-all}
use Rattle.facts.proofs.Writes.{same-chunk}
use Rattle.facts.proofs.Putting.{Based}
use Rattle.facts.proofs.Making
use Rattle.facts.proofs.Making.{new_row}
use Rattle.facts.proofs.Copying
use Rattle.rules.specs.Shape.{numbers}
use Rattle.laws.specs.Counts.{Every}
use Rattle.facts.specs.Swapped.{before_old}
use Rattle.facts.proofs.SwapIn.{swap-by}
use Rattle.facts.proofs.Reaching.{call_by, reached-kept}
use Rattle.facts.proofs.Tasks.{start-by, step_by, step-applied}
use Rattle.holds.specs.Unlinked.{UnlinkedNone}
use Rattle.holds.proofs.Publishing.{NamesLinked, decides-publish}

-- a chunk's list by the rows' nexts
list_same : (z : Sizes) (es es' : List Entry) (c : ChunkNo) → ((x : EntryNo) → x.0 < z.entries → (entry_at z es' c x).next ≡ (entry_at z es c x).next) → (fuel : ℕ) (e : EntryNo) → list_from z es' c fuel e ≡ list_from z es c fuel e
unfolding list_from
list_same z es es' c same zero e = refl
list_same z es es' c same (suc fuel) e = by-test (ltb e.0 z.entries) (λ t. rw (t, same e (ltb-true _ _ t)) (ap (λ (l : List EntryNo). e ∷ l) (list_same z es es' c same fuel (entry_at z es c e).next))) (λ t. rw t)

-- a head stays where what is written has it
head-put : (cs : List Chunk) (d : ChunkNo) (x : Chunk) (c : ChunkNo) → (c ≡ d → x.head ≡ (chunk_at cs c).head) → (chunk_at (set cs d.0 x) c).head ≡ (chunk_at cs c).head
head-put cs d x c f = chunk-either cs d x c (λ y. y.head ≡ (chunk_at cs c).head) f refl

up-from-in : (n m : ℕ) (e : EntryNo) → n ≤ e.0 → e.0 < n + m → Memᴰ e (up_from n m)
unfolding up_from
up-from-in n zero e ge lt = absurd (never ge lt)
  where
    never : n ≤ e.0 → e.0 < n + 0 → ⊥
    never p q = omega arith
up-from-in n (suc m) e ge lt = elim (ℕ_discrete e.0 n) [ yes q ↦ Memᴰ.head (ap entry_no q) | no ne ↦ Memᴰ.tail (up-from-in (n + 1) m e (more ne) (omega arith)) ]
  where
    more : e.0 ≢ n → n + 1 ≤ e.0
    more ne = omega arith

-- a new chunk made of a list has all its naming entries linked
module _ (z : Sizes) (lim : Limited z) (first : ChunkNo) (cs : List Chunk) (es : List Entry) (h : Based z first cs es)
    (c : ChunkNo) (min : ℕ) (l : List Entry) (b : c.0 < z.chunks) (empty : (chunk_at cs c).status ≡ unused) (short : length l ≤ z.entries)
    (rising : Ascends entry_key 0 l) (handles : Every (λ x. numbers z.handles x.handle.0 ≡ true) l) where
  made-unlinked : UnlinkedNone z cs es → UnlinkedNone z (set cs c.0 (new_row min l)) (filled z c 0 l es)
  made-unlinked un f e bf be i = ⊎_elim (λ (p : f ≡ c). here p) (λ ne. other ne) (same-chunk f c)
    where
      other : f ≢ c → Memᴰ e (listed z (set cs c.0 (new_row min l)) (filled z c 0 l es) f)
      other ne = rw (Making.made_other z lim first cs es h c min l b empty short rising handles f ne, list_same z es (filled z c 0 l es) f (λ x bx. ap (λ (y : Entry). y.next) (rows x bx)) z.entries (chunk_at cs f).head) (un f e bf be (rw (rows e be) at i))
        where
          rows : (x : EntryNo) → x.0 < z.entries → entry_at z (filled z c 0 l es) f x ≡ entry_at z es f x
          rows x bx = Making.rows z lim first cs es h c min l b empty short rising handles f x ne bx

      inner : (entry_at z (filled z c 0 l es) c e).handle.0 < z.handles → e.0 < length l
      inner j = elim (dec_lt e.0 (length l)) [ yes lt ↦ lt | no ge ↦ absurd (none ((Making.slot z lim first cs es h c min l b empty short rising handles e be).empty (past ge)) j) ]
        where
          past : (e.0 < length l → ⊥) → length l ≤ e.0
          past ge = omega arith

          none : entry_at z (filled z c 0 l es) c e ≡ empty_entry → (entry_at z (filled z c 0 l es) c e).handle.0 < z.handles → ⊥
          none q j = omega (arith, lim.handles, j, ap (λ (y : Entry). y.handle.0) q)

      here : f ≡ c → Memᴰ e (listed z (set cs c.0 (new_row min l)) (filled z c 0 l es) f)
      here p = rw (p, Making.seen z lim first cs es h c min l b empty short rising handles) (up-from-in 0 (length l) e (omega arith) (omega (arith, inner (rw p at i))))

module _ (z : Sizes) (lim : Limited z) (s : Tables) (kept : Kept z s) (un : UnlinkedNone z s.chunks s.entries) where
  abbrev UnlinkedIn : Tables → Type 0
  UnlinkedIn x = UnlinkedNone z x.chunks x.entries

  out : NONE < z.handles → ⊥
  out b = omega (arith, lim.handles)

  len : length s.entries ≡ z.chunks * z.entries
  len = kept.tables.entries-sized

  -- ---- a step: what names a handle afterwards was linked
  module _ (ts : List Task) (ss : List (List EntryNo)) (c : ChunkNo) (e : EntryNo) (b : c.0 < z.chunks) (be : e.0 < z.entries) where
    abbrev Was : Entry → Type 0
    Was y = y.handle.0 < z.handles → Memᴰ e (linked z s c)

    as_it_was : Was (entry z s c e)
    as_it_was = un c e b be

    names-then : (w : Write) → Allowed z s.chunks s.entries w → NamesLinked z s w → Was (entry_at z (Stages.apply z (with_own s ts ss) w).entries c e)
    names-then write.Nothing a m = as_it_was
    names-then (write.Slot d k) a m = entry-put z s.entries d (entry_no (chunk s d).used) (record { key = k; handle = no_handle; next = no_entry }) c e Was len a.0 a.2 be (λ _ _ i. absurd (out i)) (λ _. as_it_was)
    names-then (write.Link d f before) a m =
        picked (λ (x : Tables). Was (entry_at z x.entries c e)) (ltb before.0 z.entries)
        (λ i. entry-put z (set s.entries (row z d f) (Stages.with_next (entry z s d f) (entry z s d before).next)) d before (Stages.with_next (entry z s d before) f) c e Was (length-set s.entries (row z d f) _ ∙ len) w.numbered (ltb-true _ _ i) be (λ p q. at_row before p q) (λ _. first (entry z s d before).next))
        (λ _. first (chunk s d).head)
      where
        w : Waits z s.chunks s.entries d f before a.0
        w = a.1

        f-in : f.0 < z.entries
        f-in = le_trans w.used (kept.tables.lists d w.numbered).row.used

        at_row : (g : EntryNo) → c ≡ d → e ≡ g → Was (entry z s d g)
        at_row g p q = rw (← p, ← q) as_it_was

        first : (x : EntryNo) → Was (entry_at z (set s.entries (row z d f) (Stages.with_next (entry z s d f) x)) c e)
        first x = entry-put z s.entries d f (Stages.with_next (entry z s d f) x) c e Was len w.numbered f-in be (λ p q. at_row f p q) (λ _. as_it_was)
    names-then (write.Fresh h) a m = as_it_was
    names-then (write.Store h v) a m = as_it_was
    names-then (write.Delete h) a m = as_it_was
    names-then (write.Name d f h) a m = entry-put z s.entries d f (Stages.with_handle (entry z s d f) h) c e Was len a.0 (le_trans a.1 (kept.tables.lists d a.0).row.used) be (λ p q _. rw p (Memᴰ.cast q m)) (λ _. as_it_was)

  step-unlinked : (n : ℕ) → UnlinkedIn (steps z s n).tables
  step-unlinked n = step_by z s UnlinkedIn un n (λ _ c e b be i. a.written.members c e b (names-then (set s.tasks n x.task) _ c e b be x.write (decides-fine z lim s kept.tables (task s n) (kept.tasks n) n).allowed (decides-publish z s (task s n) (kept.tasks n) n).names i))
    where
      x : Decision
      x = Stages.decide z s n (task s n)

      a : Applied z (Stages.put_own z s n x.task) (Stages.apply z (Stages.put_own z s n x.task) x.write)
      a = step-applied z lim s kept n

  start-unlinked : (n op k a f : ℕ) → UnlinkedIn (starts z s n op k a f).tables
  start-unlinked n op k a f = start-by z s UnlinkedIn un n op k a f (λ _ _ _. un)

  -- ---- the rebalance
  -- the entries are as they were, and every chunk's head
  heads : (cs : List Chunk) → ((c : ChunkNo) → (chunk_at cs c).head ≡ (chunk s c).head) → UnlinkedNone z cs s.entries
  heads cs same c e b be i = rw (same c) (un c e b be i)

  begin-unlinked : (k : ℕ) → UnlinkedIn (begins z s k).tables
  begin-unlinked k =
      picked (λ (o : Outcome). UnlinkedIn o.tables) (eqb s.directory.stage idle)
      (λ _. picked (λ (o : Outcome). UnlinkedIn o.tables) (ltb (unused_count s.chunks) 2) (λ _. un)
      (λ _. heads (set s.chunks (locate z s k).0 (frozen_of (chunk s (locate z s k)))) (λ c. head-put s.chunks (locate z s k) (frozen_of (chunk s (locate z s k))) c (λ e. ap (λ (c : ChunkNo). (chunk s c).head) (sym e)))))
      (λ _. un)

  swap-unlinked : UnlinkedIn (swaps_in z s).tables
  swap-unlinked c e b be i = rw after.1 (rw (after.0 c) (un c e b be (rw after.1 at i)))
    where
      -- every chunk's head is as it was, and so are the entries
      Same : Tables → Type 0
      Same x = ((f : ChunkNo) → (chunk_at x.chunks f).head ≡ (chunk s f).head) × (x.entries ≡ s.entries)

      put_same : (d : ChunkNo) (y : Chunk) → y.head ≡ (chunk s d).head → (x : Tables) → Same x → Same (put_chunk x d y)
      put_same d y q x o = (λ f. head-put x.chunks d y f (λ p. q ∙ ap (λ (c : ChunkNo). (chunk s c).head) (sym p) ∙ sym (o.0 f)) ∙ o.0 f, o.1)

      after : Same (swaps_in z s).tables
      after = swap-by z s Same (λ f. refl, refl) (put_same (before_old z s) _ refl) (put_same s.directory.new _ refl) (put_same s.directory.second _ refl) (put_same s.directory.old _ refl) (λ x d o. o)

  copy-unlinked : s.directory.stage ≡ to_copy → UnlinkedIn (copies z s).tables
  copy-unlinked stage =
      picked (λ (o : Outcome). UnlinkedIn o.tables) (leb (length l) (z.entries / 2))
      (λ _. rw (fill_is z a (with_directory s (at z s to_swap a no_chunk)) 0 l) (made-unlinked z lim s.directory.first s.chunks s.entries (Copying.base z lim s kept stage) a (chunk s old).min l (Copying.a-free z lim s kept stage).0 (Copying.a-free z lim s kept stage).1 (Copying.l-short z lim s kept stage) (Copying.l-rising z lim s kept stage) (Copying.l-handles z lim s kept stage) un))
      (λ t. two (leb-false _ _ t))
    where
      old : ChunkNo
      old = s.directory.old

      l : List Entry
      l = naming_from z s.entries old z.entries (chunk s old).head

      half : ℕ
      half = (length l + 1) / 2

      l₁ : List Entry
      l₁ = take half l

      l₂ : List Entry
      l₂ = drop half l

      a : ChunkNo
      a = unused_from s.chunks 0

      b : ChunkNo
      b = unused_from (drop (a.0 + 1) s.chunks) (a.0 + 1)

      es₁ : List Entry
      es₁ = filled z a 0 l₁ s.entries

      cs₁ : List Chunk
      cs₁ = set s.chunks a.0 (new_row (chunk s old).min l₁)

      two : z.entries / 2 < length l → UnlinkedIn (makes z (makes z (with_directory s (at z s to_swap a b)) a (chunk s old).min l₁) b (get_or l half empty_entry).key l₂)
      two over =
          rw (fill_is z a (with_directory s (at z s to_swap a b)) 0 l₁, fill_is z b (with_chunks (with_entries (with_directory s (at z s to_swap a b)) es₁) cs₁) 0 l₂)
          (made-unlinked z lim s.directory.first cs₁ es₁ (Copying.base₁ z lim s kept stage over) b (get_or l half empty_entry).key l₂ (Copying.b-free z lim s kept stage).0 (Copying.b-unused z lim s kept stage over) (Copying.l₂-short z lim s kept stage over) (Copying.l₂-rising z lim s kept stage over) (Copying.h₂ z lim s kept stage over)
          (made-unlinked z lim s.directory.first s.chunks s.entries (Copying.base z lim s kept stage) a (chunk s old).min l₁ (Copying.a-free z lim s kept stage).0 (Copying.a-free z lim s kept stage).1 (Copying.l₁-short z lim s kept stage over) (Copying.r₁ z lim s kept stage over) (Copying.h₁ z lim s kept stage over) un))

  release-unlinked : s.directory.stage ≡ to_release → UnlinkedIn (releases z s).tables
  release-unlinked stage = picked (λ (o : Outcome). UnlinkedIn o.tables) (held_chunk s.tasks s.directory.old) (λ _. un) (λ _. rw (clears-is z old s z.entries (with_directory s to)) gone)
    where
      old : ChunkNo
      old = s.directory.old

      to : Directory
      to = at_rest s.directory

      old-in : old.0 < z.chunks
      old-in = kept.tables.rebalancing.old (omega arith)

      es : List Entry
      es = cleared z old z.entries s.entries

      gone : UnlinkedNone z (set s.chunks old.0 empty_chunk) es
      gone c e b be i = ⊎_elim (λ (p : c ≡ old). absurd (none (rw p at i))) (λ ne. other ne) (same-chunk c old)
        where
          none : (entry_at z es old e).handle.0 < z.handles → ⊥
          none j = out (rw (cleared-here z old old-in z.entries s.entries e (le_refl _) len be) at j)

          rows : c ≢ old → (x : EntryNo) → x.0 < z.entries → entry_at z es c x ≡ entry_at z s.entries c x
          rows ne x bx = cleared-other z old old-in z.entries s.entries c x (le_refl _) len bx (λ p. absurd (ne p))

          other : c ≢ old → Memᴰ e (listed z (set s.chunks old.0 empty_chunk) es c)
          other ne = rw (head-put s.chunks old empty_chunk c (λ p. absurd (ne p)), list_same z s.entries es c (λ x bx. ap (λ (y : Entry). y.next) (rows ne x bx)) z.entries (chunk s c).head) (un c e b be (rw (rows ne e be) at i))

  pub does-unlinked : (c : Call) → UnlinkedIn (does z s c).tables
  unfolding does rebalance_does
  does-unlinked (start n op k a f) = start-unlinked n op k a f
  does-unlinked (step n) = step-unlinked n
  does-unlinked (begin k) = begin-unlinked k
  does-unlinked rebalance =
      picked Q (eqb s.directory.stage to_drain) (λ _. picked (λ (o : Outcome). UnlinkedIn o.tables) (published_on s.tasks s.directory.old) (λ _. un) (λ _. un))
      (λ _. picked Q (eqb s.directory.stage to_copy) (λ e. copy-unlinked (eqb-true _ _ e))
      (λ _. picked Q (eqb s.directory.stage to_swap) (λ _. swap-unlinked)
      (λ _. picked Q (eqb s.directory.stage to_index) (λ _. un)
      (λ _. picked Q (eqb s.directory.stage to_release) (λ e. release-unlinked (eqb-true _ _ e)) (λ _. un)))))
    where
      Q : (Sizes → Tables → Outcome) → Type 0
      Q f = UnlinkedIn (f z s).tables

module _ (z : Sizes) (lim : Limited z) where
  fresh-unlinked : UnlinkedNone z (fresh z).chunks (fresh z).entries
  fresh-unlinked c e b be i = absurd (none (rw (get_or-all (z.chunks * z.entries) (row z c e) empty_entry) at i))
    where
      none : NONE < z.handles → ⊥
      none j = omega (arith, lim.handles)

  pub reached-unlinked : {s : Tables} → Reached z s → UnlinkedNone z s.chunks s.entries
  reached-unlinked Reached.started = fresh-unlinked
  reached-unlinked (Reached.called {s = s'} r c) = call_by z s' c (λ x. UnlinkedNone z x.chunks x.entries) (reached-unlinked r) (does-unlinked z lim s' (reached-kept z lim r) (reached-unlinked r) c)
