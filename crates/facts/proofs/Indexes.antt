-- Every call keeps the index's rows those of the live chunks, but for between swap in and index; so they are of every reached table.
use Prim.Native.Nat.{ℕ, zero, suc, ◌+◌, ◌≤◌, ◌<◌}
use mathlib.Core.Path.{◌≡◌, refl, sym, ap, ◌∙◌}
use mathlib.Core.Logic.{◌⊎◌, inl, inr, ⊎_elim, ◌≢◌}
use mathlib.Core.List.Memᴰ
use mathlib.Core.List.{List, [], ◌∷◌, map}
use native.Mathlib.Nat.{not-suc-le-zero}
use native.Mathlib.Omega.{arith}
use native.Mathlib.Decide.{ℕ_discrete}
use lib.Dec.{eqb, ltb}
use lib.ListN.{length, set, replicate, length-map}
use borrow.Author.Tests.{lt-ltb, le-ltb, eqb-true}
use Rattle.rules.specs.declared.Sizes.{Sizes}
use Rattle.rules.specs.declared.Directory.{Directory}
use Rattle.rules.specs.declared.Chunk.{Chunk}
use Rattle.rules.specs.declared.ChunkNo.{ChunkNo}
use Rattle.rules.specs.declared.IndexRow.{IndexRow}
use Rattle.rules.specs.Words.{NONE, chunk_no, no_chunk, unused, live, retired, idle, to_drain, to_copy, to_swap, to_index, to_release}
use Rattle.rules.specs.Tables.{Tables, empty_chunk, empty_index, empty_row, chunk_at, chunk, task, with_directory}
use Rattle.rules.specs.Walks.{locate, chain_from, chain, row_of, over}
use Rattle.rules.specs.Map.{Ascends}
use Rattle.rules.specs.Stages
use Rattle.rules.specs.Rebalance.{Outcome, at_rest, with_status, frozen_of, unused_count, published_on, held_chunk, begins, drains, copies, swaps_in, indexes, releases, rebalance_does}
use Rattle.rules.specs.Calls.{Call, fresh, starts, steps, does, calls}
use Rattle.rules.specs.Calls.Call.{start, step, begin, rebalance}
use Rattle.laws.specs.Counts.{Every}
use Rattle.laws.proofs.Tests.{picked}
use Rattle.views.proofs.Rows.{chunk-either}
use Rattle.views.proofs.Copies.{clears-is}
use Rattle.views.proofs.Chunks.{chain-live, chain-ascends, chain-frame, chain-view}
use Rattle.statements.specs.Runs.{tables_at}
use Rattle.statements.specs.Sound.{Limited, Indexes, AwaitsIndex}
use Rattle.facts.specs.Facts.{Same, Indexed, Kept}
use Rattle.facts.specs.Reached.{Reached}
use Rattle.facts.specs.Swapped.{before_old}
use Rattle.facts.proofs.Applying.{Applied}
use Rattle.facts.proofs.Copying
use Rattle.facts.proofs.Copying.{copy-by}
use Rattle.facts.proofs.Covering.{chain-within, chain-chained}
use Rattle.facts.proofs.Fresh.{fresh_kept}
use Rattle.facts.proofs.Going.{located}
use Rattle.facts.proofs.Reaching.{call_by, reached-kept, run-reached}
use Rattle.facts.proofs.Sames.{same-all, same-put}
use Rattle.facts.proofs.SwapIn.{swap-by}
use Rattle.facts.proofs.Tasks.{start-by, step_by, step-applied}

-- swap in writes no row of the index
swap-index : (z : Sizes) (s : Tables) → (swaps_in z s).tables.index ≡ s.index
swap-index z s = swap-by z s (λ x. x.index ≡ s.index) refl (λ x e. e) (λ x e. e) (λ x e. e) (λ x e. e) (λ x d e. e)

-- the index's rows for chunks whose minimum keys are as they were
rows_same : (s x : Tables) (l : List ChunkNo) → Every (λ c. (chunk x c).min ≡ (chunk s c).min) l → map (row_of x.chunks) l ≡ map (row_of s.chunks) l
rows_same s x [] same = refl
rows_same s x (c ∷ l) same = rw (same c (Memᴰ.head refl), rows_same s x l (λ y m. same y (Memᴰ.tail m)))

ascends_same : (f g : ChunkNo → ℕ) (k : ℕ) (l : List ChunkNo) → Every (λ c. g c ≡ f c) l → Ascends f k l → Ascends g k l
unfolding Ascends
ascends_same f g k [] same h = h
ascends_same f g k (c ∷ l) same h = rw (same c (Memᴰ.head refl)) (h.0, ascends_same f g (f c + 1) l (λ y m. same y (Memᴰ.tail m)) h.1)

module _ (z : Sizes) (lim : Limited z) (s : Tables) (kept : Kept z s) where
  -- ---- the live chunks
  chain-named : Every (λ c. (c.0 < z.chunks) × ((chunk s c).status ≡ live)) (chain z s)
  chain-named = chain-live z s.chunks 0 s.directory.first (chain z s) (chain-chained z lim s kept)

  -- the chain stays where the rows of its chunks do
  chain_same : (x : Tables) → x.directory.first ≡ s.directory.first →
      Every (λ c. ((chunk x c).status ≡ (chunk s c).status) × ((chunk x c).min ≡ (chunk s c).min) × ((chunk x c).next ≡ (chunk s c).next)) (chain z s) → chain z x ≡ chain z s
  chain_same x first same = chain-view z x.chunks lim.chunks z.chunks 0 x.directory.first (chain z s) (chain-within z lim s kept) (rw first (chain-frame z s.chunks x.chunks 0 s.directory.first (chain z s) (chain-chained z lim s kept) same))

  -- ---- the index step
  index-indexed : Indexed z (indexes z s).tables
  index-indexed =
      record {
        chunks = chain z s;
        rows = refl;
        count = length-map (chain z s) (row_of s.chunks);
        short = chain-within z lim s kept;
        named = λ c m. ((chain-named c m).0, inl (chain-named c m).1);
        ascends = chain-ascends z s.chunks 0 s.directory.first (chain z s) (chain-chained z lim s kept);
        lives = λ _. refl;
      }

  abbrev I : Outcome → Type 0
  I o = Indexed z o.tables

  module _ (i : Indexed z s) where
    -- a call that leaves the index, and of the chunks that it names minimum keys and that they are live or retired
    left : (x : Tables) → x.index ≡ s.index → x.directory.indexed ≡ s.directory.indexed → Every (λ c. (chunk x c).min ≡ (chunk s c).min) i.chunks →
        Every (λ c. ((chunk x c).status ≡ live) ⊎ ((chunk x c).status ≡ retired)) i.chunks → (x.directory.stage ≢ to_index → i.chunks ≡ chain z x) → Indexed z x
    left x rows count mins named lives =
        record {
          chunks = i.chunks;
          rows = rows ∙ i.rows ∙ ap (λ (l : List IndexRow). over l (empty_index z)) (sym (rows_same s x i.chunks mins));
          count = count ∙ i.count;
          short = i.short;
          named = λ c m. ((i.named c m).0, named c m);
          ascends = ascends_same (λ c. (chunk s c).min) (λ c. (chunk x c).min) 0 i.chunks mins i.ascends;
          lives = lives;
        }

    -- one that leaves status, minimum key and next of every chunk
    same_left : (x : Tables) → x.index ≡ s.index → x.directory.indexed ≡ s.directory.indexed → x.directory.first ≡ s.directory.first → (x.directory.stage ≢ to_index → s.directory.stage ≢ to_index) → Same s.chunks x.chunks → Indexed z x
    same_left x rows count first stage same =
        left x rows count (λ c _. same.min c) (λ c m. ⊎_elim (λ e. inl (same.status c ∙ e)) (λ e. inr (same.status c ∙ e)) (i.named c m).1)
        (λ ne. i.lives (stage ne) ∙ sym (chain_same x first (λ c _. (same.status c, same.min c, same.next c))))

    -- one that leaves the rows of the live chunks, which are those that it names
    live-left : (x : Tables) → s.directory.stage ≢ to_index → x.index ≡ s.index → x.directory.indexed ≡ s.directory.indexed → x.directory.first ≡ s.directory.first → ((c : ChunkNo) → (chunk s c).status ≡ live → chunk x c ≡ chunk s c) → Indexed z x
    live-left x ne rows count first same =
        left x rows count (λ c m. ap (λ (y : Chunk). y.min) (row c m)) (λ c m. inl (ap (λ (y : Chunk). y.status) (row c m) ∙ lives c m))
        (λ _. i.lives ne ∙ sym (chain_same x first (λ c m. let e = same c (chain-named c m).1 in (ap (λ (y : Chunk). y.status) e, ap (λ (y : Chunk). y.min) e, ap (λ (y : Chunk). y.next) e))))
      where
        lives : Every (λ c. (chunk s c).status ≡ live) i.chunks
        lives c m = (chain-named c (rw (← (i.lives ne)) m)).1

        row : Every (λ c. chunk x c ≡ chunk s c) i.chunks
        row c m = same c (lives c m)

    -- ---- a task
    start-indexed : (n op k a f : ℕ) → Indexed z (starts z s n op k a f).tables
    start-indexed n op k a f = start-by z s (Indexed z) i n op k a f (λ _ _ _. same_left _ refl refl refl (λ e. e) (same-all s.chunks))

    step-indexed : (n : ℕ) → Indexed z (steps z s n).tables
    step-indexed n = step_by z s (Indexed z) i n (λ _. same_left _ a.index (ap (λ (d : Directory). d.indexed) a.directory) (ap (λ (d : Directory). d.first) a.directory) (λ ne. rw a.directory at ne) a.written.same)
      where
        a : Applied z (Stages.put_own z s n (Stages.decide z s n (task s n)).task) (Stages.apply z (Stages.put_own z s n (Stages.decide z s n (task s n)).task) (Stages.decide z s n (task s n)).write)
        a = step-applied z lim s kept n

    -- ---- begin and drain
    begin-indexed : (k : ℕ) → Indexed z (begins z s k).tables
    begin-indexed k =
        picked I (eqb s.directory.stage idle)
        (λ e. picked I (ltb (unused_count s.chunks) 2) (λ _. i)
        (λ _. same_left _ refl refl refl (λ _ q. omega (arith, q, eqb-true s.directory.stage idle e)) (same-put s.chunks (locate z s k) (frozen_of (chunk s (locate z s k))) (rw kept.tables.chunks-sized (located z lim s kept.tables k).0) refl refl refl))) (λ _. i)

    drain-indexed : s.directory.stage ≡ to_drain → Indexed z (drains z s).tables
    drain-indexed stage = picked I (published_on s.tasks s.directory.old) (λ _. i) (λ _. same_left _ refl refl refl (λ _ q. omega arith) (same-all s.chunks))

    -- ---- copy: a new chunk was unused
    copy-indexed : s.directory.stage ≡ to_copy → Indexed z (copies z s).tables
    copy-indexed stage = copy-by z s (Indexed z) (λ c cs es same. live-left _ (λ q. omega arith) refl refl refl (λ f e. same f (unlike f _ e (Copying.a-free z lim s kept stage).1) (unlike f _ e (Copying.b-free z lim s kept stage).1)))
      where
        unlike : (c d : ChunkNo) → (chunk s c).status ≡ live → (chunk s d).status ≡ unused → c ≢ d
        unlike c d x y e = omega (arith, x, y, ap (λ (c : ChunkNo). (chunk s c).status) e)

    -- ---- swap in: the old chunk is retired, and its row stays
    swap-indexed : s.directory.stage ≡ to_swap → Indexed z (swaps_in z s).tables
    swap-indexed stage =
        left (swaps_in z s).tables (swap-index z s) refl (λ c _. min c) (λ c m. in_use c (lives c m)) (λ ne. absurd (ne refl))
      where
        lives : Every (λ c. (chunk s c).status ≡ live) i.chunks
        lives c m = (chain-named c (rw (← (i.lives (λ q. omega arith))) m)).1

        min : (c : ChunkNo) → (chunk (swaps_in z s).tables c).min ≡ (chunk s c).min
        min c = swap-by z s (λ x. (chunk x c).min ≡ (chunk s c).min) refl (λ x. put x.chunks (before_old z s) _ refl) (λ x. put x.chunks s.directory.new _ refl) (λ x. put x.chunks s.directory.second _ refl) (λ x. put x.chunks s.directory.old _ refl) (λ x d e. e)
          where
            put : (cs : List Chunk) (d : ChunkNo) (y : Chunk) → y.min ≡ (chunk s d).min → (chunk_at cs c).min ≡ (chunk s c).min → (chunk_at (set cs d.0 y) c).min ≡ (chunk s c).min
            put cs d y e h = chunk-either cs d y c (λ y. y.min ≡ (chunk s c).min) (λ q. e ∙ ap (λ (c : ChunkNo). (chunk s c).min) (sym q)) h

        in_use : (c : ChunkNo) → (chunk s c).status ≡ live → ((chunk (swaps_in z s).tables c).status ≡ live) ⊎ ((chunk (swaps_in z s).tables c).status ≡ retired)
        in_use c l =
            swap-by z s (λ x. ((chunk x c).status ≡ live) ⊎ ((chunk x c).status ≡ retired)) (inl l)
            (λ x. put x.chunks (before_old z s) _ (λ q. inl (ap (λ (c : ChunkNo). (chunk s c).status) (sym q) ∙ l))) (λ x. put x.chunks s.directory.new _ (λ _. inl refl)) (λ x. put x.chunks s.directory.second _ (λ _. inl refl)) (λ x. put x.chunks s.directory.old _ (λ _. inr refl)) (λ x d e. e)
          where
            put : (cs : List Chunk) (d : ChunkNo) (y : Chunk) → (c ≡ d → (y.status ≡ live) ⊎ (y.status ≡ retired)) → ((chunk_at cs c).status ≡ live) ⊎ ((chunk_at cs c).status ≡ retired) → ((chunk_at (set cs d.0 y) c).status ≡ live) ⊎ ((chunk_at (set cs d.0 y) c).status ≡ retired)
            put cs d y = chunk-either cs d y c (λ y. (y.status ≡ live) ⊎ (y.status ≡ retired))

    -- ---- release: the old chunk is not live
    release-indexed : s.directory.stage ≡ to_release → Indexed z (releases z s).tables
    release-indexed stage =
        picked I (held_chunk s.tasks s.directory.old) (λ _. i)
        (λ _. rw (clears-is z s.directory.old s z.entries (with_directory s (at_rest s.directory)))
        (live-left _ (λ q. omega arith) refl refl refl (λ c e. chunk-either s.chunks s.directory.old empty_chunk c (λ y. y ≡ chunk s c) (λ q. absurd (omega (arith, e, is-retired, ap (λ (c : ChunkNo). (chunk s c).status) q))) refl)))
      where
        old-in : s.directory.old.0 < z.chunks
        old-in = kept.tables.rebalancing.old (omega arith)

        is-retired : (chunk s s.directory.old).status ≡ retired
        is-retired = ((kept.tables.rebalancing.roles s.directory.old old-in).old refl).1 ∙ rw stage refl

    does-indexed : (c : Call) → Indexed z (does z s c).tables
    unfolding does rebalance_does
    does-indexed (start n op k a f) = start-indexed n op k a f
    does-indexed (step n) = step-indexed n
    does-indexed (begin k) = begin-indexed k
    does-indexed rebalance =
        picked Q (eqb s.directory.stage to_drain) (λ e. drain-indexed (eqb-true _ _ e))
        (λ _. picked Q (eqb s.directory.stage to_copy) (λ e. copy-indexed (eqb-true _ _ e))
        (λ _. picked Q (eqb s.directory.stage to_swap) (λ e. swap-indexed (eqb-true _ _ e))
        (λ _. picked Q (eqb s.directory.stage to_index) (λ _. index-indexed)
        (λ _. picked Q (eqb s.directory.stage to_release) (λ e. release-indexed (eqb-true _ _ e)) (λ _. i)))))
      where
        Q : (Sizes → Tables → Outcome) → Type 0
        Q f = Indexed z (f z s).tables

module _ (z : Sizes) (lim : Limited z) where
  -- chunk 0 is the only live one
  fresh-chain : chain z (fresh z) ≡ chunk_no 0 ∷ []
  unfolding chain_from
  fresh-chain = go z.chunks lim.some
    where
      ends : (cs : List Chunk) (n : ℕ) → chain_from z cs n no_chunk ≡ []
      ends cs zero = refl
      ends cs (suc n) = rw (le-ltb NONE z.chunks lim.chunks)

      go : (n : ℕ) → 1 ≤ n → chain_from z (set (replicate n empty_chunk) 0 (with_status empty_chunk live)) n (chunk_no 0) ≡ chunk_no 0 ∷ []
      go zero b = absurd (not-suc-le-zero b)
      go (suc n) b = rw (lt-ltb 0 z.chunks lim.some, ends (set (replicate (suc n) empty_chunk) 0 (with_status empty_chunk live)) n)

  fresh-min : (n : ℕ) → (chunk_at (set (replicate n empty_chunk) 0 (with_status empty_chunk live)) (chunk_no 0)).min ≡ 0
  fresh-min zero = refl
  fresh-min (suc n) = refl

  fresh-indexed : Indexed z (fresh z)
  unfolding over chain_from index-indexed
  fresh-indexed = record { chunks = i.chunks; rows = first-row ∙ i.rows; count = one ∙ i.count; short = i.short; named = i.named; ascends = i.ascends; lives = λ _. refl }
    where
      i : Indexed z (indexes z (fresh z)).tables
      i = index-indexed z lim (fresh z) (fresh_kept z lim)

      one : 1 ≡ (indexes z (fresh z)).tables.directory.indexed
      one = rw fresh-chain

      first-row : (fresh z).index ≡ (indexes z (fresh z)).tables.index
      first-row = rw fresh-chain (go z.chunks lim.some)
        where
          go : (n : ℕ) → 1 ≤ n → set (replicate n empty_row) 0 (record { min = 0; chunk = chunk_no 0 }) ≡ over (record { min = (chunk (fresh z) (chunk_no 0)).min; chunk = chunk_no 0 } ∷ []) (replicate n empty_row)
          go zero b = absurd (not-suc-le-zero b)
          go (suc n) b = rw (fresh-min z.chunks)

  pub reached-indexed : {s : Tables} → Reached z s → Indexed z s
  reached-indexed Reached.started = fresh-indexed
  reached-indexed (Reached.called {s = s'} r c) = call_by z s' c (Indexed z) (reached-indexed r) (does-indexed z lim s' (reached-kept z lim r) (reached-indexed r) c)

-- ---- over a run
-- the index step is the next of x, which comes of s by a call that leaves the index: it was the next of s too, or the call was the swap in
record Still (s x : Tables) : Type 0 where
  from : (s.directory.stage ≡ to_index) ⊎ (s.directory.stage ≡ to_swap)
  count : x.directory.indexed ≡ s.directory.indexed
  rows : x.index ≡ s.index

module _ (z : Sizes) (lim : Limited z) (s : Tables) (kept : Kept z s) where
  abbrev StillBy : Outcome → Type 0
  StillBy o = o.tables.directory.stage ≡ to_index → Still s o.tables

  unmoved : s.directory.stage ≡ to_index → Still s s
  unmoved e = record { from = inl e; count = refl; rows = refl }

  -- the stage is another one
  not-next : (n : ℕ) → n ≢ to_index → {x : Tables} → x.directory.stage ≡ n → x.directory.stage ≡ to_index → Still s x
  not-next n ne is e = absurd (ne (sym is ∙ e))

  does-still : (c : Call) → StillBy (does z s c)
  unfolding does rebalance_does
  does-still (start n op k a f) = start-by z s (λ x. x.directory.stage ≡ to_index → Still s x) unmoved n op k a f (λ _ _ _ e. record { from = inl e; count = refl; rows = refl })
  does-still (step n) = step_by z s (λ x. x.directory.stage ≡ to_index → Still s x) unmoved n (λ _ e. record { from = inl (ap (λ (d : Directory). d.stage) (sym a.directory) ∙ e); count = ap (λ (d : Directory). d.indexed) a.directory; rows = a.index })
    where
      a : Applied z (Stages.put_own z s n (Stages.decide z s n (task s n)).task) (Stages.apply z (Stages.put_own z s n (Stages.decide z s n (task s n)).task) (Stages.decide z s n (task s n)).write)
      a = step-applied z lim s kept n
  does-still (begin k) = picked StillBy (eqb s.directory.stage idle) (λ _. picked StillBy (ltb (unused_count s.chunks) 2) (λ _. unmoved) (λ _. not-next to_drain (omega arith) refl)) (λ _. unmoved)
  does-still rebalance =
      picked Q (eqb s.directory.stage to_drain) (λ _. picked StillBy (published_on s.tasks s.directory.old) (λ _. unmoved) (λ _. not-next to_copy (omega arith) refl))
      (λ _. picked Q (eqb s.directory.stage to_copy) (λ _. copy-by z s (λ x. x.directory.stage ≡ to_index → Still s x) (λ c cs es _. not-next to_swap (omega arith) refl))
      (λ _. picked Q (eqb s.directory.stage to_swap) (λ q _. record { from = inr (eqb-true _ _ q); count = refl; rows = swap-index z s })
      (λ _. picked Q (eqb s.directory.stage to_index) (λ _. not-next to_release (omega arith) refl)
      (λ _. picked Q (eqb s.directory.stage to_release) (λ _. picked StillBy (held_chunk s.tasks s.directory.old) (λ _. unmoved) (λ _. rw (clears-is z s.directory.old s z.entries (with_directory s (at_rest s.directory))) (not-next idle (omega arith) refl))) (λ _. unmoved)))))
    where
      Q : (Sizes → Tables → Outcome) → Type 0
      Q f = StillBy (f z s)

module _ (z : Sizes) (lim : Limited z) (run : ℕ → Call) where
  pub indexed-at : (i : ℕ) → (tables_at z run i).directory.stage ≢ to_index → Indexes z (tables_at z run i) (tables_at z run i)
  indexed-at i ne = record { count = h.count ∙ ap length (h.lives ne); rows = h.rows ∙ ap (λ (l : List ChunkNo). over (map (row_of (tables_at z run i).chunks) l) (empty_index z)) (h.lives ne) }
    where
      h : Indexed z (tables_at z run i)
      h = reached-indexed z lim (run-reached z run i)

  pub awaits-at : (i : ℕ) → (tables_at z run i).directory.stage ≡ to_index → AwaitsIndex z run i (tables_at z run i)
  unfolding tables_at
  awaits-at zero e = absurd (fresh-rests e)
    where
      fresh-rests : ◌≡◌ {A = ℕ} 0 4 → ⊥
      fresh-rests e = omega arith
  awaits-at (suc i) e = by (λ q. awaits-at i q) still.from
    where
      s : Tables
      s = tables_at z run i

      x : Tables
      x = (calls z s (run i)).tables

      still : Still s x
      still = call_by z s (run i) (λ y. y.directory.stage ≡ to_index → Still s y) (λ q. record { from = inl q; count = refl; rows = refl }) (does-still z lim s (reached-kept z lim (run-reached z run i)) (run i)) e

      -- the index is as it was
      on : (y : Tables) → Indexes z s y → Indexes z x y
      on y h = record { count = still.count ∙ h.count; rows = still.rows ∙ h.rows }

      upto : (j : ℕ) → ((m : ℕ) → j < m → m ≤ i → (tables_at z run m).directory.stage ≡ to_index) → (m : ℕ) → j < m → m ≤ suc i → (tables_at z run m).directory.stage ≡ to_index
      upto j h m a b = elim (ℕ_discrete m (suc i)) [ yes q ↦ rw q e | no ne ↦ h m a (omega arith) ]

      by : (s.directory.stage ≡ to_index → AwaitsIndex z run i s) → (s.directory.stage ≡ to_index) ⊎ (s.directory.stage ≡ to_swap) → AwaitsIndex z run (suc i) x
      by earlier (inl q) = let h = earlier q in record { at = h.at; before = omega (arith, h.before); swaps = h.swaps; since = upto h.at h.since; indexes = on _ h.indexes }
      by earlier (inr q) = record { at = i; before = omega arith; swaps = q; since = upto i (λ m a b. absurd (omega arith)); indexes = on _ (indexed-at i (λ n. absurd (omega (arith, q, n)))) }
