-- What the held chunk and the held handle show of a key, and what a call leaves of it.
use Prim.Native.Nat.{ℕ, ◌<◌}
use mathlib.Core.Path.{◌≡◌, refl, sym, ap, ◌∙◌, subst}
use mathlib.Core.Logic.{◌⊎◌, inl, inr, ⊎_elim, ⊎_map, ◌≢◌}
use mathlib.Core.Bool.{true, false≢true}
use mathlib.Core.List.{List, Memᴰ}
use mathlib.Core.Option.{Option, none, some, none-ne-some}
use native.Mathlib.Decide.{ℕ_discrete, dec_lt}
use native.Mathlib.Omega.{arith}
use lib.Dec.{eqb, ltb, leb}
use lib.ListN.{get_or, set, get_or-eq_default}
use borrow.Author.Tests.{lt-leb, eqb-true, ltb-true}
use Rattle.rules.specs.declared.Sizes.{Sizes}
use Rattle.rules.specs.declared.Directory.{Directory}
use Rattle.rules.specs.declared.Task.{Task}
use Rattle.rules.specs.declared.ChunkNo.{ChunkNo}
use Rattle.rules.specs.declared.EntryNo.{EntryNo}
use Rattle.rules.specs.Words.{pick, live, retired, scan_down, idle, to_drain, to_copy, to_swap, to_index, to_release}
use Rattle.rules.specs.Tables.{Tables, empty_chunk, with_directory, chunk_at, chunk, put_chunk, entry_at, entry, value, mark, task}
use Rattle.rules.specs.Walks.{linked, InRange}
use Rattle.rules.specs.Stages
use Rattle.rules.specs.Rebalance.{Outcome, unused_count, published_on, held_chunk, clears, copies, releases, rebalance_does, at_rest}
use Rattle.rules.specs.Calls.{Call, steps, does, calls}
use Rattle.rules.specs.Calls.Call.{start, step, begin, rebalance}
use Rattle.rules.specs.Shape.{fits_operation}
use Rattle.laws.proofs.Tests.{picked, or_cases}
use Rattle.views.proofs.Copies.{clears-is}
use Rattle.views.proofs.Entries.{links-one}
use Rattle.statements.specs.Sound.{Limited, Live}
use Rattle.facts.specs.Facts.{Roles, Holds, hold_at, ChunkOfKey, Kept}
use Rattle.facts.specs.Reached.{Reached}
use Rattle.facts.proofs.Numbers.{holding}
use Rattle.facts.proofs.Covering.{only}
use Rattle.facts.proofs.SwapIn.{swap-by}
use Rattle.facts.proofs.Copying.{copy-by}
use Rattle.facts.proofs.Tasks.{start-by, step_by}
use Rattle.facts.proofs.Reaching.{reached-kept}
use Rattle.holds.proofs.Shaped.{calls-does}
use Rattle.handles.proofs.Handing.{rebalance-tasks, begin-tasks}
use Rattle.handles.proofs.Keys.{reached-owned}
use Rattle.holds.proofs.Holding.{reached-held}
use Rattle.holds.proofs.Marks.{reached-marked}
use Rattle.holds.proofs.Unlinked.{reached-unlinked}
use Rattle.simulation.specs.Named.{present_at, NamedIn, LiveNamed, PresentBy}
use Rattle.simulation.proofs.Rows.{RowKept, frame, deleted-same}
use Rattle.simulation.proofs.Keeping.{reached-copied, kept-to}
use Rattle.simulation.proofs.Moving.{begin-moves, rebalance-moves}
use Rattle.simulation.proofs.Living.{under, s', allowed, acts, same-status, live_on, reached-lively}
use Rattle.simulation.proofs.Showing.{named-one, looked-up, shown-at}
use Rattle.history.specs.Goes.{looks_in, looks_old, ShownBy, Gone, AbsentIn}

-- ---- at one moment
module _ (z : Sizes) (lim : Limited z) (s : Tables) (r : Reached z s) where
  kept : Kept z s
  kept = reached-kept z lim r

  -- a live chunk whose range has a key shows it where it is present
  pub live-shown : (c : ChunkNo) (k v : ℕ) → Live z s c → InRange z s.chunks c k → PresentBy z s k v → ShownBy z s c k
  live-shown c k v l range p = record { handle = p.handle; inside = p.inside; named = rw here at p.named.named; undeleted = p.undeleted }
    where
      alive : Live z s p.named.chunk
      alive = record { numbered = p.named.numbered; is_live = p.named.is_live }

      e : EntryNo
      e = p.named.named.entry

      within : InRange z s.chunks p.named.chunk k
      within = rw p.named.named.keyed at (kept.tables.key-in-range p.named.chunk p.named.numbered p.named.is_live e (reached-unlinked z lim r p.named.chunk e p.named.numbered p.named.named.inside (rw p.named.named.names p.inside)))

      here : p.named.chunk ≡ c
      here = only z lim s kept k p.named.chunk alive within ∙ sym (only z lim s kept k c l range)

  pub live-absent : (c : ChunkNo) (k : ℕ) → Live z s c → InRange z s.chunks c k → (ShownBy z s c k → ⊥) → AbsentIn z s k
  live-absent c k l range gone v p = gone (live-shown c k v l range p)

  -- a handle that a live chunk names and that is deleted makes its key absent
  pub marked-absent : (h k : ℕ) → h < z.handles → LiveNamed z s.chunks s.entries h k → get_or s.marks h 0 ≢ 0 → AbsentIn z s k
  marked-absent h k i v deleted w p = deleted (ap (λ (h : ℕ). get_or s.marks h 0) (named-one z lim s kept (reached-unlinked z lim r) i p.inside v p.named) ∙ p.undeleted)

  -- the linked entry of a chunk that has the key names what the chunk names under it
  pub entry_named : (c : ChunkNo) (e : EntryNo) (h k : ℕ) → c.0 < z.chunks → Memᴰ e (linked z s c) → (entry z s c e).key ≡ k → h < z.handles → NamedIn z s.entries c h k → (entry z s c e).handle.0 ≡ h
  entry_named c e h k b m q i v = ap (λ (e : EntryNo). (entry z s c e).handle.0) same ∙ v.names
    where
      same : e ≡ v.entry
      same = links-one z s.entries c (chunk s c).used 0 (chunk s c).head e v.entry (linked z s c) (kept.tables.lists c b).links m (reached-unlinked z lim r c v.entry b v.inside (rw v.names i)) (q ∙ sym v.keyed)

  -- what a task that looks holds
  module _ (n : ℕ) where
    holds_at : (m : ℕ) → (task s n).stage ≡ m → m ≢ 0 → Holds z (task s n) (hold_at m)
    holds_at = holding z s.chunks s.entries (task s n) (kept.tasks n)

    stands : (m : ℕ) → eqb (task s n).stage m ≡ true → m ≢ 0 → Holds z (task s n) (hold_at m)
    stands m e = holds_at m (eqb-true (task s n).stage m e)

    pub holds-chunk : looks_in (task s n).stage ≡ true → (task s n).chunk.0 < z.chunks
    holds-chunk q = ltb-true _ _ (⊎_elim (λ e. (stands 2 e (omega arith)).chunk) (λ e. (stands 3 e (omega arith)).chunk) (or_cases _ _ q))

    pub holds-old : looks_old (task s n).stage ≡ true → (task s n).old.0 < z.handles
    holds-old q =
        ltb-true _ _ (
        ⊎_elim (λ i. ⊎_elim (λ e. (stands 4 e (omega arith)).old) (λ e. (stands 5 e (omega arith)).old) (or_cases _ _ i))
        (λ i. ⊎_elim (λ e. (stands 13 e (omega arith)).old) (λ j. ⊎_elim (λ e. (stands 14 e (omega arith)).old) (λ e. (stands 15 e (omega arith)).old) (or_cases _ _ j)) (or_cases _ _ i)) (or_cases _ _ q)
        )

-- only between swap in and release is a chunk retired
none-retired : (z : Sizes) (s : Tables) → Kept z s → s.directory.stage < to_index → (c : ChunkNo) → c.0 < z.chunks → (chunk s c).status ≢ retired
none-retired z s kept early c b = elim (ℕ_discrete s.directory.old.0 c.0) [ yes e ↦ is-old (w.old e).1 | no n1 ↦ elim (ℕ_discrete s.directory.new.0 c.0) [ yes e ↦ is-new (w.new n1 (inl e)).1 | no n2 ↦ elim (ℕ_discrete s.directory.second.0 c.0) [ yes e ↦ is-new (w.new n1 (inr e)).1 | no n3 ↦ ⊎_elim (λ e q. omega (arith, e, q)) (λ e q. omega (arith, e, q)) (w.other n1 n2 n3).1 ] ] ]
  where
    w : Roles s.directory c.0 (chunk s c)
    w = kept.tables.rebalancing.roles c b

    is-old : (chunk s c).status ≡ pick (leb to_index s.directory.stage) retired live → (chunk s c).status ≢ retired
    is-old e q = omega (arith, q, rw (lt-leb to_index s.directory.stage early) at e)

    is-new : (chunk s c).status ≡ pick (leb to_index s.directory.stage) live 2 → (chunk s c).status ≢ retired
    is-new e q = omega (arith, q, rw (lt-leb to_index s.directory.stage early) at e)

-- ---- over a call
module _ (z : Sizes) (lim : Limited z) (s : Tables) (r : Reached z s) where
  abbrev k₀ : Kept z s
  k₀ = reached-kept z lim r

  -- an undeleted handle that a live chunk names stays named so
  module _ (h k : ℕ) (i : h < z.handles) (m : get_or s.marks h 0 ≡ 0) (v : LiveNamed z s.chunks s.entries h k) where
    abbrev LiveIn : Tables → Type 0
    LiveIn x = LiveNamed z x.chunks x.entries h k

    does-live : (c : Call) → LiveIn (does z s c).tables
    unfolding does
    does-live (start n op k a f) = start-by z s LiveIn v n op k a f (λ _ _ _. v)
    does-live (step n) = step_by z s LiveIn v n (λ _. live_on z lim s k₀ n (reached-marked z lim r) h k i m v)
    does-live (begin j) = (begin-moves z lim s k₀ (reached-owned z lim r) (reached-held z lim r) (reached-unlinked z lim r) (reached-copied z lim r) j).0.to h k i v
    does-live rebalance = (rebalance-moves z lim s k₀ (reached-owned z lim r) (reached-held z lim r) (reached-unlinked z lim r) (reached-copied z lim r)).0.to h k i v

    call-live : (c : Call) → LiveIn (calls z s c).tables
    call-live c = subst (λ (o : Outcome). LiveIn o.tables) (sym (calls-does z lim s r c)) (does-live c)

  -- the value in a deleted handle that task n holds stays
  module _ (n : ℕ) (d : mark s (task s n).old ≡ 1) where
    abbrev ValueIn : Tables → Type 0
    ValueIn x = value x (task s n).old ≡ value s (task s n).old

    does-value : (c : Call) → ValueIn (does z s c).tables
    unfolding does
    does-value (start m op k a f) = start-by z s ValueIn refl m op k a f (λ _ _ _. refl)
    does-value (step m) = step_by z s ValueIn refl m (λ _. deleted-same z lim s k₀ (set s.tasks m (Stages.decide z s m (task s m)).task) _ m (reached-owned z lim r) (acts z lim s k₀ m) n d)
    does-value (begin k) = ap (λ (l : List ℕ). get_or l (task s n).old.0 0) (begin-tasks z s k).1
    does-value rebalance = ap (λ (l : List ℕ). get_or l (task s n).old.0 0) (rebalance-tasks z s).1

    call-value : (c : Call) → ValueIn (calls z s c).tables
    call-value c = subst (λ (o : Outcome). ValueIn o.tables) (sym (calls-does z lim s r c)) (does-value c)

  -- a retired chunk names what it named
  module _ (f : ChunkNo) (b : f.0 < z.chunks) (h k : ℕ) (i : h < z.handles) (v : NamedIn z s.entries f h k) where
    abbrev Stays : Tables → Type 0
    Stays x = Kept z x → (chunk_at x.chunks f).status ≡ retired → NamedIn z x.entries f h k

    abbrev StaysBy : Outcome → Type 0
    StaysBy o = Stays o.tables

    step_stays : (n : ℕ) → Stays (steps z s n).tables
    step_stays n = step_by z s Stays (λ _ _. v) n (λ _ _ q. kept-to z s.entries (s' z lim s k₀ n).entries f (rows q) i v)
      where
        not_there : (chunk_at (s' z lim s k₀ n).chunks f).status ≡ retired → (task s n).published ≡ 1 → f ≢ (task s n).chunk
        not_there q p e = omega (arith, sym (same-status z lim s k₀ n f) ∙ q, ap (λ (c : ChunkNo). (chunk s c).status) e ∙ ((reached-held z lim r).publisher-live n p).is_live)

        rows : (chunk_at (s' z lim s k₀ n).chunks f).status ≡ retired → (e : EntryNo) → e.0 < z.entries → RowKept z (entry_at z s.entries f e) (entry_at z (s' z lim s k₀ n).entries f e)
        rows q e j = frame z lim s k₀ (set s.tasks n (Stages.decide z s n (task s n)).task) _ n (acts z lim s k₀ n) (allowed z lim s k₀ n) f e (record { chunk = b; entry = j }) (not_there q)

    -- no copy and no release leaves one
    early : (x : Tables) (m : ℕ) → x.directory.stage ≡ m → m < to_index → {A : Type 0} → Kept z x → (chunk_at x.chunks f).status ≡ retired → A
    early x m e before kept q = absurd (none-retired z x kept (rw e before) f b q)

    release-stays : Stays (releases z s).tables
    release-stays = picked StaysBy (held_chunk s.tasks s.directory.old) (λ _ _ _. v) (λ _. early x idle (rw (clears-is z s.directory.old s z.entries (with_directory s to)) refl) (omega arith))
      where
        to : Directory
        to = at_rest s.directory

        x : Tables
        x = put_chunk (clears z s z.entries (with_directory s to) s.directory.old) s.directory.old empty_chunk

    does_stays : (c : Call) → Stays (does z s c).tables
    unfolding does rebalance_does
    does_stays (start n op k a g) = start-by z s Stays (λ _ _. v) n op k a g (λ _ _ _ _ _. v)
    does_stays (step n) = step_stays n
    does_stays (begin j) = picked StaysBy (eqb s.directory.stage idle) (λ _. picked StaysBy (ltb (unused_count s.chunks) 2) (λ _ _ _. v) (λ _ _ _. v)) (λ _ _ _. v)
    does_stays rebalance =
        picked Q (eqb s.directory.stage to_drain) (λ _. picked StaysBy (published_on s.tasks s.directory.old) (λ _ _ _. v) (λ _ _ _. v))
        (λ _. picked Q (eqb s.directory.stage to_copy) (λ _. early (copies z s).tables to_swap (copy-by z s (λ x. x.directory.stage ≡ to_swap) (λ c cs es _. refl)) (omega arith))
        (λ _. picked Q (eqb s.directory.stage to_swap) (λ _ _ _. swap-by z s (λ x. NamedIn z x.entries f h k) v (λ x e. e) (λ x e. e) (λ x e. e) (λ x e. e) (λ x d e. e))
        (λ _. picked Q (eqb s.directory.stage to_index) (λ _ _ _. v)
        (λ _. picked Q (eqb s.directory.stage to_release) (λ _. release-stays) (λ _ _ _. v)))))
      where
        Q : (Sizes → Tables → Outcome) → Type 0
        Q g = StaysBy (g z s)

    call_stays : (c : Call) → Stays (calls z s c).tables
    call_stays c = subst StaysBy (sym (calls-does z lim s r c)) (does_stays c)

  -- ---- a call that leaves the task's row: where it then shows none it did so before, or the key is absent now
  module _ (c : Call) (n : ℕ) where
    abbrev s₁ : Tables
    s₁ = (calls z s c).tables

    r₁ : Reached z s₁
    r₁ = Reached.called r c

    k₁ : Kept z s₁
    k₁ = reached-kept z lim r₁

    abbrev t : Task
    t = task s n

    -- a live chunk's name of an undeleted handle stays, so where it is deleted now the key is absent
    deleted : (h k : ℕ) → h < z.handles → get_or s.marks h 0 ≡ 0 → LiveNamed z s.chunks s.entries h k → get_or s₁.marks h 0 ≢ 0 → AbsentIn z s₁ k
    deleted h k i m v = marked-absent z lim s₁ r₁ h k i (call-live h k i m v c)

    old-back : t.old.0 < z.handles → mark s₁ t.old ≢ 0 → (mark s t.old ≢ 0) ⊎ AbsentIn z s₁ t.key
    old-back i d = elim (ℕ_discrete (mark s t.old) 0) [ yes e ↦ inr (deleted t.old.0 t.key i e ((reached-lively z lim r).old-live n i e) d) | no ne ↦ inl ne ]

    -- the value in an old handle that is held past 4 and 5 stays
    pub value_stays : t.stage ≢ 4 → t.stage ≢ 5 → value s₁ t.old ≡ value s t.old
    value_stays past-4 past-5 =
        elim (dec_lt t.old.0 z.handles) [
          | yes i ↦ call-value n ((reached-marked z lim r).old-deleted n past-4 past-5 i) c
          | no out ↦ get_or-eq_default s₁.values 0 {n = t.old.0} (rw k₁.values-sized (omega (arith, out))) ∙ sym (get_or-eq_default s.values 0 {n = t.old.0} (rw k₀.values-sized (omega (arith, out))))
        ]

    -- what a retired chunk showed it shows, unless the key is absent now
    shown-on : (f : ChunkNo) (k : ℕ) → f.0 < z.chunks → (chunk s₁ f).status ≡ retired → ShownBy z s f k → ShownBy z s₁ f k ⊎ AbsentIn z s₁ k
    shown-on f k b q v =
        elim (ℕ_discrete (get_or s₁.marks v.handle 0) 0) [
          | yes e ↦ inl (record { handle = v.handle; inside = v.inside; named = call_stays f b v.handle k v.inside v.named c k₁ q; undeleted = e })
          | no ne ↦ inr (deleted v.handle k v.inside v.undeleted ((reached-lively z lim r).undeleted-live v.handle k v.inside v.undeleted (under z s.entries f b v.named)) ne)
        ]

    -- what a chunk in use showed it shows where the key is present now
    pub shown-stays : (f : ChunkNo) (k v : ℕ) → f.0 < z.chunks → ((chunk s₁ f).status ≡ retired) ⊎ (((chunk s₁ f).status ≡ live) × InRange z s₁.chunks f k) → ShownBy z s f k → PresentBy z s₁ k v → ShownBy z s₁ f k
    shown-stays f k v b alive w p = ⊎_elim (λ q. ⊎_elim (λ y. y) (λ a. absurd (a v p)) (shown-on f k b q w)) (λ q. live-shown z lim s₁ r₁ f k v (record { numbered = b; is_live = q.0 }) q.1 p) alive

    pub gone-back : task s₁ n ≡ t → Gone z s₁ t → Gone z s t ⊎ AbsentIn z s₁ t.key
    gone-back same (Gone.old q d) = ⊎_map (λ ne. Gone.old q ne) (λ a. a) (old-back (holds-old z lim s r n q) d)
    gone-back same (Gone.chunk q gone) = ⊎_elim (λ w. by-present w (present_at z s₁ t.key) refl) (λ w. inr (live-absent z lim s₁ r₁ t.chunk t.key (record { numbered = b; is_live = w.0 }) (w.1 not-down) gone)) (subst (λ (y : Task). y.chunk.0 < z.chunks → ChunkOfKey z s₁.chunks y.operation y.chunk y.key) same (k₁.tasks n).chunk-of-key b)
      where
        b : t.chunk.0 < z.chunks
        b = holds-chunk z lim s r n q

        -- a scan down does not look for its key
        not-down : t.operation ≢ scan_down
        not-down e = absurd (false≢true (ap looks_in (sym (eqb-true t.stage 23 (ap (λ (op : ℕ). fits_operation op t.stage) (sym e) ∙ ((k₀.tasks n).holds (busy q)).fits))) ∙ q))
          where
            busy : looks_in t.stage ≡ true → t.stage ≢ 0
            busy q e = false≢true (ap looks_in (sym e) ∙ q)

        by-present : (chunk s₁ t.chunk).status ≡ retired → (o : Option ℕ) → present_at z s₁ t.key ≡ o → Gone z s t ⊎ AbsentIn z s₁ t.key
        by-present w none e = inr (λ v p. none-ne-some v (sym e ∙ shown-at z lim s₁ k₁ (reached-unlinked z lim r₁) t.key v p))
        by-present w (some v) e = inl (Gone.chunk q (λ shown. ⊎_elim gone (λ a. a v (looked-up z lim s₁ k₁ (reached-unlinked z lim r₁) t.key v e)) (shown-on t.chunk t.key b w shown)))
