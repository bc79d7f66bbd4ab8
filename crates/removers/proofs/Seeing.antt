-- A step of a remove past its mark: it goes on while a live chunk names its handle, and sees the entry that does.
use Prim.Native.Nat.{ℕ, ◌+◌, ◌≤◌, ◌<◌}
use mathlib.Core.Path.{◌≡◌, refl, sym, ap, ◌∙◌, subst}
use mathlib.Core.Logic.{◌≢◌}
use mathlib.Core.List.{Memᴰ}
use native.Mathlib.Decide.{ℕ_discrete}
use native.Mathlib.Omega.{arith}
use lib.Dec.{eqb}
use borrow.Author.Tests.{ltb-true, ltb-false, eqb-true, eqb-false, eq-eqb}
use Rattle.rules.specs.declared.Sizes.{Sizes}
use Rattle.rules.specs.declared.Task.{Task}
use Rattle.rules.specs.declared.ChunkNo.{ChunkNo}
use Rattle.rules.specs.declared.EntryNo.{EntryNo}
use Rattle.rules.specs.declared.HandleNo.{HandleNo}
use Rattle.rules.specs.declared.Decision.{Decision}
use Rattle.rules.specs.Words.{NONE, no_handle}
use Rattle.rules.specs.Tables.{Tables, idle_task, chunk, entry, task}
use Rattle.rules.specs.Walks.{locate, find, linked}
use Rattle.rules.specs.Stages
use Rattle.rules.specs.Shape.{Hold}
use Rattle.laws.proofs.EachStage.{at_stage}
use Rattle.laws.proofs.Tests.{picked}
use Rattle.views.proofs.Rows.{entry-put}
use Rattle.views.proofs.Entries.{links-one}
use Rattle.statements.specs.Sound.{Limited}
use Rattle.facts.specs.Facts.{EntryHeld, Holds, hold_at, Kept}
use Rattle.facts.specs.Reached.{Reached}
use Rattle.facts.proofs.Covering.{only}
use Rattle.facts.proofs.Going.{found-held, lacks-key}
use Rattle.facts.proofs.Numbers.{holding}
use Rattle.facts.proofs.Reaching.{reached-kept}
use Rattle.handles.specs.Owned.{Row}
use Rattle.handles.proofs.Keys.{reached-owned}
use Rattle.holds.specs.Unlinked.{UnlinkedNone}
use Rattle.holds.proofs.Unlinked.{reached-unlinked}
use Rattle.simulation.specs.Named.{NamedIn, LiveNamed}
use Rattle.simulation.proofs.Rows.{RowKept}
use Rattle.simulation.proofs.Copied.{named-like}
use Rattle.simulation.proofs.Living.{under}
use Rattle.removers.specs.Removers.{NamedLive}
use Rattle.removers.proofs.Late.{decides-late}
use Rattle.removers.proofs.Naming.{live-was, row_on}

-- remover-sees and remover-done, of one task's row
pub record Sees (z : Sizes) (s : Tables) (y : Task) : Type 0 where
  pub chunk : 17 ≤ y.stage → y.stage ≤ 20 → NamedLive z s y.old.0 → NamedIn z s.entries y.chunk y.old.0 y.key
  pub entry : 18 ≤ y.stage → y.stage ≤ 20 → NamedLive z s y.old.0 → (entry z s y.chunk y.entry).handle.0 ≡ y.old.0
  pub done : y.stage ≡ 21 → NamedLive z s y.old.0 → ⊥

-- a row at another stage has nothing to see
pub sees-none : (z : Sizes) (s : Tables) (y : Task) → (17 ≤ y.stage → y.stage ≤ 21 → ⊥) → Sees z s y
sees-none z s y far = record { chunk = λ a b. absurd (far a (omega arith)); entry = λ a b. absurd (far (omega arith) (omega arith)); done = λ e. absurd (far (omega arith) (omega arith)) }

-- at the number, or past it
up-from : (P : Type 0) (n m : ℕ) → m ≤ n → (n ≡ m → P) → (m + 1 ≤ n → P) → P
up-from P n m a here on = elim (ℕ_discrete n m) [ yes e ↦ here e | no ne ↦ on (more ne) ]
  where
    more : n ≢ m → m + 1 ≤ n
    more ne = omega (arith, ne)

-- by the stages of a remove past its mark
pub by-stage : (P : Type 0) (n : ℕ) → 16 ≤ n → n ≤ 21 → (n ≡ 16 → P) → (n ≡ 17 → P) → (n ≡ 18 → P) → (n ≡ 19 → P) → (n ≡ 20 → P) → (n ≡ 21 → P) → P
by-stage P n a b f16 f17 f18 f19 f20 f21 = up-from P n 16 a f16 (λ c. up-from P n 17 c f17 (λ c. up-from P n 18 c f18 (λ c. up-from P n 19 c f19 (λ c. up-from P n 20 c f20 (λ c. f21 (omega arith))))))

-- what a remove past its mark holds
pub record Past (z : Sizes) (t : Task) : Type 0 where
  pub old : t.old.0 < z.handles
  pub chunk : 17 ≤ t.stage → t.chunk.0 < z.chunks
  pub entry : 18 ≤ t.stage → t.entry.0 < z.entries

module _ (z : Sizes) (lim : Limited z) (s : Tables) (r : Reached z s) where
  abbrev kept : Kept z s
  kept = reached-kept z lim r

  un : UnlinkedNone z s.chunks s.entries
  un = reached-unlinked z lim r

  pub past : (n : ℕ) → 16 ≤ (task s n).stage → (task s n).stage ≤ 21 → Past z (task s n)
  past n a b =
      by-stage (Past z t) t.stage a b
      (λ e. record { old = ltb-true _ _ (holds_at 16 e (omega arith)).old; chunk = λ c. absurd (before c e); entry = λ c. absurd (before (omega arith) e) })
      (λ e. let H = holds_at 17 e (omega arith) in record { old = ltb-true _ _ H.old; chunk = λ _. ltb-true _ _ H.chunk; entry = λ c. absurd (not_yet c e) })
      (λ e. all (hold_at 18) (holds_at 18 e (omega arith)) refl refl refl) (λ e. all (hold_at 19) (holds_at 19 e (omega arith)) refl refl refl) (λ e. all (hold_at 20) (holds_at 20 e (omega arith)) refl refl refl) (λ e. all (hold_at 21) (holds_at 21 e (omega arith)) refl refl refl)
    where
      t : Task
      t = task s n

      holds_at : (m : ℕ) → t.stage ≡ m → m ≢ 0 → Holds z t (hold_at m)
      holds_at = holding z s.chunks s.entries t (kept.tasks n)

      all : (h : Hold) → Holds z t h → h.old ≡ 3 → h.chunk ≡ 1 → h.entry ≡ 1 → Past z t
      all h H o c e = record { old = ltb-true _ _ (rw o at H.old); chunk = λ _. ltb-true _ _ (rw c at H.chunk); entry = λ _. ltb-true _ _ (rw e at H.entry) }

      before : 17 ≤ t.stage → t.stage ≡ 16 → ⊥
      before c e = omega arith

      not_yet : 18 ≤ t.stage → t.stage ≡ 17 → ⊥
      not_yet c e = omega arith

  -- ---- a step
  module _ (n : ℕ) where
    abbrev t : Task
    t = task s n

    abbrev x : Decision
    x = Stages.decide z s n t

    abbrev after : Decision → Tables
    after y = Stages.apply z (Stages.put_own z s n y.task) y.write

    abbrev s' : Tables
    s' = after x

    -- no task's old handle is the one that the step may swap in
    not_new : (m : ℕ) → t.new.0 < z.handles → t.swapped ≡ 0 → (task s m).old.0 ≢ t.new.0
    not_new m i q = ((reached-owned z lim r).new-own n i q).not-old m

    was-named : (m : ℕ) → (task s m).old.0 < z.handles → NamedLive z s' (task s m).old.0 → NamedLive z s (task s m).old.0
    was-named m i v = (v.0, live-was z lim s r n (task s m).old.0 i (not_new m) v.0 v.1)

    row_stays : (m : ℕ) → (task s m).old.0 < z.handles → NamedLive z s' (task s m).old.0 → (c : ChunkNo) (e : EntryNo) → Row z c e → (entry z s c e).handle.0 ≡ (task s m).old.0 → RowKept z (entry z s c e) (entry z s' c e)
    row_stays m i v = row_on z lim s r n (task s m).old.0 i (not_new m) v.0 v.1

    -- a row that the step leaves sees what it saw
    pub sees-on : (m : ℕ) → Sees z s (task s m) → Sees z s' (task s m)
    sees-on m u =
        record {
          chunk = λ a b v. let p = past m (omega arith) (omega arith) in named-like z s.entries s'.entries (task s m).chunk (λ e i q. let k = row_stays m p.old v (task s m).chunk e (record { chunk = p.chunk a; entry = i }) q in (k.0, k.1 (rw q p.old))) (u.chunk a b (was-named m p.old v));
          entry = λ a b v. let p = past m (omega arith) (omega arith) in let q = u.entry a b (was-named m p.old v) in ap (λ (h : HandleNo). h.0) (row_stays m p.old v (task s m).chunk (task s m).entry (record { chunk = p.chunk (omega arith); entry = p.entry a }) q).0 ∙ q;
          done = λ e v. u.done e (was-named m (past m (omega arith) (omega arith)).old v);
        }

    -- ---- the task's own row
    module _ (u : Sees z s t) where
      -- the live entry that names the handle is of the located chunk, under the key
      in-located : t.old.0 < z.handles → NamedLive z s t.old.0 → NamedIn z s.entries (locate z s t.key) t.old.0 t.key
      in-located i v = subst (λ (j : ℕ). NamedIn z s.entries (locate z s j) t.old.0 j) keys (subst (λ (c : ChunkNo). NamedIn z s.entries c t.old.0 k) is-located w.named)
        where
          k : ℕ
          k = v.0

          w : LiveNamed z s.chunks s.entries t.old.0 k
          w = v.1

          keys : k ≡ t.key
          keys = (reached-owned z lim r).old-key n k i (under z s.entries w.chunk w.numbered w.named)

          is-located : w.chunk ≡ locate z s k
          is-located = only z lim s kept k w.chunk (record { numbered = w.numbered; is_live = w.is_live }) (rw w.named.keyed at (kept.tables.key-in-range w.chunk w.numbered w.is_live w.named.entry (un w.chunk w.named.entry w.numbered w.named.inside (rw w.named.names i))))

      module _ (p : Past z t) where
        -- an entry of the held chunk that names the handle under the key is linked
        in_list : (c : t.chunk.0 < z.chunks) (w : NamedIn z s.entries t.chunk t.old.0 t.key) → Memᴰ w.entry (linked z s t.chunk)
        in_list c w = un t.chunk w.entry c w.inside (rw w.names p.old)

        found : (c : t.chunk.0 < z.chunks) → NamedIn z s.entries t.chunk t.old.0 t.key → (find z s t.chunk t.key).0 < z.entries → (entry z s t.chunk (find z s t.chunk t.key)).handle.0 ≡ t.old.0
        found c w i = ap (λ (e : EntryNo). (entry z s t.chunk e).handle.0) same ∙ w.names
          where
            hit : EntryHeld z s.chunks s.entries t.chunk (find z s t.chunk t.key) t.key 18
            hit = found-held z lim s kept.tables t (kept.tasks n) t.chunk c t.key 18 i

            same : find z s t.chunk t.key ≡ w.entry
            same = links-one z s.entries t.chunk (chunk s t.chunk).used 0 (chunk s t.chunk).head (find z s t.chunk t.key) w.entry (linked z s t.chunk) (kept.tables.lists t.chunk c).links (hit.linked (omega arith)) (in_list c w) (hit.keyed ∙ sym w.keyed)

        missed : (c : t.chunk.0 < z.chunks) → NamedIn z s.entries t.chunk t.old.0 t.key → z.entries ≤ (find z s t.chunk t.key).0 → ⊥
        missed c w o = lacks-key z lim s kept.tables t (kept.tasks n) t.chunk c t.key o w.entry (in_list c w) w.keyed

        -- ---- it goes on while a live chunk names its handle
        abbrev GoesOn : Decision → Type 0
        GoesOn y = (y.task.old.0 ≡ t.old.0) × (16 ≤ y.task.stage) × (y.task.stage ≤ 21)

        pub goes_on : 16 ≤ t.stage → t.stage ≤ 21 → NamedLive z s t.old.0 → GoesOn x
        unfolding Stages.stage_does
        goes_on a b v =
            by-stage (GoesOn x) t.stage a b
            (λ e. at_stage z s n t GoesOn 16 e (refl, omega arith, omega arith))
            (λ e. at_stage z s n t GoesOn 17 e (picked GoesOn (Stages.has_key z s t) (λ _. (refl, omega arith, omega arith)) (λ o. absurd (missed (p.chunk (omega arith)) (u.chunk (omega arith) (omega arith) v) (ltb-false _ _ o)))))
            (λ e. at_stage z s n t GoesOn 18 e (picked GoesOn (eqb (entry z s t.chunk t.entry).handle.0 t.old.0) (λ _. (refl, omega arith, omega arith)) (λ o. absurd (eqb-false _ _ o (u.entry (omega arith) (omega arith) v)))))
            (λ e. at_stage z s n t GoesOn 19 e (picked GoesOn (Stages.may_publish z s t) (λ _. (refl, omega arith, omega arith)) (λ _. picked GoesOn (eqb t.stage 19) (λ _. (refl, omega arith, omega arith)) (λ o. absurd (eqb-false _ _ o e)))))
            (λ e. at_stage z s n t GoesOn 20 e (picked GoesOn (Stages.still_names z s t) (λ _. (refl, omega arith, omega arith)) (λ _. (refl, omega arith, omega arith))))
            (λ e. absurd (u.done e v))

        -- ---- and sees the entry
        abbrev SeesThen : Decision → Type 0
        SeesThen y = Sees z (after y) y.task

        sees-16 : t.stage ≡ 16 → SeesThen x
        unfolding Stages.stage_does
        sees-16 e = at_stage z s n t SeesThen 16 e (record { chunk = λ _ _ v. in-located p.old v; entry = λ a _ _. omega arith; done = λ q _. omega arith })

        sees-17 : t.stage ≡ 17 → SeesThen x
        unfolding Stages.stage_does
        sees-17 e = at_stage z s n t SeesThen 17 e (picked SeesThen (Stages.has_key z s t) (λ i. record { chunk = λ _ _ v. u.chunk (omega arith) (omega arith) v; entry = λ _ _ v. found (p.chunk (omega arith)) (u.chunk (omega arith) (omega arith) v) (ltb-true _ _ i); done = λ q _. omega arith }) (λ _. sees-none z _ idle_task (λ a _. omega arith)))

        sees-18 : t.stage ≡ 18 → SeesThen x
        unfolding Stages.stage_does
        sees-18 e = at_stage z s n t SeesThen 18 e (picked SeesThen (eqb (entry z s t.chunk t.entry).handle.0 t.old.0) (λ q. record { chunk = λ _ _ v. u.chunk (omega arith) (omega arith) v; entry = λ _ _ _. eqb-true _ _ q; done = λ q _. omega arith }) (λ _. sees-none z _ idle_task (λ a _. omega arith)))

        sees-19 : t.stage ≡ 19 → SeesThen x
        unfolding Stages.stage_does
        sees-19 e =
            at_stage z s n t SeesThen 19 e (picked SeesThen (Stages.may_publish z s t) (λ _. record { chunk = λ _ _ v. u.chunk (omega arith) (omega arith) v; entry = λ _ _ v. u.entry (omega arith) (omega arith) v; done = λ q _. omega arith })
            (λ _. picked SeesThen (eqb t.stage 19) (λ _. sees-none z _ _ (λ a _. omega arith)) (λ _. sees-none z _ _ (λ a _. omega arith))))

        -- the swap to none leaves no live chunk that names the handle
        sees-20 : t.stage ≡ 20 → SeesThen x
        unfolding Stages.stage_does
        sees-20 e = record { chunk = λ _ b. absurd (over b); entry = λ _ b. absurd (over b); done = λ _ v. gone (subst (λ (h : HandleNo). NamedLive z s' h.0) row.1 v) }
          where
            row : (x.task.stage ≡ 21) × (x.task.old ≡ t.old)
            row = at_stage z s n t (λ (y : Decision). (y.task.stage ≡ 21) × (y.task.old ≡ t.old)) 20 e (picked (λ (y : Decision). (y.task.stage ≡ 21) × (y.task.old ≡ t.old)) (Stages.still_names z s t) (λ _. (omega arith, refl)) (λ _. (omega arith, refl)))

            over : x.task.stage ≤ 20 → ⊥
            over b = omega (arith, row.0)

            at : Row z t.chunk t.entry
            at = record { chunk = p.chunk (omega arith); entry = p.entry (omega arith) }

            dropped : (entry z s t.chunk t.entry).handle.0 ≡ t.old.0 → (entry z s' t.chunk t.entry).handle.0 ≡ NONE
            dropped q = at_stage z s n t (λ (y : Decision). (entry z (after y) t.chunk t.entry).handle.0 ≡ NONE) 20 e (rw (eq-eqb _ _ q) (entry-put z s.entries t.chunk t.entry (Stages.with_handle (entry z s t.chunk t.entry) no_handle) t.chunk t.entry (λ y. y.handle.0 ≡ NONE) kept.tables.entries-sized at.chunk at.entry at.entry (λ _ _. refl) (λ ne. absurd (ne refl refl))))

            gone : NamedLive z s' t.old.0 → ⊥
            gone v = omega (arith, lim.handles, p.old, q, dropped q, ap (λ (h : HandleNo). h.0) (row_stays n p.old v t.chunk t.entry at q).0)
              where
                q : (entry z s t.chunk t.entry).handle.0 ≡ t.old.0
                q = u.entry (omega arith) (omega arith) (was-named n p.old v)

      pub sees-own : Sees z s' x.task
      sees-own = record { chunk = λ a b. (go a (omega arith)).chunk a b; entry = λ a b. (go (omega arith) (omega arith)).entry a b; done = λ e. (go (omega arith) (omega arith)).done e }
        where
          go : 17 ≤ x.task.stage → x.task.stage ≤ 21 → Sees z s' x.task
          go a b = by-stage (Sees z s' x.task) t.stage at.0 (omega (arith, at.1)) (sees-16 p) (sees-17 p) (sees-18 p) (sees-19 p) (sees-20 p) (λ e. absurd (over e))
            where
              at : (16 ≤ t.stage) × (t.stage ≤ 20)
              at = (decides-late z s t n).from a b

              p : Past z t
              p = past n at.0 (omega (arith, at.1))

              over : t.stage ≡ 21 → ⊥
              over e = omega (arith, at.1)
