-- Every call keeps publishers on live chunks, and off the old one once it is drained.
use Prim.Native.Nat.{ℕ, zero, suc, ◌≤◌, ◌<◌}
use mathlib.Core.Path.{◌≡◌, refl, sym, ap, ◌∙◌}
use mathlib.Core.Logic.{◌⊎◌, inl, inr, ⊎_elim, ◌≢◌}
use mathlib.Core.Bool.{Bool, false, false≢true}
use mathlib.Core.List.{List, [], ◌∷◌}
use native.Mathlib.Decide.{ℕ_discrete}
use native.Mathlib.Omega.{arith}
use lib.Dec.{eqb, ltb, leb}
use lib.ListN.{get_or, set}
use borrow.Author.Tests.{eqb-true, eq-eqb}
use Rattle.rules.specs.declared.Sizes.{Sizes}
use Rattle.rules.specs.declared.Directory.{Directory}
use Rattle.rules.specs.declared.Task.{Task}
use Rattle.rules.specs.declared.Chunk.{Chunk}
use Rattle.rules.specs.declared.ChunkNo.{ChunkNo}
use Rattle.rules.specs.declared.Decision.{Decision}
use Rattle.rules.specs.Words.{◌and◌, chunk_no, unused, live, retired, idle, to_drain, to_copy, to_swap, to_index, to_release}
use Rattle.rules.specs.Tables.{Tables, idle_task, empty_chunk, chunk_at, chunk, task, put_task, with_directory}
use Rattle.rules.specs.Walks.{locate}
use Rattle.rules.specs.Stages
use Rattle.rules.specs.Rebalance.{Outcome, unused_count, published_on, held_chunk, frozen_of, begins, drains, copies, swaps_in, indexes, releases, rebalance_does, with_next_chunk, at_rest}
use Rattle.rules.specs.Calls.{Call, fresh, started, starts, steps, does}
use Rattle.rules.specs.Calls.Call.{start, step, begin, rebalance}
use Rattle.laws.proofs.Tests.{picked}
use Rattle.views.proofs.Rows.{chunk-either}
use Rattle.views.proofs.Copies.{clears-is}
use Rattle.statements.specs.Sound.{Limited}
use Rattle.facts.specs.Facts.{Roles, Rebalancing, Kept}
use Rattle.facts.specs.Reached.{Reached}
use Rattle.facts.proofs.Applying.{Applied, applied_by}
use Rattle.facts.proofs.Ends.{decides-fine}
use Rattle.facts.proofs.Fresh.{get_or-all}
use Rattle.facts.specs.Swapped.{before_old}
use Rattle.facts.proofs.SwapIn.{swap-by}
use Rattle.facts.proofs.Copying
use Rattle.facts.proofs.Copying.{copy-by}
use Rattle.facts.proofs.Reaching.{call_by, reached-kept}
use Rattle.facts.proofs.Tasks.{start-by, step_by}
use Rattle.handles.proofs.Owning.{put-tasks}
use Rattle.handles.proofs.Handing.{swap-tasks}
use Rattle.holds.specs.Held.{PublisherLive, Held}
use Rattle.holds.proofs.Publishing.{decides-publish}

-- a live chunk stays live where what is written to it is
live-put : (cs : List Chunk) (d : ChunkNo) (x : Chunk) (c : ChunkNo) → (c ≡ d → x.status ≡ live) → (chunk_at cs c).status ≡ live → (chunk_at (set cs d.0 x) c).status ≡ live
live-put cs d x c = chunk-either cs d x c (λ y. y.status ≡ live)

-- no publisher on the chunk
none-published : (ts : List Task) (c : ChunkNo) (n : ℕ) → published_on ts c ≡ false → (get_or ts n idle_task).published ≡ 1 → (get_or ts n idle_task).chunk ≢ c
unfolding published_on
none-published [] c n h p e = zero_one p
  where
    zero_one : ◌≡◌ {A = ℕ} 0 1 → ⊥
    zero_one q = omega arith
none-published (t ∷ ts) c zero h p e = false≢true (sym h ∙ rw (eq-eqb t.published 1 p, eq-eqb t.chunk.0 c.0 (ap (λ (c : ChunkNo). c.0) e)))
none-published (t ∷ ts) c (suc n) h p e = none-published ts c n (picked (λ (b : Bool). b ≡ false → published_on ts c ≡ false) (eqb t.published 1 and eqb t.chunk.0 c.0) (λ _ q. absurd (false≢true (sym q))) (λ _ q. q) h) p e

module _ (z : Sizes) (lim : Limited z) (s : Tables) (kept : Kept z s) (held : Held z s) where
  q : Rebalancing z s.directory s.chunks
  q = kept.tables.rebalancing

  -- a chunk in use that is not frozen is live, and not the old one
  unfrozen : (c : ChunkNo) → c.0 < z.chunks → (chunk s c).frozen ≡ 0 → ((chunk s c).status ≢ retired) × (c ≢ s.directory.old)
  unfrozen c b f = (by-role, not-old)
    where
      r : Roles s.directory c.0 (chunk s c)
      r = q.roles c b

      zero_one : ◌≡◌ {A = ℕ} 0 1 → ⊥
      zero_one e = omega arith

      not-old : c ≢ s.directory.old
      not-old e = zero_one (sym f ∙ (r.old (ap (λ (c : ChunkNo). c.0) (sym e))).0)

      old-ne : s.directory.old.0 ≢ c.0
      old-ne e = not-old (sym (ap chunk_no e))

      of-new : (s.directory.new.0 ≡ c.0) ⊎ (s.directory.second.0 ≡ c.0) → (chunk s c).status ≢ retired
      of-new o e = picked (λ (n : ℕ). n ≡ retired → ⊥) (leb to_index s.directory.stage) (λ _ w. omega arith) (λ _ w. omega arith) (sym (r.new old-ne o).1 ∙ e)

      by-role : (chunk s c).status ≢ retired
      by-role e = elim (ℕ_discrete s.directory.new.0 c.0) [ yes i ↦ of-new (inl i) e | no n1 ↦ elim (ℕ_discrete s.directory.second.0 c.0) [ yes i ↦ of-new (inr i) e | no n2 ↦ ⊎_elim (λ (w : (chunk s c).status ≡ unused). three (sym w ∙ e)) (λ (w : (chunk s c).status ≡ live). one (sym w ∙ e)) (r.other old-ne n1 n2).1 ] ]
        where
          three : ◌≡◌ {A = ℕ} 0 3 → ⊥
          three w = omega arith

          one : ◌≡◌ {A = ℕ} 1 3 → ⊥
          one w = omega arith

  -- the tables after a call that leaves the tasks
  left : (x : Tables) → x.tasks ≡ s.tasks → ((t : Task) → PublisherLive z s.directory s.chunks t → t.published ≡ 1 → (n : ℕ) → task s n ≡ t → PublisherLive z x.directory x.chunks t) → Held z x
  left x e f = record { publisher-live = λ n p. let row = ap (λ (ts : List Task). get_or ts n idle_task) e in rw row (f (task s n) (held.publisher-live n (rw row at p)) (rw row at p) n refl) }

  -- ---- a step and a start
  one-row : (x : Tables) (n : ℕ) (t : Task) → n < z.tasks → x.tasks ≡ set s.tasks n t → (t.published ≡ 1 → PublisherLive z x.directory x.chunks t) →
      ((m : ℕ) → (task s m).published ≡ 1 → PublisherLive z x.directory x.chunks (task s m)) → Held z x
  one-row x n t b e own others = record { publisher-live = λ m. go m (put-tasks z s.tasks n t (rw kept.tasks-sized b) m) }
    where
      go : (m : ℕ) → ((m ≡ n) × (get_or (set s.tasks n t) m idle_task ≡ t)) ⊎ ((m ≢ n) × (get_or (set s.tasks n t) m idle_task ≡ task s m)) → (task x m).published ≡ 1 → PublisherLive z x.directory x.chunks (task x m)
      go m w = rw (ap (λ (ts : List Task). get_or ts m idle_task) e) (⊎_elim (λ (o : (m ≡ n) × (get_or (set s.tasks n t) m idle_task ≡ t)). rw o.1 own) (λ (o : (m ≢ n) × (get_or (set s.tasks n t) m idle_task ≡ task s m)). rw o.1 (others m)) w)

  step-done : (n : ℕ) → n < z.tasks → Held z (Stages.apply z (Stages.put_own z s n (Stages.decide z s n (task s n)).task) (Stages.decide z s n (task s n)).write)
  step-done n b = one-row s' n x.task b a.tasks own (λ m p. moved (task s m) (held.publisher-live m p))
    where
      x : Decision
      x = Stages.decide z s n (task s n)

      s₁ : Tables
      s₁ = Stages.put_own z s n x.task

      s' : Tables
      s' = Stages.apply z s₁ x.write

      a : Applied z s₁ s'
      a = applied_by z lim s₁ kept.tables x.write (decides-fine z lim s kept.tables (task s n) (kept.tasks n) n).allowed

      moved : (t : Task) → PublisherLive z s.directory s.chunks t → PublisherLive z s'.directory s'.chunks t
      moved t p = record { numbered = p.numbered; is_live = a.written.same.status t.chunk ∙ p.is_live; drains = rw a.directory p.drains }

      own : x.task.published ≡ 1 → PublisherLive z s'.directory s'.chunks x.task
      own p = moved x.task (record { numbered = rw w.0 at.numbered; is_live = rw w.0 at.is_live; drains = rw w.0 at.drains })
        where
          w : (x.task.chunk ≡ (task s n).chunk) × (((task s n).published ≡ 1) ⊎ (((chunk s (task s n).chunk).frozen ≡ 0) × ((task s n).chunk.0 < z.chunks)))
          w = (decides-publish z s (task s n) (kept.tasks n) n).publishes p

          newly : ((chunk s (task s n).chunk).frozen ≡ 0) × ((task s n).chunk.0 < z.chunks) → PublisherLive z s.directory s.chunks (task s n)
          newly u = record { numbered = u.1; is_live = ⊎_elim (λ r. absurd ((unfrozen (task s n).chunk u.1 u.0).0 r)) (λ r. r.0) ((kept.tasks n).chunk-of-key u.1); drains = λ _. (unfrozen (task s n).chunk u.1 u.0).1 }

          at : PublisherLive z s.directory s.chunks (task s n)
          at = ⊎_elim (λ r. held.publisher-live n r) newly w.1

  step-held : (n : ℕ) → Held z (steps z s n).tables
  step-held n = step_by z s (Held z) held n (λ b. step-done n b)

  start-held : (n op k a f : ℕ) → Held z (starts z s n op k a f).tables
  start-held n op k a f = start-by z s (Held z) held n op k a f (λ b _ _. one-row (put_task s n (started z s op k a f)) n (started z s op k a f) b refl (λ p. absurd (never p)) held.publisher-live)
    where
      never : ◌≡◌ {A = ℕ} 0 1 → ⊥
      never p = omega arith

  -- ---- the rebalance
  begin-held : (k : ℕ) → Held z (begins z s k).tables
  begin-held k =
      picked (λ (o : Outcome). Held z o.tables) (eqb s.directory.stage idle)
      (λ _. picked (λ (o : Outcome). Held z o.tables) (ltb (unused_count s.chunks) 2) (λ _. held)
      (λ _. left _ refl (λ t p _ n _. record { numbered = p.numbered; is_live = live-put s.chunks (locate z s k) (frozen_of (chunk s (locate z s k))) t.chunk (λ e. ap (λ (c : ChunkNo). (chunk s c).status) (sym e) ∙ p.is_live) p.is_live; drains = λ le. absurd (early le) })))
      (λ _. held)
    where
      early : 2 ≤ 1 → ⊥
      early le = omega arith

  drain-held : Held z (drains z s).tables
  drain-held =
      picked (λ (o : Outcome). Held z o.tables) (published_on s.tasks s.directory.old) (λ _. held)
      (λ none. left _ refl (λ t p w n e. record { numbered = p.numbered; is_live = p.is_live; drains = λ _ i. none-published s.tasks s.directory.old n none (ap (λ (t : Task). t.published) e ∙ w) (ap (λ (t : Task). t.chunk) e ∙ i) }))

  copy-held : s.directory.stage ≡ to_copy → Held z (copies z s).tables
  copy-held stage = copy-by z s (Held z) (λ c cs es same. left _ refl (λ t p _ n _. record { numbered = p.numbered; is_live = ap (λ (y : Chunk). y.status) (same t.chunk (unlike p (Copying.a-free z lim s kept stage).1) (unlike p (Copying.b-free z lim s kept stage).1)) ∙ p.is_live; drains = λ _. p.drains (omega arith) }))
    where
      unlike : {t : Task} {d : ChunkNo} → PublisherLive z s.directory s.chunks t → (chunk s d).status ≡ unused → t.chunk ≢ d
      unlike p y e = omega (arith, p.is_live, y, ap (λ (c : ChunkNo). (chunk s c).status) e)

  release-held : s.directory.stage ≡ to_release → Held z (releases z s).tables
  release-held stage =
      picked (λ (o : Outcome). Held z o.tables) (held_chunk s.tasks s.directory.old) (λ _. held)
      (λ _. rw (clears-is z s.directory.old s z.entries (with_directory s to)) (left _ refl (λ t p _ n _. record { numbered = p.numbered; is_live = live-put s.chunks s.directory.old empty_chunk t.chunk (λ e. absurd (p.drains drained e)) p.is_live; drains = λ le. absurd (early le) })))
    where
      to : Directory
      to = at_rest s.directory

      drained : to_copy ≤ s.directory.stage
      drained = omega arith

      early : 2 ≤ 0 → ⊥
      early le = omega arith

  index-held : s.directory.stage ≡ to_index → Held z (indexes z s).tables
  index-held stage = left (indexes z s).tables refl (λ t p _ n _. record { numbered = p.numbered; is_live = p.is_live; drains = λ _. p.drains (omega arith) })

  -- a live chunk that is not the old one stays live at swap in
  pub swap-live : (c : ChunkNo) → (chunk s c).status ≡ live → c ≢ s.directory.old → (chunk_at (swaps_in z s).tables.chunks c).status ≡ live
  swap-live c l ne =
      swap-by z s (λ x. (chunk_at x.chunks c).status ≡ live) l (λ x. live-put x.chunks (before_old z s) (with_next_chunk (chunk s (before_old z s)) s.directory.new) c (λ e. ap (λ (c : ChunkNo). (chunk s c).status) (sym e) ∙ l))
      (λ x. live-put x.chunks s.directory.new _ c (λ _. refl)) (λ x. live-put x.chunks s.directory.second _ c (λ _. refl)) (λ x. live-put x.chunks s.directory.old _ c (λ e. absurd (ne e))) (λ x d e. e)

  swap-held : s.directory.stage ≡ to_swap → Held z (swaps_in z s).tables
  swap-held stage = left (swaps_in z s).tables (swap-tasks z s).0 (λ t p _ n _. record { numbered = p.numbered; is_live = swap-live t.chunk p.is_live (p.drains drained); drains = λ _. p.drains drained })
    where
      drained : to_copy ≤ s.directory.stage
      drained = omega arith

  pub does-held : (c : Call) → Held z (does z s c).tables
  unfolding does rebalance_does
  does-held (start n op k a f) = start-held n op k a f
  does-held (step n) = step-held n
  does-held (begin k) = begin-held k
  does-held rebalance =
      picked Q (eqb s.directory.stage to_drain) (λ _. drain-held)
      (λ _. picked Q (eqb s.directory.stage to_copy) (λ e. copy-held (eqb-true _ _ e))
      (λ _. picked Q (eqb s.directory.stage to_swap) (λ e. swap-held (eqb-true _ _ e))
      (λ _. picked Q (eqb s.directory.stage to_index) (λ e. index-held (eqb-true _ _ e))
      (λ _. picked Q (eqb s.directory.stage to_release) (λ e. release-held (eqb-true _ _ e)) (λ _. held)))))
    where
      Q : (Sizes → Tables → Outcome) → Type 0
      Q f = Held z (f z s).tables

module _ (z : Sizes) (lim : Limited z) where
  fresh-held : Held z (fresh z)
  fresh-held = record { publisher-live = λ n p. absurd (never (sym (ap (λ (t : Task). t.published) (get_or-all z.tasks n idle_task)) ∙ p)) }
    where
      never : ◌≡◌ {A = ℕ} 0 1 → ⊥
      never e = omega arith

  pub reached-held : {s : Tables} → Reached z s → Held z s
  reached-held Reached.started = fresh-held
  reached-held (Reached.called {s = s'} r c) = call_by z s' c (Held z) (reached-held r) (does-held z lim s' (reached-kept z lim r) (reached-held r) c)
