-- Every call keeps copied.
use Prim.Native.Nat.{ℕ, ◌≤◌, ◌<◌}
use mathlib.Core.Path.{◌≡◌, sym, ap, ◌∙◌, subst}
use mathlib.Core.Logic.{⊎_map, ◌≢◌}
use mathlib.Core.List.{List}
use native.Mathlib.Omega.{arith}
use lib.Dec.{eqb, ltb}
use lib.ListN.{set}
use borrow.Author.Tests.{eqb-true}
use Rattle.rules.specs.declared.Sizes.{Sizes}
use Rattle.rules.specs.declared.Directory.{Directory}
use Rattle.rules.specs.declared.Entry.{Entry}
use Rattle.rules.specs.declared.ChunkNo.{ChunkNo}
use Rattle.rules.specs.declared.EntryNo.{EntryNo}
use Rattle.rules.specs.declared.HandleNo.{HandleNo}
use Rattle.rules.specs.declared.Decision.{Decision}
use Rattle.rules.specs.Words.{idle, to_drain, to_copy, to_swap, to_index, to_release}
use Rattle.rules.specs.Tables.{Tables, entry_at, entry, task, with_directory}
use Rattle.rules.specs.Stages
use Rattle.rules.specs.Rebalance.{Outcome, unused_count, published_on, held_chunk, begins, drains, swaps_in, indexes, releases, rebalance_does, at_rest}
use Rattle.rules.specs.Calls.{Call, starts, steps, does}
use Rattle.rules.specs.Calls.Call.{start, step, begin, rebalance}
use Rattle.laws.proofs.Tests.{picked}
use Rattle.views.proofs.Copies.{clears-is}
use Rattle.statements.specs.Sound.{Limited}
use Rattle.facts.specs.Facts.{Allowed, Kept}
use Rattle.facts.specs.Reached.{Reached}
use Rattle.facts.proofs.Applying.{applied_by}
use Rattle.facts.proofs.Ends.{decides-fine}
use Rattle.facts.proofs.Swapping
use Rattle.facts.proofs.Reaching.{call_by, reached-kept}
use Rattle.facts.proofs.Tasks.{start-by, step_by}
use Rattle.holds.specs.Held.{Held}
use Rattle.holds.specs.Unlinked.{UnlinkedNone}
use Rattle.holds.proofs.Holding.{reached-held}
use Rattle.holds.proofs.Unlinked.{reached-unlinked}
use Rattle.simulation.specs.Named.{NamedIn, Copied, CopiedThen}
use Rattle.simulation.proofs.Acts.{decides-act}
use Rattle.simulation.proofs.Rows.{RowKept, frame}
use Rattle.simulation.proofs.Copied.{named-like, copy-names}

-- rows kept name what they named, and named what they name
module _ (z : Sizes) (es es' : List Entry) (c : ChunkNo) (rows : (e : EntryNo) → e.0 < z.entries → RowKept z (entry_at z es c e) (entry_at z es' c e)) {h k : ℕ} (i : h < z.handles) where
  pub kept-to : NamedIn z es c h k → NamedIn z es' c h k
  kept-to = named-like z es es' c (λ e b q. ((rows e b).0, (rows e b).1 (rw q i)))

  pub kept_from : NamedIn z es' c h k → NamedIn z es c h k
  kept_from = named-like z es' es c (λ e b q. (sym (rows e b).0, sym ((rows e b).1 (below e b q))))
    where
      below : (e : EntryNo) (b : e.0 < z.entries) → (entry_at z es' c e).handle.0 ≡ h → (entry_at z es c e).handle.0 < z.handles
      below e b q = rw (← (ap (λ (h : HandleNo). h.0) (rows e b).0), q) i

module _ (z : Sizes) (lim : Limited z) (s : Tables) (kept : Kept z s) (held : Held z s) (un : UnlinkedNone z s.chunks s.entries) (copied : CopiedThen z s.directory s.entries) where
  abbrev CopiedIn : Tables → Type 0
  CopiedIn x = CopiedThen z x.directory x.entries

  -- ---- a step writes to no chunk of the rebalance
  module _ (n : ℕ) where
    abbrev x : Decision
    x = Stages.decide z s n (task s n)

    abbrev s' : Tables
    s' = Stages.apply z (Stages.put_own z s n x.task) x.write

    allowed : Allowed z s.chunks s.entries x.write
    allowed = (decides-fine z lim s kept.tables (task s n) (kept.tasks n) n).allowed

    same-directory : s'.directory ≡ s.directory
    same-directory = (applied_by z lim (Stages.put_own z s n x.task) kept.tables x.write allowed).directory

    rows : (c : ChunkNo) → c.0 < z.chunks → ((task s n).published ≡ 1 → c ≢ (task s n).chunk) → (e : EntryNo) → e.0 < z.entries → RowKept z (entry z s c e) (entry_at z s'.entries c e)
    rows c b ne e i = frame z lim s kept (set s.tasks n x.task) _ n (decides-act z s (task s n) (kept.tasks n) n) allowed c e (record { chunk = b; entry = i }) ne

    step-done : CopiedIn s'
    step-done e = subst (λ (d : Directory). Copied z d s'.entries) (sym same-directory) there
      where
        stage : s.directory.stage ≡ to_swap
        stage = ap (λ (d : Directory). d.stage) (sym same-directory) ∙ e

        drained : to_copy ≤ s.directory.stage
        drained = omega (arith, stage)

        c : Copied z s.directory s.entries
        c = copied stage

        old : (e : EntryNo) → e.0 < z.entries → RowKept z (entry z s s.directory.old e) (entry_at z s'.entries s.directory.old e)
        old = rows s.directory.old (Swapping.old-in z lim s kept stage) (λ p q. (held.publisher-live n p).drains drained (sym q))

        new : (e : EntryNo) → e.0 < z.entries → RowKept z (entry z s s.directory.new e) (entry_at z s'.entries s.directory.new e)
        new = rows s.directory.new (Swapping.a_in z lim s kept stage) (λ p q. Swapping.unlike z lim s kept stage (task s n).chunk s.directory.new (held.publisher-live n p).is_live (Swapping.a-new z lim s kept stage) (omega arith) (sym q))

        second : s.directory.second.0 < z.chunks → (e : EntryNo) → e.0 < z.entries → RowKept z (entry z s s.directory.second e) (entry_at z s'.entries s.directory.second e)
        second b = rows s.directory.second b (λ p q. Swapping.unlike z lim s kept stage (task s n).chunk s.directory.second (held.publisher-live n p).is_live (Swapping.b-new z lim s kept stage b) (omega arith) (sym q))

        there : Copied z s.directory s'.entries
        there =
            record {
              kept = λ h k i v. ⊎_map (kept-to z s.entries s'.entries s.directory.new new i) (λ w. (w.0, kept-to z s.entries s'.entries s.directory.second (second w.0) i w.1)) (c.kept h k i (kept_from z s.entries s'.entries s.directory.old old i v));
              first = λ h k i v. kept-to z s.entries s'.entries s.directory.old old i (c.first h k i (kept_from z s.entries s'.entries s.directory.new new i v));
              second = λ h k i b v. kept-to z s.entries s'.entries s.directory.old old i (c.second h k i b (kept_from z s.entries s'.entries s.directory.second (second b) i v));
            }

    step-copied : CopiedIn (steps z s n).tables
    step-copied = step_by z s CopiedIn copied n (λ _. step-done)

  start-copied : (n op k a f : ℕ) → CopiedIn (starts z s n op k a f).tables
  start-copied n op k a f = start-by z s CopiedIn copied n op k a f (λ _ _ _. copied)

  -- ---- the rebalance: only copy leaves a swap in to come
  begin-copied : (k : ℕ) → CopiedIn (begins z s k).tables
  begin-copied k = picked O (eqb s.directory.stage idle) (λ _. picked O (ltb (unused_count s.chunks) 2) (λ _. copied) (λ _ e. absurd (early e))) (λ _. copied)
    where
      O : Outcome → Type 0
      O o = CopiedIn o.tables

      early : ◌≡◌ {A = ℕ} 1 3 → ⊥
      early e = omega arith

  drain-copied : CopiedIn (drains z s).tables
  drain-copied = picked (λ (o : Outcome). CopiedIn o.tables) (published_on s.tasks s.directory.old) (λ _. copied) (λ _ e. absurd (early e))
    where
      early : ◌≡◌ {A = ℕ} 2 3 → ⊥
      early e = omega arith

  swap-copied : CopiedIn (swaps_in z s).tables
  swap-copied e = absurd (late e)
    where
      late : ◌≡◌ {A = ℕ} 4 3 → ⊥
      late e = omega arith

  index-copied : CopiedIn (indexes z s).tables
  index-copied e = absurd (late e)
    where
      late : ◌≡◌ {A = ℕ} 5 3 → ⊥
      late e = omega arith

  release-copied : CopiedIn (releases z s).tables
  release-copied = picked (λ (o : Outcome). CopiedIn o.tables) (held_chunk s.tasks s.directory.old) (λ _. copied) (λ _. rw (clears-is z s.directory.old s z.entries (with_directory s (at_rest s.directory))) (λ e. absurd (late e)))
    where
      late : ◌≡◌ {A = ℕ} 0 3 → ⊥
      late e = omega arith

  pub does-copied : (c : Call) → CopiedIn (does z s c).tables
  unfolding does rebalance_does
  does-copied (start n op k a f) = start-copied n op k a f
  does-copied (step n) = step-copied n
  does-copied (begin k) = begin-copied k
  does-copied rebalance =
      picked Q (eqb s.directory.stage to_drain) (λ _. drain-copied)
      (λ _. picked Q (eqb s.directory.stage to_copy) (λ e _. (copy-names z lim s kept un (eqb-true _ _ e)).0)
      (λ _. picked Q (eqb s.directory.stage to_swap) (λ _. swap-copied)
      (λ _. picked Q (eqb s.directory.stage to_index) (λ _. index-copied)
      (λ _. picked Q (eqb s.directory.stage to_release) (λ _. release-copied) (λ _. copied)))))
    where
      Q : (Sizes → Tables → Outcome) → Type 0
      Q f = CopiedIn (f z s).tables

module _ (z : Sizes) (lim : Limited z) where
  pub reached-copied : {s : Tables} → Reached z s → CopiedThen z s.directory s.entries
  reached-copied Reached.started = λ e. absurd (early e)
    where
      early : ◌≡◌ {A = ℕ} 0 3 → ⊥
      early e = omega arith
  reached-copied (Reached.called {s = s₀} r c) = call_by z s₀ c (λ x. CopiedThen z x.directory x.entries) (reached-copied r) (does-copied z lim s₀ (reached-kept z lim r) (reached-held z lim r) (reached-unlinked z lim r) (reached-copied r) c)
