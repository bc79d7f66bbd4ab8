-- The present keys and values are those of the sequential map, after every call.
use Prim.Native.Nat.{ℕ, ◌*◌}
use mathlib.Core.Bool.{true}
use mathlib.Core.Path.{◌≡◌, refl, ap}
use mathlib.Core.List.{List, []}
use mathlib.Core.Logic.{◌↔◌}
use mathlib.Core.Option.{some, none-ne-some}
use native.Mathlib.Omega.{arith}
use lib.Dec.{eqb, ltb, leb}
use borrow.Author.Tests.{lt-ltb, le-ltb, leb-true, leb-false, eqb-true}
use Rattle.rules.specs.declared.Sizes.{Sizes}
use Rattle.rules.specs.declared.Task.{Task}
use Rattle.rules.specs.declared.Entry.{Entry}
use Rattle.rules.specs.Words.{◌and◌, ◌or◌, uses_function, is_scan}
use Rattle.rules.specs.Tables.{Tables, empty_entry, row, task, with_tasks}
use Rattle.rules.specs.Walks.{Present}
use Rattle.rules.specs.Rebalance.{Outcome, begins}
use Rattle.rules.specs.Calls.{Call, fresh, starts, steps, does, calls}
use Rattle.rules.specs.Calls.Call.{start, step, begin, rebalance}
use Rattle.rules.specs.Map.{Pair, pair_key, Ascends, lookup, sequential}
use Rattle.map.proofs.Sequential.{sequential-ascends}
use Rattle.laws.proofs.Tests.{picked}
use Rattle.statements.specs.Sound.{Limited}
use Rattle.facts.specs.Facts.{Kept}
use Rattle.facts.specs.Reached.{Reached}
use Rattle.statements.specs.Runs.{decides, map_then}
use Rattle.simulation.specs.Beside.{Beside, change_answer}
use Rattle.facts.proofs.Fresh.{get_or-all}
use Rattle.facts.proofs.Reaching.{does-kept, reached-kept}
use Rattle.holds.proofs.Shaped.{calls-does}
use Rattle.handles.proofs.Handing.{rebalance-tasks, begin-tasks}
use Rattle.handles.proofs.Keys.{reached-owned}
use Rattle.holds.specs.Unlinked.{UnlinkedNone}
use Rattle.holds.proofs.Holding.{reached-held}
use Rattle.holds.proofs.Marks.{reached-marked}
use Rattle.holds.proofs.Unlinked.{does-unlinked, reached-unlinked}
use Rattle.simulation.specs.Named.{PresentBy}
use Rattle.simulation.proofs.Copied.{SameLive}
use Rattle.simulation.proofs.Keeping.{reached-copied}
use Rattle.simulation.proofs.Moving.{begin-moves, rebalance-moves}
use Rattle.simulation.proofs.Living.{reached-lively}
use Rattle.simulation.proofs.Showing.{present-to, present-from}
use Rattle.simulation.proofs.Deciding.{Sim, step-sim, step-changes}

-- tables whose live chunks name the same, with the same handles' records
moved-sim : (z : Sizes) (s x : Tables) (m : List Pair) → SameLive z s x → x.values ≡ s.values → x.marks ≡ s.marks → Sim z s m → Sim z x m
moved-sim z s x m live vs ms sim k v = (λ e. on ((sim k v).0 e), λ p. (sim k v).1 (back p))
  where
    on : PresentBy z s k v → PresentBy z x k v
    on p = record { handle = p.handle; inside = p.inside; named = live.to p.handle k p.inside p.named; undeleted = rw ms p.undeleted; valued = rw vs p.valued }

    back : PresentBy z x k v → PresentBy z s k v
    back p = record { handle = p.handle; inside = p.inside; named = live.from p.handle k p.inside p.named; undeleted = rw ms at p.undeleted; valued = rw vs at p.valued }

-- two that have the same values are one
module _ (z : Sizes) (lim : Limited z) where
  -- ---- a call
  module _ (s : Tables) (r : Reached z s) (m : List Pair) (sim : Sim z s m) (ascends : Ascends pair_key 0 m) where
    kept : Kept z s
    kept = reached-kept z lim r

    task-sim : (ts : List Task) → Sim z (with_tasks s ts) m
    task-sim ts = moved-sim z s (with_tasks s ts) m (record { to = λ h k i v. v; from = λ h k i v. v }) refl refl sim

    start-sim : (n op k a f : ℕ) → Sim z (starts z s n op k a f).tables m
    start-sim n op k a f =
        picked O (leb z.tasks n) (λ _. sim)
        (λ _. picked O (eqb (task s n).stage 0)
        (λ _. picked O (ltb op 1 or ltb 8 op or (uses_function op and (ltb f 1 or ltb 3 f))) (λ _. sim) (λ _. picked O (is_scan op and ltb a k) (λ _. sim) (λ _. task-sim _)))
        (λ _. sim))
      where
        O : Outcome → Type 0
        O o = Sim z o.tables m

    stepped-sim : (n : ℕ) → Kept z (steps z s n).tables → UnlinkedNone z (steps z s n).tables.chunks (steps z s n).tables.entries → Sim z (steps z s n).tables (map_then z s (step n) m)
    stepped-sim n =
        picked O (leb z.tasks n) (λ o _ _. rw (le-ltb n z.tasks (leb-true _ _ o)) sim)
        (λ o. picked O (eqb (task s n).stage 0) (λ e _ _. rw (lt-ltb n z.tasks (leb-false _ _ o), eqb-true (task s n).stage 0 e) sim)
        (λ _ kept' un'. rw (lt-ltb n z.tasks (leb-false _ _ o)) (step-sim z lim s kept (reached-owned z lim r) (reached-held z lim r) (reached-marked z lim r) (reached-unlinked z lim r) (reached-lively z lim r) n m sim ascends kept' un')))
      where
        O : Outcome → Type 0
        O o = Kept z o.tables → UnlinkedNone z o.tables.chunks o.tables.entries → Sim z o.tables (map_then z s (step n) m)

    does-sim : (c : Call) → Kept z (does z s c).tables → UnlinkedNone z (does z s c).tables.chunks (does z s c).tables.entries → Sim z (does z s c).tables (map_then z s c m)
    unfolding does
    does-sim (start n op k a f) = λ _ _. start-sim n op k a f
    does-sim (step n) = stepped-sim n
    does-sim (begin k) = λ _ _. moved-sim z s (begins z s k).tables m (begin-moves z lim s kept (reached-owned z lim r) (reached-held z lim r) (reached-unlinked z lim r) (reached-copied z lim r) k).0 (begin-tasks z s k).1 (begin-tasks z s k).2 sim
    does-sim rebalance = λ _ _. moved-sim z s (does z s rebalance).tables m (rebalance-moves z lim s kept (reached-owned z lim r) (reached-held z lim r) (reached-unlinked z lim r) (reached-copied z lim r)).0 (rebalance-tasks z s).1 (rebalance-tasks z s).2 sim

    call_sim : (c : Call) → Sim z (calls z s c).tables (map_then z s c m)
    call_sim c = rw (calls-does z lim s r c) (does-sim c (does-kept z lim s kept c) (does-unlinked z lim s kept (reached-unlinked z lim r) c))

    call-ascends : (c : Call) → Ascends pair_key 0 (map_then z s c m)
    call-ascends (start n op k a f) = ascends
    call-ascends (step n) = let t = task s n in picked (Ascends pair_key 0) (ltb n z.tasks and decides z s t) (λ _. sequential-ascends m t.operation t.key t.argument t.function 0 (omega arith) ascends) (λ _. ascends)
    call-ascends (begin k) = ascends
    call-ascends rebalance = ascends

    call-changes : (n : ℕ) → decides z s (task s n) ≡ true → (sequential m (task s n).operation (task s n).key (task s n).argument (task s n).function).answer ≡ change_answer s (task s n)
    call-changes n = step-changes z lim s kept (reached-owned z lim r) (reached-held z lim r) (reached-marked z lim r) (reached-unlinked z lim r) (reached-lively z lim r) n m sim ascends

  -- ---- all calls from fresh
  fresh-sim : Sim z (fresh z) []
  unfolding lookup
  fresh-sim k v = (λ e. absurd (none-ne-some _ e), λ p. absurd (never p))
    where
      never : PresentBy z (fresh z) k v → ⊥
      never p = omega (arith, lim.handles, p.inside, p.named.named.names, ap (λ (y : Entry). y.handle.0) (get_or-all (z.chunks * z.entries) (row z p.named.chunk p.named.named.entry) empty_entry))

  fresh-ascends : Ascends pair_key 0 []
  unfolding Ascends
  fresh-ascends = tt

  pub beside-reached : {s : Tables} {m : List Pair} → Beside z s m → Reached z s
  beside-reached Beside.started = Reached.started
  beside-reached (Beside.called b c) = Reached.called (beside-reached b) c

  pub beside-holds : {s : Tables} {m : List Pair} → Beside z s m → Sim z s m × Ascends pair_key 0 m
  beside-holds Beside.started = (fresh-sim, fresh-ascends)
  beside-holds (Beside.called {s = s₀} {m = m₀} b c) = let o = beside-holds b in (call_sim s₀ (beside-reached b) m₀ o.0 o.1 c, call-ascends s₀ (beside-reached b) m₀ o.0 o.1 c)

  -- the map's pairs are the present keys with their values
  pub beside-shows : {s : Tables} {m : List Pair} → Beside z s m → (k v : ℕ) → Present z s k v ↔ (lookup m k ≡ some v)
  beside-shows {s} b k v = (λ p. ((beside-holds b).0 k v).1 (present-to z lim s (reached-kept z lim (beside-reached b)) (reached-unlinked z lim (beside-reached b)) p), λ e. present-from z lim s (reached-kept z lim (beside-reached b)) (reached-unlinked z lim (beside-reached b)) (((beside-holds b).0 k v).0 e))

  -- at a deciding step the sequential map answers as to a change, with the value that is replaced
  pub beside-changes : {s : Tables} {m : List Pair} → Beside z s m → (n : ℕ) → decides z s (task s n) ≡ true → (sequential m (task s n).operation (task s n).key (task s n).argument (task s n).function).answer ≡ change_answer s (task s n)
  beside-changes {s} {m} b = call-changes s (beside-reached b) m (beside-holds b).0 (beside-holds b).1
