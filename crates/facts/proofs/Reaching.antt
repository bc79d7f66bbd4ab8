-- The facts hold of every reached table.
use Prim.Native.Nat.{ℕ, zero, suc}
use lib.Dec.{eqb}
use borrow.Author.Tests.{eqb-true}
use Rattle.rules.specs.declared.Sizes.{Sizes}
use native.Mathlib.Omega.{arith}
use Rattle.rules.specs.Words.{limits, to_drain, to_copy, to_swap, to_index, to_release}
use Rattle.rules.specs.Tables.{Tables, task}
use Rattle.rules.specs.Rebalance.{Outcome, rebalance_does}
use Rattle.rules.specs.Shape.{shape}
use Rattle.rules.specs.Calls.{Call, does, calls}
use Rattle.rules.specs.Calls.Call.{start, step, begin, rebalance}
use Rattle.laws.proofs.Tests.{picked}
use Rattle.statements.specs.Sound.{Limited}
use Rattle.facts.specs.Facts.{Leaves, Kept}
use Rattle.statements.specs.Runs.{tables_at}
use Rattle.facts.specs.Reached.{Reached}
use Rattle.facts.proofs.Fresh.{fresh_kept}
use Rattle.facts.proofs.Stacking.{same-leaves}
use Rattle.facts.proofs.Tasks.{start-kept, step_kept, start-leaves, step-leaves}
use Rattle.facts.proofs.Beginning.{begin-kept, drain_kept, begin-leaves, drain-leaves}
use Rattle.facts.proofs.Copying.{copy-kept, copy-leaves}
use Rattle.facts.proofs.SwapIn.{swap-in-kept, swap-in-leaves}
use Rattle.facts.proofs.Indexing.{index_kept, index-leaves}
use Rattle.facts.proofs.Releasing.{release-kept, release-leaves}

-- what holds of the tables before a call, and of those that it makes where the shape holds, holds after it
pub call_by : (z : Sizes) (s : Tables) (c : Call) (P : Tables → Type 0) → P s → P (does z s c).tables → P (calls z s c).tables
unfolding calls
call_by z s c P was then = picked (λ (o : Outcome). P o.tables) (shape z s) (λ _. then) (λ _. was)

module _ (z : Sizes) (lim : Limited z) where
  -- each call keeps the facts
  pub does-kept : (s : Tables) → Kept z s → (c : Call) → Kept z (does z s c).tables
  unfolding does rebalance_does
  does-kept s k (start n op key a f) = start-kept z lim s k n op key a f
  does-kept s k (step n) = step_kept z lim s k n
  does-kept s k (begin key) = begin-kept z lim s k key
  does-kept s k rebalance =
      picked Q (eqb s.directory.stage to_drain) (λ e. drain_kept z lim s k (eqb-true _ _ e))
      (λ _. picked Q (eqb s.directory.stage to_copy) (λ e. copy-kept z lim s k (eqb-true _ _ e))
      (λ _. picked Q (eqb s.directory.stage to_swap) (λ e. swap-in-kept z lim s k (eqb-true _ _ e))
      (λ _. picked Q (eqb s.directory.stage to_index) (λ e. index_kept z s k (eqb-true _ _ e))
      (λ _. picked Q (eqb s.directory.stage to_release) (λ e. release-kept z lim s k (eqb-true _ _ e)) (λ _. k)))))
    where
      Q : (Sizes → Tables → Outcome) → Type 0
      Q f = Kept z (f z s).tables

  -- and leaves what a task holds in its chunk
  pub does-leaves : (s : Tables) → Kept z s → (n : ℕ) (c : Call) → Leaves z s (does z s c).tables (task s n).chunk
  unfolding does rebalance_does
  does-leaves s k n (start m op key a f) = start-leaves z lim s k m op key a f (task s n).chunk
  does-leaves s k n (step m) = step-leaves z lim s k m (task s n).chunk
  does-leaves s k n (begin key) = begin-leaves z lim s k key (task s n).chunk
  does-leaves s k n rebalance =
      picked Q (eqb s.directory.stage to_drain) (λ _. drain-leaves z lim s k (task s n).chunk)
      (λ _. picked Q (eqb s.directory.stage to_copy) (λ e. copy-leaves z lim s k (eqb-true _ _ e) (task s n).chunk)
      (λ _. picked Q (eqb s.directory.stage to_swap) (λ e. swap-in-leaves z lim s k (eqb-true _ _ e) (task s n).chunk)
      (λ _. picked Q (eqb s.directory.stage to_index) (λ _. index-leaves z s (task s n).chunk)
      (λ _. picked Q (eqb s.directory.stage to_release) (λ e. release-leaves z lim s k (eqb-true _ _ e) n) (λ _. same-leaves z s (task s n).chunk)))))
    where
      Q : (Sizes → Tables → Outcome) → Type 0
      Q f = Leaves z s (f z s).tables (task s n).chunk

  pub reached-kept : {s : Tables} → Reached z s → Kept z s
  reached-kept Reached.started = fresh_kept z lim
  reached-kept (Reached.called {s = s'} r c) = call_by z s' c (Kept z) (reached-kept r) (does-kept s' (reached-kept r) c)

-- the tables at each moment of a run are reached ones
pub run-reached : (z : Sizes) (run : ℕ → Call) (i : ℕ) → Reached z (tables_at z run i)
unfolding tables_at
run-reached z run zero = Reached.started
run-reached z run (suc i) = Reached.called (run-reached z run i) (run i)

-- document 01's sizes are such
pub limits-limited : Limited limits
limits-limited = record { some = omega arith; two = omega arith; chunks = omega arith; entries = omega arith; handles = omega arith }
