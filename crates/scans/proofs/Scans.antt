-- A scan, up or down, is judged pair by pair.
use Prim.Native.Nat.{ℕ}
use mathlib.Core.Path.{◌≡◌}
use mathlib.Core.Logic.{⊎_elim}
use mathlib.Core.Bool.{true}
use lib.Dec.{eqb}
use borrow.Author.Tests.{eqb-true}
use Rattle.rules.specs.declared.Sizes.{Sizes}
use Rattle.rules.specs.Words.{scan, scan_down, is_scan}
use Rattle.rules.specs.Calls.{Call}
use Rattle.rules.specs.Calls.Call.{step}
use Rattle.laws.proofs.Tests.{or_cases}
use Rattle.statements.specs.Sound.{Limited}
use Rattle.statements.specs.Runs.{Working}
use Rattle.statements.specs.Answers.{ScansAt}
use Rattle.scans.proofs.Rising.{scans-up}
use Rattle.scans.proofs.Fallen.{scans-down}

pub scans : (z : Sizes) → Limited z → (run : ℕ → Call) (n op k a f j i : ℕ) → is_scan op ≡ true → Working z run n op k a f j i → run i ≡ step n → ScansAt z run n op k a j i
scans z lim run n op k a f j i which w own =
    ⊎_elim (λ (e : eqb op scan ≡ true). rw (eqb-true op scan e) (scans-up z lim run n k a f j i (rw (eqb-true op scan e) at w) own))
    (λ (e : eqb op scan_down ≡ true). rw (eqb-true op scan_down e) (scans-down z lim run n k a f j i (rw (eqb-true op scan_down e) at w) own)) (or_cases _ _ which)
