-- Two outcomes that a public call's promise allows are equal: the report, and every word of every table.
use Prim.Native.Nat.{ℕ}
use mathlib.Core.Path.{◌≡◌}
use Rattle.rules.specs.declared.Report.{Report}
use Rattle.rules.specs.Words.{limits}
use Rattle.rules.specs.Calls.Call.{start, step, begin, rebalance}
use Rattle.calls.specs.Promise.{Lending, Promise, Makes}
use Rattle.calls.proofs.Unique.{obeys-unique}

module _ (before a b : Lending) (r q : Report) where
  pub fresh-unique : Makes limits before a r → Makes limits before b q → (r ≡ q) × (a ≡ b)
  fresh-unique = obeys-unique limits _ before a b r q

  pub start-unique : (n op k arg f : ℕ) → Promise limits (start n op k arg f) before a r → Promise limits (start n op k arg f) before b q → (r ≡ q) × (a ≡ b)
  start-unique n op k arg f = obeys-unique limits _ before a b r q

  pub step-unique : (n : ℕ) → Promise limits (step n) before a r → Promise limits (step n) before b q → (r ≡ q) × (a ≡ b)
  step-unique n = obeys-unique limits _ before a b r q

  pub begin-unique : (k : ℕ) → Promise limits (begin k) before a r → Promise limits (begin k) before b q → (r ≡ q) × (a ≡ b)
  begin-unique k = obeys-unique limits _ before a b r q

  pub rebalance-unique : Promise limits rebalance before a r → Promise limits rebalance before b q → (r ≡ q) × (a ≡ b)
  rebalance-unique = obeys-unique limits _ before a b r q
