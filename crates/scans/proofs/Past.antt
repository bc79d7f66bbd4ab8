-- What is left to an upward scan once it has given a pair: of what was left all that lies above the pair's key, and nothing else; past the largest key nothing (document 02, E5).
use Prim.Native.Nat.{ℕ, ◌+◌, ◌-◌, ◌≤◌, ◌<◌}
use mathlib.Core.Path.{◌≡◌, refl}
use native.Mathlib.Decide.{dec_lt}
use native.Mathlib.Omega.{arith}
use lib.Dec.{ltb}
use borrow.Author.Tests.{ltb-false}
use Rattle.rules.specs.declared.Task.{Task}
use Rattle.rules.specs.Words.{largest}
use Rattle.rules.specs.Stages.{goes_past}
use Rattle.laws.proofs.Tests.{picked}
use Rattle.scans.specs.Scanned.{Left}

-- how many keys are left to the row
abbrev pub left_to : Task → ℕ
left_to t = t.argument + 1 - t.key

-- a key is left or it is not
pub left-or-not : {A : Type 0} (t : Task) (q : ℕ) → (Left t q → A) → ((Left t q → ⊥) → A) → A
left-or-not t q yes-so not_so = elim (dec_lt q t.key) [ yes b ↦ not_so (λ l. absurd (omega (arith, b, l.from))) | no ge ↦ elim (dec_lt t.argument q) [ yes b ↦ not_so (λ l. absurd (omega (arith, b, l.to))) | no le ↦ yes-so (record { from = omega (arith, ge); to = omega (arith, le) }) ] ]

module _ (t : Task) (q : ℕ) where
  pub past-stage : (goes_past t q).stage ≡ t.stage
  past-stage = picked (λ (u : Task). u.stage ≡ t.stage) (ltb q largest) (λ _. refl) (λ _. refl)

  -- no key up to the pair's is left
  pub past-above : (p : ℕ) → Left (goes_past t q) p → q < p
  past-above p = picked (λ (u : Task). Left u p → q < p) (ltb q largest) (λ _ l. omega (arith, l.from)) (λ o l. absurd (omega (arith, ltb-false q largest o, l.from, l.to)))

  -- every key above the pair's that was left is left
  pub past_all : (p : ℕ) → p ≤ largest → q < p → Left t p → Left (goes_past t q) p
  past_all p small above m = picked (λ (u : Task). Left u p) (ltb q largest) (λ _. record { from = omega (arith, above); to = m.to }) (λ o. absurd (omega (arith, ltb-false q largest o, small, above)))

  pub past-last : q ≡ largest → left_to (goes_past t q) ≡ 0
  past-last e = rw e refl

  module _ (l : Left t q) where
    -- what is left was left before
    pub past-still : (p : ℕ) → Left (goes_past t q) p → Left t p
    past-still p = picked (λ (u : Task). Left u p → Left t p) (ltb q largest) (λ _ m. record { from = omega (arith, l.from, m.from); to = m.to }) (λ o m. absurd (omega (arith, ltb-false q largest o, m.from, m.to)))

    pub past-fewer : left_to (goes_past t q) < left_to t
    past-fewer = picked (λ (u : Task). left_to u < left_to t) (ltb q largest) (λ _. omega (arith, l.from, l.to)) (λ o. omega (arith, ltb-false q largest o, l.from, l.to))
