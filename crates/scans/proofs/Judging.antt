-- What the two directions of a scan share: moments, keys given, and what is said of each pair.
use Prim.Native.Nat.{ℕ, suc, ◌<◌}
use mathlib.Core.Path.{◌≡◌, refl, sym, ap, ◌∙◌}
use mathlib.Core.Logic.{◌≢◌}
use mathlib.Core.Bool.{false, false≢true}
use mathlib.Core.Option.{Option, none, some, none-ne-some}
use native.Mathlib.Omega.{arith}
use Rattle.rules.specs.declared.Sizes.{Sizes}
use Rattle.rules.specs.declared.Task.{Task}
use Rattle.rules.specs.declared.Decision.{Decision}
use Rattle.rules.specs.Walks.{Present}
use Rattle.rules.specs.Stages
use Rattle.rules.specs.Rebalance.{Outcome}
use Rattle.rules.specs.Calls.{Call}
use Rattle.rules.specs.Calls.Call.{step}
use Rattle.rules.specs.Map.{lookup}
use Rattle.statements.specs.Sound.{Limited}
use Rattle.statements.specs.Runs.{decides, tables_at, map_at, report_at, task_at, Working}
use Rattle.statements.specs.Answers.{NeverDecides, GivesAt, During, Given}
use Rattle.simulation.proofs.Simulating.{beside-shows}
use Rattle.history.specs.Turns.{Turn, Steps}
use Rattle.history.proofs.Runs.{run-beside, run-turns, earlier}
use Rattle.scans.specs.Scanned.{Always}

module _ (z : Sizes) (lim : Limited z) (run : ℕ → Call) where
  -- what is present the map has
  pub shown : (i q v : ℕ) → Present z (tables_at z run i) q v → lookup (map_at z run i) q ≡ some v
  shown i q v p = (beside-shows z lim (run-beside z run i) q v).0 p

  -- a key that is not absent is present with a value
  pub found : {A : Type 0} (i q : ℕ) → lookup (map_at z run i) q ≢ none → ((v : ℕ) → Present z (tables_at z run i) q v → A) → A
  found {A = A} i q there f = go (lookup (map_at z run i) q) refl
    where
      go : (o : Option ℕ) → lookup (map_at z run i) q ≡ o → A
      go none e = absurd (there e)
      go (some v) e = f v ((beside-shows z lim (run-beside z run i) q v).1 e)

  module _ (n : ℕ) where
    -- the task's row, and what its step decides
    abbrev pub row : ℕ → Task
    row i = task_at z run i n

    abbrev pub decision : ℕ → Decision
    decision i = Stages.decide z (tables_at z run i) n (row i)

    -- the task's step is one at work, and reports what it decides
    pub own-step : (i : ℕ) → (row i).stage ≢ 0 → run i ≡ step n → Steps z (tables_at z run i) (run i) n
    own-step i busy own = go (run-turns z run lim i n)
      where
        go : Turn z (tables_at z run i) (run i) n → Steps z (tables_at z run i) (run i) n
        go (Turn.begins _ _ _ _ b) = absurd (busy b.was)
        go (Turn.steps b) = b
        go (Turn.rests b) = absurd (busy (b.unstepped own))

    pub reports : (i : ℕ) → (row i).stage ≢ 0 → run i ≡ step n → {x : Decision} → decision i ≡ x → report_at z run i ≡ x.report
    reports i busy own is = ap (λ (o : Outcome). o.report) (own-step i busy own).done ∙ ap (λ (x : Decision). x.report) is

    module _ (j : ℕ) where
      -- moment i of a step of the task is one of its moments
      pub now : (i : ℕ) → j < i → run i ≡ step n → During z run n j i i
      now i lt own = record { first = i; since = lt; own = own; from = omega arith; to = omega arith }

      -- over one call more
      pub more : (i q : ℕ) → Given z run n j i q → Given z run n j (suc i) q
      more i q g = record { at = g.at; value = g.value; since = g.since; before = omega (arith, g.before); gives = g.gives }

      pub less : (i q : ℕ) → Always z run n j (suc i) q → Always z run n j i q
      less i q always p d = always p (record { first = d.first; since = d.since; own = d.own; from = d.from; to = omega (arith, d.to) })

      -- at a step every key that is always present is present
      pub here : (i q : ℕ) → j < i → run i ≡ step n → Always z run n j (suc i) q → lookup (map_at z run i) q ≢ none
      here i q after own always = less i q always i (now i after own)

    module _ (op k a f j : ℕ) where
      -- what was given was present at the step that gave it
      pub unseen : ((x : ℕ) → Working z run n op k a f j x → (q v : ℕ) → GivesAt z run n x q v → lookup (map_at z run x) q ≡ some v) →
          (i : ℕ) → Working z run n op k a f j i → (q : ℕ) → ((p : ℕ) → During z run n j i p → lookup (map_at z run p) q ≡ none) → Given z run n j i q → ⊥
      unseen present i w q never g = none-ne-some _ (sym (never g.at during) ∙ present g.at (earlier z run lim n w g.at g.since (omega (arith, g.before))) q g.value g.gives)
        where
          during : During z run n j i g.at
          during = record { first = g.at; since = g.since; own = g.gives.own; from = omega arith; to = omega (arith, g.before) }

      pub undecided : ((x : ℕ) → Working z run n op k a f j x → decides z (tables_at z run x) (row x) ≡ false) → (i : ℕ) → Working z run n op k a f j i → NeverDecides z run n j i
      undecided quiet i w x since le d = false≢true (sym (quiet x (earlier z run lim n w x since le)) ∙ d.deciding)
