-- What the shape says of a task that is to take a step.
use Prim.Native.Nat.{ℕ, ◌<◌}
use mathlib.Core.Path.{◌≡◌, sym, ap, ◌∙◌}
use mathlib.Core.Bool.{true}
use native.Mathlib.Omega.{arith}
use lib.Dec.{eqb, leb}
use lib.ListN.{length, get_or}
use borrow.Author.Tests.{eqb-true, ltb-true}
use Rattle.rules.specs.declared.Sizes.{Sizes}
use Rattle.rules.specs.declared.Task.{Task}
use Rattle.rules.specs.Words.{pick, ◌and◌, uses_function}
use Rattle.rules.specs.Tables.{Tables, task}
use Rattle.rules.specs.Shape.{Hold, hold, stage_list, held_as, fits_operation, holds_right, is_idle, shape}
use Rattle.rules.proofs.Tests.{and_left, and_right, from-picked}
use Rattle.rules.proofs.Shaped.{task-right}
use Rattle.outcome.specs.Lengths.{Held}

always : (how size n : ℕ) → how ≡ 1 → held_as how size n ≡ true → n < size
always how size n e t = ltb-true n size (rw e at t)

abbrev held : ℕ → Hold
held n = get_or stage_list n (hold 0 0 0 0 0 0)

module _ (z : Sizes) (s : Tables) (t : Task) where
  idle-held : t.stage ≡ 0 → Held z t
  idle-held e = record {
    chunk = λ p. absurd (never (ap (λ (n : ℕ). (held n).chunk) (sym e) ∙ p));
    entry = λ p. absurd (never (ap (λ (n : ℕ). (held n).entry) (sym e) ∙ p));
  }
    where
      never : ◌≡◌ {A = ℕ} 0 1 → ⊥
      never e = omega arith

  right-held : holds_right z s t (held t.stage) ≡ true → Held z t
  right-held r = record {
    chunk = λ p. always (held t.stage).chunk z.chunks t.chunk.0 p (and_left (held_as (held t.stage).chunk z.chunks t.chunk.0) _ r);
    entry = λ p. always (held t.stage).entry z.entries t.entry.0 p (and_left (held_as (held t.stage).entry z.entries t.entry.0) _ (and_right (held_as (held t.stage).chunk z.chunks t.chunk.0) _ r));
  }

-- a task of the table holds what its stage asks
pub task-held : (z : Sizes) (s : Tables) → shape z s ≡ true → length s.tasks ≡ z.tasks → (n : ℕ) → n < z.tasks → Held z (task s n)
task-held z s h long n b =
    from-picked (eqb (task s n).stage 0) (is_idle (task s n)) _
    (λ e i. idle-held z s (task s n) (eqb-true _ 0 e))
    (λ e busy. right-held z s (task s n) (and_right (pick (uses_function (task s n).operation) (leb 1 (task s n).function and leb (task s n).function 3) true) _ (and_right (fits_operation (task s n).operation (task s n).stage) _ busy)))
    (task-right z s h n (rw long b))
