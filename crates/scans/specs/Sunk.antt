-- What a downward scan's step does, and what holds of such a scan at work.
use Rattle.std.specs.Prelude.{ℕ, ◌≤◌, ◌<◌, ◌≡◌, ◌⊎◌, false}
use mathlib.Core.List.{List, [], ◌∷◌, ◌++◌, Memᴰ}
use Rattle.rules.specs.declared.Sizes.{Sizes}
use Rattle.rules.specs.declared.Task.{Task}
use Rattle.rules.specs.declared.EntryNo.{EntryNo}
use Rattle.rules.specs.declared.Write.TheVariants as write
use Rattle.rules.specs.declared.Report.TheVariants as report
use Rattle.rules.specs.declared.Decision.{Decision}
use Rattle.rules.specs.Tables.{Tables, task, stack, chunk, entry}
use Rattle.rules.specs.Walks.{depth}
use Rattle.rules.specs.Stages
use Rattle.rules.specs.Calls.{Call}
use Rattle.laws.specs.Counts.{Every}
use Rattle.views.specs.Views.{on_words, on_stack}
use Rattle.history.specs.Goes.{ShownBy}
use Rattle.statements.specs.Runs.{Stepped}
use Rattle.statements.specs.Answers.{GivesAt, Given}
use Rattle.scans.specs.Scanned.{Always}

-- the step takes the entry on top off, or it ends, or it fills the empty stack: what it decides, and what is on its stack then
pub data Sinking (z : Sizes) (s : Tables) (n : ℕ) (x : Decision) (w : List EntryNo) : Type 0 where
  takes : (l : List EntryNo) (e : EntryNo) → on_stack z s n ≡ l ++ e ∷ [] → x ≡ Stages.takes_off z s (task s n) e → on_words z w ≡ l → depth z w < depth z (stack s n) → Sinking z s n x w
  ends : on_stack z s n ≡ [] → x ≡ Stages.finishes write.Nothing report.Done → (task s n).chunk.0 < z.chunks → (chunk s (task s n).chunk).min ≤ (task s n).key → Sinking z s n x w
  fills : on_stack z s n ≡ [] → x ≡ Stages.fills z s (task s n) → Stages.is_lowest z s (task s n) ≡ false →
      on_words z w ≡ Stages.fills_with z s (task s n) → Sinking z s n x w

-- of a scan down from k to a that call j started on task n, at moment i: with those tables, that row, and those entries on its stack
module _ (z : Sizes) (run : ℕ → Call) (n k a j i : ℕ) (s : Tables) (t : Task) (on : List EntryNo) where
  -- of every key given since
  abbrev pub OfGiven : (ℕ → Type 0) → Type 0
  OfGiven P = (x q v : ℕ) → j < x → x < i → GivesAt z run n x q v → P q

  abbrev pub Holding : Type 0
  Holding = t.chunk.0 < z.chunks

  -- an entry on the stack has the key, and the held chunk shows it
  pub record OnIt (q : ℕ) : Type 0 where
    pub at : EntryNo
    pub there : Memᴰ at on
    pub keyed : (entry z s t.chunk at).key ≡ q
    pub shows : ShownBy z s t.chunk q

  pub record Sunk : Type 0 where
    pub stage : t.stage ≡ 23
    pub numbered : n < z.tasks
    pub key : t.key ≡ k
    pub argument : t.argument ≡ a
    -- before its first fill nothing is given; after it a step was taken
    pub begins : z.chunks ≤ t.chunk.0 → OfGiven (λ _. ⊥)
    pub stepped : Holding → Stepped z run n j i
    -- given-above: the held chunk's minimum key is at most each key given
    pub above : Holding → OfGiven (λ q. (chunk s t.chunk).min ≤ q)
    -- stack-in-range: the keys on the stack lie in the range, from the held chunk's minimum key on
    pub ranged : Every (λ e. (k ≤ (entry z s t.chunk e).key) × ((entry z s t.chunk e).key ≤ a) × ((chunk s t.chunk).min ≤ (entry z s t.chunk e).key)) on
    -- stack-under-given: and below each key given
    pub below : Every (λ e. OfGiven (λ q. (entry z s t.chunk e).key < q)) on
    -- stacked: a key in range present at every moment has been given, or lies under the held chunk's minimum key, or is on the stack
    pub stacked : Holding → (q : ℕ) → k ≤ q → q ≤ a → Always z run n j i q → Given z run n j i q ⊎ ((q < (chunk s t.chunk).min) ⊎ OnIt q)
