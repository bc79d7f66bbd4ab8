-- What a scan's step does by what is present, and what holds of a scan at work.
use Rattle.std.specs.Prelude.{ℕ, ◌≤◌, ◌<◌, ◌≡◌, ◌≢◌, Bool, List}
use Rattle.std.proofs.Math.Option.{none}
use Rattle.rules.specs.declared.Sizes.{Sizes}
use Rattle.rules.specs.declared.Task.{Task}
use Rattle.rules.specs.declared.Entry.{Entry}
use Rattle.rules.specs.declared.ChunkNo.{ChunkNo}
use Rattle.rules.specs.declared.EntryNo.{EntryNo}
use Rattle.rules.specs.declared.Write.TheVariants as write
use Rattle.rules.specs.declared.Report.TheVariants as report
use Rattle.rules.specs.declared.Decision.{Decision}
use Rattle.rules.specs.Words.{◌and◌, largest}
use Rattle.rules.specs.Tables.{Tables, entry_at}
use Rattle.rules.specs.Walks.{lies, undeleted, Present}
use Rattle.rules.specs.Stages.{cursor_at, goes_past, moves, finishes}
use Rattle.rules.specs.Calls.{Call}
use Rattle.rules.specs.Map.{lookup}
use Rattle.statements.specs.Answers.{GivesAt, During, Given}
use Rattle.statements.specs.Runs.{map_at}

-- the entry has a key from..to and names an undeleted handle
abbrev pub shows : Sizes → List Entry → List ℕ → ChunkNo → ℕ → ℕ → EntryNo → Bool
shows z es ms c from to e = lies from to (entry_at z es c e).key and undeleted z ms (entry_at z es c e).handle

-- a key that is left to an upward scan with that row: from its cursor to its upper end
pub record Left (t : Task) (q : ℕ) : Type 0 where
  pub from : t.key ≤ q
  pub to : q ≤ t.argument

-- every present key that is left is among these
abbrev pub Among : Sizes → Tables → Task → (ℕ → Type 0) → Type 0
Among z s t These = (p w : ℕ) → Present z s p w → Left t p → These p

-- the key was present at every moment from the task's first step after call j to moment i
abbrev pub Always : (z : Sizes) → (ℕ → Call) → ℕ → ℕ → ℕ → ℕ → Type 0
Always z run n j i q = (p : ℕ) → During z run n j i p → lookup (map_at z run p) q ≢ none

-- a scan's step gives the first pair that is left to it, or goes on to a cursor past none, or ends where none is left
pub data Scanning (z : Sizes) (s : Tables) (t : Task) (x : Decision) : Type 0 where
  gives : (q v : ℕ) → x ≡ record { task = goes_past t q; write = write.Nothing; report = report.Pair q v } → Present z s q v → Left t q → Among z s t (λ p. q ≤ p) → Scanning z s t x
  passes : (k : ℕ) → x ≡ moves (cursor_at t k) write.Nothing → t.key ≤ t.argument → t.key < k → Among z s t (λ p. k ≤ p) → Scanning z s t x
  ends : x ≡ finishes write.Nothing report.Done → Among z s t (λ _. ⊥) → Scanning z s t x

-- of a scan from k to a that call j started on task n, with that row at moment i
pub record Scanned (z : Sizes) (run : ℕ → Call) (n k a j i : ℕ) (t : Task) : Type 0 where
  pub stage : t.stage ≡ 22
  -- what is left lies in the range, and above what was given
  pub ranged : (q : ℕ) → Left t q → (k ≤ q) × (q ≤ a)
  pub above : (x q v : ℕ) → j < x → x < i → GivesAt z run n x q v → (p : ℕ) → Left t p → q < p
  -- scanned: a key in range that is no longer left, and was present at every moment since the first step, has been given
  pub given : (q : ℕ) → k ≤ q → q ≤ a → q ≤ largest → (Left t q → ⊥) → Always z run n j i q → Given z run n j i q
