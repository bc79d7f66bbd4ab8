-- What is kept of an operation at work along a run: what it was started with, its deciding step, and a moment of absence behind what it has seen.
use Rattle.std.specs.Prelude.{ℕ, suc, ◌≤◌, ◌<◌, ◌≡◌, ◌⊎◌, true, false, eqb}
use Rattle.std.proofs.Math.Option.{none, some}
use Rattle.rules.specs.declared.Sizes.{Sizes}
use Rattle.rules.specs.declared.Task.{Task}
use Rattle.rules.specs.Words.{pick, ◌or◌, get, remove, is_scan, uses_function}
use Rattle.rules.specs.Tables.{value}
use Rattle.rules.specs.Calls.{Call}
use Rattle.rules.specs.Map.{lookup}
use Rattle.simulation.specs.Beside.{change_answer}
use Rattle.statements.specs.Runs.{tables_at, map_at, task_at, DecidesAt, Stepped}
use Rattle.statements.specs.Answers.{NeverDecides, ByChange}
use Rattle.history.specs.Goes.{past, looks_in, looks_old, Gone}

-- the row has what the operation was started with, a function where it uses one: "Arguments an operation doesn't use are kept as 0", and a scan's key and argument are its cursor and its upper end
pub record Started (op k a f : ℕ) (t : Task) : Type 0 where
  pub operation : t.operation ≡ op
  pub function : uses_function op ≡ true → t.function ≡ f
  pub argument : is_scan op ≡ false → t.argument ≡ pick (eqb op get or eqb op remove) 0 a
  pub key : is_scan op ≡ false → t.key ≡ k

module _ (z : Sizes) (run : ℕ → Call) where
  -- at some moment after the operation's first step, and not after moment i, the key was absent
  pub record WasAbsent (n k j i : ℕ) : Type 0 where
    pub moment : ℕ
    pub after : Stepped z run n j moment
    pub to : moment ≤ i
    pub absent : lookup (map_at z run moment) k ≡ none

  -- of task n's operation, started by call j, after call i, with its row then
  pub record Ghost (n op k a f j i : ℕ) (t : Task) : Type 0 where
    pub started : Started op k a f t
    pub decided : ((past t ≡ false) × NeverDecides z run n j i) ⊎ ((past t ≡ true) × ByChange z run n op k a f j i (change_answer (tables_at z run (suc i)) t))
    pub stepped : (looks_in t.stage ≡ true) ⊎ (looks_old t.stage ≡ true) → Stepped z run n j (suc i)
    pub seen : is_scan op ≡ false → Gone z (tables_at z run (suc i)) t → WasAbsent n k j (suc i)

  -- removed-value: of a remove of k on task n that call j started and that has set its mark: at moment i the handle that it holds has the value that the map had just before the mark
  pub record RemovedValue (n k j i : ℕ) : Type 0 where
    pub at : ℕ
    pub since : j < at
    pub before : at < i
    pub decides : DecidesAt z run n at
    pub stands : lookup (map_at z run at) k ≡ some (value (tables_at z run i) (task_at z run i n).old)
