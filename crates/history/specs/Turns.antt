-- What a call does to one task's row: it starts an operation there, it is a step of that task at work, or the row stays as it is.
use Rattle.std.specs.Prelude.{ℕ, ◌≤◌, ◌<◌, ◌≡◌, ◌≢◌, true}
use Rattle.rules.specs.declared.Sizes.{Sizes}
use Rattle.rules.specs.declared.Report.TheVariants as report
use Rattle.rules.specs.Words.{uses_function, is_scan}
use Rattle.rules.specs.Tables.{Tables, task, stack, put_task}
use Rattle.rules.specs.Stages.{decide, stack_then, put_own, apply}
use Rattle.rules.specs.Rebalance.{gives}
use Rattle.rules.specs.Calls.{Call, started, calls}
use Rattle.rules.specs.Calls.Call.{start, step}
use Rattle.statements.specs.Runs.{tables_at, Working}

module _ (z : Sizes) (s : Tables) (c : Call) (n : ℕ) where
  pub record Begins (op k a f : ℕ) : Type 0 where
    pub call : c ≡ start n op k a f
    pub numbered : n < z.tasks
    pub was : (task s n).stage ≡ 0
    pub known : (1 ≤ op) × (op ≤ 8)
    pub function : uses_function op ≡ true → (1 ≤ f) × (f ≤ 3)
    pub ordered : is_scan op ≡ true → k ≤ a
    pub done : calls z s c ≡ gives (put_task s n (started z s op k a f)) report.Moved
    pub row : task (calls z s c).tables n ≡ started z s op k a f

  pub record Steps : Type 0 where
    pub call : c ≡ step n
    pub numbered : n < z.tasks
    pub busy : (task s n).stage ≢ 0
    pub done : calls z s c ≡ gives (apply z (put_own z s n (decide z s n (task s n)).task) (decide z s n (task s n)).write) (decide z s n (task s n)).report
    pub row : task (calls z s c).tables n ≡ (decide z s n (task s n)).task
    pub stack : stack (calls z s c).tables n ≡ stack_then z s (task s n) n

  -- a step of a task that is not at work, or a start that is refused, or a call that is none of the task's
  pub record Rests : Type 0 where
    pub row : task (calls z s c).tables n ≡ task s n
    pub stack : stack (calls z s c).tables n ≡ stack s n
    pub unstepped : c ≡ step n → (task s n).stage ≡ 0
    pub unstarted : (op k a f : ℕ) → c ≡ start n op k a f → (calls z s c).report ≢ report.Moved

  pub data Turn : Type 0 where
    begins : (op k a f : ℕ) → Begins op k a f → Turn
    steps : Steps → Turn
    rests : Rests → Turn

-- where an operation at work after call i was before it: call i is its start, its step, or leaves its row
pub data Came (z : Sizes) (run : ℕ → Call) (n op k a f j i : ℕ) : Type 0 where
  begins : j ≡ i → Begins z (tables_at z run i) (run i) n op k a f → Came z run n op k a f j i
  steps : Working z run n op k a f j i → Steps z (tables_at z run i) (run i) n → Came z run n op k a f j i
  rests : Working z run n op k a f j i → Rests z (tables_at z run i) (run i) n → Came z run n op k a f j i

-- some call started an operation on task n that is at work at moment i
pub record Begun (z : Sizes) (run : ℕ → Call) (n i : ℕ) : Type 0 where
  pub operation : ℕ
  pub key : ℕ
  pub argument : ℕ
  pub function : ℕ
  pub started : ℕ
  pub working : Working z run n operation key argument function started i
