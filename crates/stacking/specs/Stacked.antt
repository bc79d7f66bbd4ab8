-- What is asked and said of a task's stack after its step (document 02, E1).
use Rattle.std.specs.Prelude.{ℕ, ◌+◌, ◌*◌, ◌<◌, ◌≡◌, List, length, set}
use Rattle.rules.specs.declared.Sizes.{Sizes}
use Rattle.rules.specs.declared.Task.{Task}
use Rattle.rules.specs.declared.EntryNo.{EntryNo}
use Rattle.rules.specs.Tables.{put_stack}
use Rattle.rules.specs.Stages.{decide, stack_then}
use Rattle.rows.specs.Rows.{task_rows, stack_rows, tables}

-- a task of the table, and tables as long as the sizes ask
pub record Stands (z : Sizes) (ts es : List ℕ) (n : ℕ) : Type 0 where
  pub task : n < z.tasks
  pub tasks : length ts ≡ z.tasks * 11 + z.tasks * z.entries
  pub entries : length es ≡ z.chunks * z.entries * 3

-- task n's stack is w; every other stays, and every task's row
pub record Stacked (z : Sizes) (before after : List ℕ) (n : ℕ) (w : List EntryNo) : Type 0 where
  pub stacks : stack_rows z after ≡ set (stack_rows z before) n w
  pub rows : task_rows z.tasks after ≡ task_rows z.tasks before

-- the stack is what the rules say, where a scan down's row afterwards is what they decide
abbrev pub Restacks : Sizes → (d ts ts' cs es vs ms : List ℕ) → ℕ → Task → Task → Type 0
Restacks z d ts ts' cs es vs ms n t u =
    (t.stage ≡ 23 → u ≡ (decide z (tables z d ts cs es vs ms) n t).task) → tables z d ts' cs es vs ms ≡ put_stack (tables z d ts cs es vs ms) n (stack_then z (tables z d ts cs es vs ms) t n)
