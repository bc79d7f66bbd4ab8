-- Facts of the handles' records: old-deleted, and the rest of new-own.
use Rattle.std.specs.Prelude.{ℕ, ◌≤◌, ◌<◌, ◌≡◌, ◌≢◌, List, get_or}
use Rattle.rules.specs.declared.Sizes.{Sizes}
use Rattle.rules.specs.declared.Task.{Task}
use Rattle.rules.specs.Tables.{Tables, task}

-- old-deleted: past 4 and 5 a held old handle is deleted
abbrev pub OldDeleted : Sizes → List ℕ → Task → Type 0
OldDeleted z marks t = t.stage ≢ 4 → t.stage ≢ 5 → t.old.0 < z.handles → get_or marks t.old.0 0 ≡ 1

-- new-own: a taken handle that is not swapped in is undeleted; from 10 on it has the argument as its value
abbrev pub NewWritten : Sizes → List ℕ → List ℕ → Task → Type 0
NewWritten z marks values t = t.new.0 < z.handles → t.swapped ≡ 0 → (get_or marks t.new.0 0 ≡ 0) × (10 ≤ t.stage → get_or values t.new.0 0 ≡ t.argument)

pub record Marked (z : Sizes) (s : Tables) : Type 0 where
  pub old-deleted : (n : ℕ) → OldDeleted z s.marks (task s n)
  pub new-written : (n : ℕ) → NewWritten z s.marks s.values (task s n)
