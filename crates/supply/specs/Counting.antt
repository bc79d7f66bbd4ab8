-- How many of any handles can be taken: one for each key present by one of them, one for each entry of a chunk, two for each task.
use Rattle.std.specs.Prelude.{ℕ, ◌+◌, ◌*◌, ◌≤◌, ◌<◌, ◌≡◌, Bool, true, false, List, [], ◌∷◌, eqb, length}
use Rattle.rules.specs.declared.Sizes.{Sizes}
use Rattle.rules.specs.Words.{pick, handle_no}
use Rattle.rules.specs.Tables.{Tables, entry}
use Rattle.rules.specs.Walks.{locate, find, free}
use Rattle.rules.specs.Map.{Pair}
use Rattle.laws.specs.Counts.{Every, Apart}
use Rattle.simulation.specs.Beside.{Beside}

-- the handle is one of the list
unfoldable pub one_of : List ℕ → ℕ → Bool
one_of [] h = false
one_of (x ∷ l) h = let on = one_of l h in pick (eqb x h) true on

-- the handle that the entry with the key names, in the chunk that has the key
abbrev pub handle_under : Sizes → Tables → ℕ → ℕ
handle_under z s k = let c = locate z s k in (entry z s c (find z s c k)).handle.0

-- the pairs of the map whose key is present by a handle of the list
unfoldable pub keys_in : Sizes → Tables → List ℕ → List Pair → List Pair
keys_in z s hs [] = []
keys_in z s hs (x ∷ m) = let on = keys_in z s hs m in pick (one_of hs (handle_under z s x.key)) (x ∷ on) on

-- a handle of the table that an entry names or a task holds
pub record Taken (z : Sizes) (s : Tables) (h : ℕ) : Type 0 where
  pub inside : h < z.handles
  pub not_free : free s.entries s.tasks (handle_no h) ≡ false

pub record TakenMost (z : Sizes) : Type 0 where
  -- of any handles, no two the same, all taken
  pub taken-most : (s : Tables) (m : List Pair) → Beside z s m → (hs : List ℕ) → Apart (λ h. h) hs → Every (Taken z s) hs → length hs ≤ length (keys_in z s hs m) + z.entries + 2 * z.tasks
