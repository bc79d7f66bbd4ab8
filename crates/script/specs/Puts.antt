-- What it means to put a text into a buffer from a place on.
use Rattle.std.specs.Prelude.{ℕ, ◌+◌, ◌≤◌, ◌≡◌, List, [], ◌∷◌, ◌++◌, length, take}

-- where the text has room, it stands after what stood before `at`, and `next` is the place after it
pub record Puts (before after : List ℕ) (at : ℕ) (text : List ℕ) (next : ℕ) : Type 0 where
  pub keeps : length after ≡ length before
  pub moves : at + length text ≤ length before → next ≡ at + length text
  pub puts : at + length text ≤ length before → take next after ≡ take at before ++ text

-- the same of the text and a newline
abbrev pub PutsLine : (before after : List ℕ) (at : ℕ) (text : List ℕ) (next : ℕ) → Type 0
PutsLine before after at text next = Puts before after at (text ++ (10 ∷ [])) next
