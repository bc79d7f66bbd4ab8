-- A chunk's list and the chain of live chunks, as relations between a number and a list of rows.
use Rattle.std.specs.Prelude.{ℕ, ◌+◌, ◌≤◌, ◌<◌, ◌≡◌, eqb, ltb, length, take}
use mathlib.Core.List.{List, [], ◌∷◌, ◌++◌, Memᴰ}
use Rattle.rules.specs.declared.Sizes.{Sizes}
use Rattle.rules.specs.declared.Chunk.{Chunk}
use Rattle.rules.specs.declared.Entry.{Entry}
use Rattle.rules.specs.declared.ChunkNo.{ChunkNo}
use Rattle.rules.specs.declared.EntryNo.{EntryNo}
use Rattle.rules.specs.Words.{pick, NONE, live}
use Rattle.rules.specs.Tables.{Tables, chunk_at, entry_at, stack}
use Rattle.rules.specs.Walks.{depth}
use Rattle.rules.specs.Shape.{live_count}

-- the list from e on is of these entries, used ones, keys ascending from k on
module _ (z : Sizes) (es : List Entry) (c : ChunkNo) (used : ℕ) where
  unfoldable pub Links : ℕ → EntryNo → List EntryNo → Type 0
  Links k e [] = e.0 ≡ NONE
  Links k e (x ∷ l) = (e ≡ x) × (x.0 < used) × (k ≤ (entry_at z es c x).key) × Links ((entry_at z es c x).key + 1) (entry_at z es c x).next l

-- the entries on a stack of those words, from the bottom, and on a task's
abbrev pub on_words : Sizes → List EntryNo → List EntryNo
on_words z w = take (depth z w) w

abbrev pub on_stack : Sizes → Tables → ℕ → List EntryNo
on_stack z s n = on_words z (stack s n)

-- an entry with the key k, put into a list of entries where its key belongs
module _ (z : Sizes) (es : List Entry) (c : ChunkNo) (e : EntryNo) (k : ℕ) where
  unfoldable pub put_in : List EntryNo → List EntryNo
  put_in [] = e ∷ []
  put_in (x ∷ l) = let on = x ∷ put_in l in pick (ltb (entry_at z es c x).key k) on (e ∷ x ∷ l)

  -- what stands first then, where a stood
  unfoldable pub start_of : EntryNo → List EntryNo → EntryNo
  start_of a [] = e
  start_of a (x ∷ l) = pick (ltb (entry_at z es c x).key k) a e

module _ (z : Sizes) (cs : List Chunk) where
  -- the chain from c on is of these chunks, live ones, minimum keys ascending from k on
  unfoldable pub Chain : ℕ → ChunkNo → List ChunkNo → Type 0
  Chain k c [] = c.0 ≡ NONE
  Chain k c (x ∷ l) = (c ≡ x) × (x.0 < z.chunks) × ((chunk_at cs x).status ≡ live) × (k ≤ (chunk_at cs x).min) × Chain ((chunk_at cs x).min + 1) (chunk_at cs x).next l

-- the chain from the first live chunk, from key 0 on, has every live chunk
pub record Chained (z : Sizes) (first : ChunkNo) (cs : List Chunk) : Type 0 where
  pub rest : List ChunkNo
  pub chain : Chain z cs 0 first (first ∷ rest)
  pub from : (chunk_at cs first).min ≡ 0
  pub counted : length (first ∷ rest) ≡ live_count cs
  pub every : (c : ChunkNo) → c.0 < z.chunks → (chunk_at cs c).status ≡ live → Memᴰ c (first ∷ rest)

-- the chain with new ones in the place of one
unfoldable pub replaced : ChunkNo → List ChunkNo → List ChunkNo → List ChunkNo
replaced old new [] = []
replaced old new (x ∷ l) = let on = x ∷ replaced old new l in pick (eqb x.0 old.0) (new ++ l) on
