-- The facts of handles that keep one key to each: one_key, new-own and old-key.
use Rattle.std.specs.Prelude.{ℕ, ◌<◌, ◌≡◌, ◌≢◌, List}
use Rattle.rules.specs.declared.Sizes.{Sizes}
use Rattle.rules.specs.declared.Task.{Task}
use Rattle.rules.specs.declared.Entry.{Entry}
use Rattle.rules.specs.declared.ChunkNo.{ChunkNo}
use Rattle.rules.specs.declared.EntryNo.{EntryNo}
use Rattle.rules.specs.Tables.{entry_at}

-- a row of the entries' table
pub record Row (z : Sizes) (c : ChunkNo) (e : EntryNo) : Type 0 where
  pub chunk : c.0 < z.chunks
  pub entry : e.0 < z.entries

-- an entry names the handle, under the key
pub record NamedUnder (z : Sizes) (es : List Entry) (h k : ℕ) : Type 0 where
  pub chunk : ChunkNo
  pub entry : EntryNo
  pub row : Row z chunk entry
  pub names : (entry_at z es chunk entry).handle.0 ≡ h
  pub keyed : (entry_at z es chunk entry).key ≡ k

-- no entry names the handle
abbrev pub Unnamed : Sizes → List Entry → ℕ → Type 0
Unnamed z es h = (c : ChunkNo) (e : EntryNo) → Row z c e → (entry_at z es c e).handle.0 ≢ h

-- one_key: a handle is named under one key, in all rows
abbrev pub OneKey : Sizes → List Entry → Type 0
OneKey z es = (h j k : ℕ) → h < z.handles → NamedUnder z es h j → NamedUnder z es h k → j ≡ k

-- new-own: a taken handle that is not yet swapped in is named nowhere, and no other task holds it
pub record NewOwn (z : Sizes) (es : List Entry) (tasks : ℕ → Task) (n : ℕ) : Type 0 where
  pub unnamed : Unnamed z es (tasks n).new.0
  pub not-old : (m : ℕ) → (tasks m).old.0 ≢ (tasks n).new.0
  pub not_new : (m : ℕ) → m ≢ n → (tasks m).new.0 ≢ (tasks n).new.0

-- old-key: a held old handle is named under no other key than the task's
abbrev pub OldKey : Sizes → List Entry → Task → Type 0
OldKey z es t = (k : ℕ) → t.old.0 < z.handles → NamedUnder z es t.old.0 k → k ≡ t.key

pub record Owned (z : Sizes) (es : List Entry) (tasks : ℕ → Task) : Type 0 where
  pub one_key : OneKey z es
  pub new-own : (n : ℕ) → (tasks n).new.0 < z.handles → (tasks n).swapped ≡ 0 → NewOwn z es tasks n
  pub old-key : (n : ℕ) → OldKey z es (tasks n)

-- every naming entry of the second table has one of the first with its handle and key
abbrev pub Sourced : Sizes → List Entry → List Entry → Type 0
Sourced z es es' = (c : ChunkNo) (e : EntryNo) → Row z c e → (entry_at z es' c e).handle.0 < z.handles → NamedUnder z es (entry_at z es' c e).handle.0 (entry_at z es' c e).key
