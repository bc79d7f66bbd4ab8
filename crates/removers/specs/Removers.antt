-- Facts of removes that have set their mark, at 16 to 21: deleted-held, remover-sees and remover-done.
use Rattle.std.specs.Prelude.{ℕ, ◌≤◌, ◌<◌, ◌≡◌, get_or}
use Rattle.rules.specs.declared.Sizes.{Sizes}
use Rattle.rules.specs.Tables.{Tables, entry, task}
use Rattle.simulation.specs.Named.{NamedIn, LiveNamed}

-- a live chunk names the handle, under some key
abbrev pub NamedLive : Sizes → Tables → ℕ → Type 0
NamedLive z s h = (k : ℕ) × LiveNamed z s.chunks s.entries h k

-- the task holds the handle, and is a remove past its mark
pub record Removes (z : Sizes) (s : Tables) (h n : ℕ) : Type 0 where
  pub numbered : n < z.tasks
  pub holds : (task s n).old.0 ≡ h
  pub from : 16 ≤ (task s n).stage
  pub to : (task s n).stage ≤ 21

-- deleted-held: a deleted handle that a live chunk names is held by a remove past its mark
abbrev pub DeletedHeld : Sizes → Tables → Type 0
DeletedHeld z s = (h : ℕ) → h < z.handles → get_or s.marks h 0 ≡ 1 → NamedLive z s h → (n : ℕ) × Removes z s h n

pub record Removers (z : Sizes) (s : Tables) : Type 0 where
  pub deleted-held : DeletedHeld z s
  -- remover-sees: while a live chunk names a remover's handle, the chunk that it holds names it under the key
  pub sees-chunk : (n : ℕ) → 17 ≤ (task s n).stage → (task s n).stage ≤ 20 → NamedLive z s (task s n).old.0 → NamedIn z s.entries (task s n).chunk (task s n).old.0 (task s n).key
  -- and so does the entry that it holds
  pub sees-entry : (n : ℕ) → 18 ≤ (task s n).stage → (task s n).stage ≤ 20 → NamedLive z s (task s n).old.0 → (entry z s (task s n).chunk (task s n).entry).handle.0 ≡ (task s n).old.0
  -- remover-done: past its swap to none no live chunk names it
  pub done : (n : ℕ) → (task s n).stage ≡ 21 → NamedLive z s (task s n).old.0 → ⊥
