-- Which handles the entries name: in one chunk, in the live ones, and what is present by it.
use Rattle.std.specs.Prelude.{ℕ, ◌<◌, ◌≡◌, ◌⊎◌, List, ltb, get_or}
use Rattle.std.proofs.Math.Option.{Option, none, some}
use Rattle.rules.specs.declared.Sizes.{Sizes}
use Rattle.rules.specs.declared.Directory.{Directory}
use Rattle.rules.specs.declared.Chunk.{Chunk}
use Rattle.rules.specs.declared.Entry.{Entry}
use Rattle.rules.specs.declared.ChunkNo.{ChunkNo}
use Rattle.rules.specs.declared.EntryNo.{EntryNo}
use Rattle.rules.specs.Words.{pick, live, to_swap}
use Rattle.rules.specs.Tables.{Tables, chunk_at, entry_at, value, task}
use Rattle.rules.specs.Walks.{locate, find, undeleted}
use Rattle.handles.specs.Owned.{NamedUnder}

-- an entry of the chunk names the handle, under the key
pub record NamedIn (z : Sizes) (es : List Entry) (c : ChunkNo) (h k : ℕ) : Type 0 where
  pub entry : EntryNo
  pub inside : entry.0 < z.entries
  pub names : (entry_at z es c entry).handle.0 ≡ h
  pub keyed : (entry_at z es c entry).key ≡ k

-- an entry of a live chunk does
pub record LiveNamed (z : Sizes) (cs : List Chunk) (es : List Entry) (h k : ℕ) : Type 0 where
  pub chunk : ChunkNo
  pub numbered : chunk.0 < z.chunks
  pub is_live : (chunk_at cs chunk).status ≡ live
  pub named : NamedIn z es chunk h k

-- the key is present with the value, by an undeleted handle that a live chunk names
pub record PresentBy (z : Sizes) (s : Tables) (k v : ℕ) : Type 0 where
  pub handle : ℕ
  pub inside : handle < z.handles
  pub named : LiveNamed z s.chunks s.entries handle k
  pub undeleted : get_or s.marks handle 0 ≡ 0
  pub valued : get_or s.values handle 0 ≡ v

-- the value under the key by looking, where the chunk that has it shows one
unfoldable pub present_at : Sizes → Tables → ℕ → Option ℕ
present_at z s k =
    let c = locate z s k in
    let x = entry_at z s.entries c (find z s c k) in
    let seen = pick (undeleted z s.marks x.handle) (some (value s x.handle)) none in
    pick (ltb (find z s c k).0 z.entries) seen none

-- copied: between copy and swap in the new chunks name what the old one names, under the same keys
pub record Copied (z : Sizes) (d : Directory) (es : List Entry) : Type 0 where
  pub kept : (h k : ℕ) → h < z.handles → NamedIn z es d.old h k → NamedIn z es d.new h k ⊎ ((d.second.0 < z.chunks) × NamedIn z es d.second h k)
  pub first : (h k : ℕ) → h < z.handles → NamedIn z es d.new h k → NamedIn z es d.old h k
  pub second : (h k : ℕ) → h < z.handles → d.second.0 < z.chunks → NamedIn z es d.second h k → NamedIn z es d.old h k

abbrev pub CopiedThen : Sizes → Directory → List Entry → Type 0
CopiedThen z d es = d.stage ≡ to_swap → Copied z d es

pub record Lively (z : Sizes) (s : Tables) : Type 0 where
  -- undeleted-live: an undeleted handle that any chunk names is named by a live one
  pub undeleted-live : (h k : ℕ) → h < z.handles → get_or s.marks h 0 ≡ 0 → NamedUnder z s.entries h k → LiveNamed z s.chunks s.entries h k
  -- old-live: a held old handle that is undeleted is named by a live chunk under the task's key
  pub old-live : (n : ℕ) → (task s n).old.0 < z.handles → get_or s.marks (task s n).old.0 0 ≡ 0 → LiveNamed z s.chunks s.entries (task s n).old.0 (task s n).key
