-- Demand 3: live chunks cover all keys and are indexed, lists ascend, no handle is named under two keys, no held handle is handed out again, and handles do not run out.
use Rattle.std.specs.Prelude.{ℕ, suc, ◌+◌, ◌*◌, ◌-◌, ◌≤◌, ◌<◌, ◌≡◌, ◌⊎◌, ◌≢◌, ◌↔◌, true, length}
use mathlib.Core.List.{Memᴰ}
use Rattle.rules.specs.declared.Sizes.{Sizes}
use Rattle.rules.specs.declared.ChunkNo.{ChunkNo}
use Rattle.rules.specs.declared.EntryNo.{EntryNo}
use Rattle.rules.specs.declared.Report.TheVariants as report
use Rattle.rules.specs.Words.{NONE, live, unused, to_swap, to_index}
use Rattle.rules.specs.Tables.{Tables, empty_index, chunk, entry}
use Rattle.rules.specs.Walks.{InRange, locate, chain, live_rows, over, linked}
use Rattle.rules.specs.Shape.{shape}
use Rattle.rules.specs.Calls.{Call}
use Rattle.rules.specs.Calls.Call.{step}
use Rattle.rules.specs.Map.{Ascends}
use Rattle.statements.specs.Runs.{tables_at, map_at, report_at, task_at}

-- sizes for which none is no number of a row, there is a first chunk, and half of a full chunk is an entry at least
pub record Limited (z : Sizes) : Type 0 where
  pub some : 1 ≤ z.chunks
  pub two : 2 ≤ z.entries
  pub chunks : z.chunks ≤ NONE
  pub entries : z.entries ≤ NONE
  pub handles : z.handles ≤ NONE

-- so many keys have a handle for certain: the handles, less two for each task, less the entries of a chunk
abbrev pub promised : Sizes → ℕ
promised z = z.handles - (2 * z.tasks + z.entries)

-- a live chunk of the table
pub record Live (z : Sizes) (s : Tables) (c : ChunkNo) : Type 0 where
  pub numbered : c.0 < z.chunks
  pub is_live : (chunk s c).status ≡ live

-- the index of s has a row for each live chunk of x, its minimum key and its number, in order, and is empty past them
pub record Indexes (z : Sizes) (s x : Tables) : Type 0 where
  pub count : s.directory.indexed ≡ length (chain z x)
  pub rows : s.index ≡ over (live_rows z x) (empty_index z)

-- a used entry of a chunk in use, that is a live, new or retired one
pub record InUse (z : Sizes) (s : Tables) (c : ChunkNo) (e : EntryNo) : Type 0 where
  pub numbered : c.0 < z.chunks
  pub is_used : (chunk s c).status ≢ unused
  pub entry : e.0 < (chunk s c).used

module _ (z : Sizes) (run : ℕ → Call) where
  -- task n holds the handle at moment i, as its old one or its new one
  abbrev pub HoldsHandle : ℕ → ℕ → ℕ → Type 0
  HoldsHandle n h i = ((task_at z run i n).old.0 ≡ h) ⊎ ((task_at z run i n).new.0 ≡ h)

  -- call i hands the handle out: a task takes it as its new one, or a step names it in an entry, and the task did not hold it
  pub data HandsOut (h i : ℕ) : Type 0 where
    takes : (n : ℕ) → (task_at z run i n).new.0 ≢ h → (task_at z run (suc i) n).new.0 ≡ h → HandsOut h i
    names : (n : ℕ) → run i ≡ step n → (HoldsHandle n h i → ⊥) → (c : ChunkNo) (e : EntryNo) →
        (entry z (tables_at z run i) c e).handle.0 ≢ h → (entry z (tables_at z run (suc i)) c e).handle.0 ≡ h → HandsOut h i

  -- call `at` was the swap in, and up to moment i, with its tables s, no index step has come: the index is of the live chunks before that swap in
  pub record AwaitsIndex (i : ℕ) (s : Tables) : Type 0 where
    pub at : ℕ
    pub before : at < i
    pub swaps : (tables_at z run at).directory.stage ≡ to_swap
    pub since : (x : ℕ) → at < x → x ≤ i → (tables_at z run x).directory.stage ≡ to_index
    pub indexes : Indexes z s (tables_at z run at)

  -- at moment i, with its tables s
  pub record SoundAt (i : ℕ) (s : Tables) : Type 0 where
    -- the shape holds, so that no order of calls ever meets 10
    pub shaped : shape z s ≡ true
    pub never-ten : report_at z run i ≢ report.Refused 10
    -- every key lies in the range of the live chunk that locate answers, and in no other's; the chain holds every live chunk, and no other
    pub covered : (k : ℕ) → Live z s (locate z s k) × InRange z s.chunks (locate z s k) k
    pub alone : (k : ℕ) (c : ChunkNo) → Live z s c → InRange z s.chunks c k → c ≡ locate z s k
    pub chained : (c : ChunkNo) → Live z s c ↔ Memᴰ c (chain z s)
    -- the index has a row for each live chunk, and no other, but for between swap in and the index step
    pub indexed : s.directory.stage ≢ to_index → Indexes z s s
    pub awaits : s.directory.stage ≡ to_index → AwaitsIndex i s
    -- the keys of each list ascend, no two equal, and a live chunk's lie in its range
    pub ascending : (c : ChunkNo) → c.0 < z.chunks → Ascends (λ e. (entry z s c e).key) 0 (linked z s c)
    pub within : (c : ChunkNo) → Live z s c → (e : EntryNo) → Memᴰ e (linked z s c) → InRange z s.chunks c (entry z s c e).key
    -- no handle is named under two keys, in all live, new and retired chunks
    pub one_key : (c d : ChunkNo) (e f : EntryNo) → InUse z s c e → InUse z s d f → (entry z s c e).handle.0 < z.handles → (entry z s c e).handle ≡ (entry z s d f).handle → (entry z s c e).key ≡ (entry z s d f).key
    -- no handle that a task holds is handed out, to whatever task
    pub never-handed-out : (n h : ℕ) → h < z.handles → HoldsHandle n h i → HandsOut h i → ⊥
    -- no insertion is refused a handle while fewer keys are present than promised
    pub enough : length (map_at z run i) < promised z → (n : ℕ) → run i ≡ step n → report_at z run i ≢ report.Refused 9
