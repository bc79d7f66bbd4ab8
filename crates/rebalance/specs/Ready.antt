-- What a stage asks of the tables, which the shape gives, and what two new chunks are made of.
use Rattle.std.specs.Prelude.{ℕ, ◌+◌, ◌*◌, ◌-◌, ◌/◌, ◌<◌, ◌≤◌, ◌≡◌, List, ◌≢◌, length, get_or, set, take, drop}
use Rattle.rules.specs.declared.Sizes.{Sizes}
use Rattle.rules.specs.declared.Directory.{Directory}
use Rattle.rules.specs.declared.Chunk.{Chunk}
use Rattle.rules.specs.declared.Entry.{Entry}
use Rattle.rules.specs.declared.ChunkNo.{ChunkNo}
use Rattle.rules.specs.Words.{unused, to_copy, to_release}
use Rattle.rules.specs.Tables.{chunk_at, empty_entry}
use Rattle.rules.specs.Rebalance.{unused_count}
use Rattle.rows.specs.Rows.{entry_rows}
use Rattle.copying.specs.declared.Place.{Place}
use Rattle.copying.specs.Copied.{filled, naming_at}
use Rattle.rebalance.specs.Parts.{new_of}

-- each table that a stage reads or writes has the words that the sizes ask
pub record Given (z : Sizes) (d ts cs es : List ℕ) : Type 0 where
  pub directory : length d ≡ 6 + z.chunks * 2
  pub tasks : z.tasks * 11 ≤ length ts
  pub chunks : length cs ≡ z.chunks * 6
  pub entries : length es ≡ z.chunks * z.entries * 3

-- the old chunk is one in use, and two others are not
pub record CanCopy (z : Sizes) (d : Directory) (cs : List Chunk) : Type 0 where
  pub old : d.old.0 < z.chunks
  pub in_use : (chunk_at cs d.old).status ≢ unused
  pub two : 2 ≤ unused_count cs

pub record Ready (z : Sizes) (d : Directory) (cs : List Chunk) : Type 0 where
  pub copy : d.stage ≡ to_copy → CanCopy z d cs
  pub release : d.stage ≡ to_release → d.old.0 < z.chunks

module _ (z : Sizes) where
  -- a chunk can be written while another is read
  pub record Apart (c d : ChunkNo) : Type 0 where
    pub within : d.0 < z.chunks
    pub other : c.0 ≢ d.0

  -- so many entries from the place on name a handle, and they can go into chunks a and b
  pub record Halves (cs es : List ℕ) (p : Place) (count : ℕ) (a b : ChunkNo) : Type 0 where
    pub chunks : length cs ≡ z.chunks * 6
    pub entries : length es ≡ z.chunks * z.entries * 3
    pub old : p.chunk.0 < z.chunks
    pub first : Apart p.chunk a
    pub second : Apart p.chunk b
    pub fits : count ≤ z.entries
    pub counted : count ≡ length (naming_at z (entry_rows (z.chunks * z.entries) es) p)

  pub record Halved (cs cs' : List Chunk) (es es' : List Entry) (p : Place) (min count : ℕ) (a b : ChunkNo) : Type 0 where
    pub chunks : cs' ≡ set (set cs a.0 (new_of min ((count + 1) / 2))) b.0 (new_of (get_or (naming_at z es p) ((count + 1) / 2) empty_entry).key (count - (count + 1) / 2))
    pub entries : es' ≡ filled z (filled z es a 0 (take ((count + 1) / 2) (naming_at z es p))) b 0 (drop ((count + 1) / 2) (naming_at z es p))
