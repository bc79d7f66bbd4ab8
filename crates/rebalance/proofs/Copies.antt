-- Copy's rule, told by what the code has read and written.
use Prim.Native.Nat.{ℕ, ◌+◌, ◌/◌, ◌≤◌, ◌<◌}
use mathlib.Core.Path.{◌≡◌}
use mathlib.Core.List.{List}
use native.Mathlib.Omega.{arith}
use borrow.Author.Tests.{le-leb, lt-leb}
use lib.ListN.{length, set, take, drop, length-drop}
use lib.Seq.{take-length, length-take-le}
use Rattle.rules.specs.declared.Sizes.{Sizes}
use Rattle.rules.specs.declared.Directory.{Directory}
use Rattle.rules.specs.declared.Chunk.{Chunk}
use Rattle.rules.specs.declared.Entry.{Entry}
use Rattle.rules.specs.declared.ChunkNo.{ChunkNo}
use Rattle.rules.specs.declared.IndexRow.{IndexRow}
use Rattle.rules.specs.declared.Report.TheVariants as report
use Rattle.rules.specs.Words.{no_chunk, to_swap}
use Rattle.rules.specs.Tables.{Tables, chunk_at, with_directory, with_index, with_chunks, with_entries}
use Rattle.rules.specs.Rebalance.{gives, unused_from, naming_from, with_rebalance, copies}
use Rattle.copying.specs.Copied.{filled}
use Rattle.copying.proofs.Laws.{fill-rows}
use Rattle.rebalance.specs.Parts.{new_of}
use Rattle.rebalance.specs.Ready.{Halved}

module _ (z : Sizes) (s : Tables) (d : Directory) (read : d ≡ s.directory) (x : Chunk) (row : x ≡ chunk_at s.chunks d.old)
    (n : ℕ) (counted : n ≡ length (naming_from z s.entries d.old z.entries x.head)) (a : ChunkNo) (lowest : a ≡ unused_from s.chunks 0) where
  pub copy-one : n ≤ z.entries / 2 → (es : List Entry) → es ≡ filled z s.entries a 0 (take n (naming_from z s.entries d.old z.entries x.head)) → (cs : List Chunk) → cs ≡ set s.chunks a.0 (new_of x.min n)
      → (d' : Directory) → d' ≡ with_rebalance d to_swap d.old a no_chunk → (ix : List IndexRow) → ix ≡ s.index → gives (with_entries (with_chunks (with_index (with_directory s d') ix) cs) es) report.Moved ≡ copies z s
  copy-one few es copied cs made d' done ix kept =
      let l : List Entry = naming_from z s.entries s.directory.old z.entries (chunk_at s.chunks s.directory.old).head in
      rw (done, kept, made, copied, lowest, counted, row, read) (rw (take-length l, le-leb (length l) (z.entries / 2) (rw (counted, row, read) at few), fill-rows))

  pub copy-two : z.entries / 2 < n → (b : ChunkNo) → b ≡ unused_from (drop (a.0 + 1) s.chunks) (a.0 + 1) → (cs : List Chunk) (es : List Entry) → Halved z s.chunks cs s.entries es (record { chunk = d.old; entry = x.head; left = z.entries }) x.min n a b
      → (d' : Directory) → d' ≡ with_rebalance d to_swap d.old a b → (ix : List IndexRow) → ix ≡ s.index → gives (with_entries (with_chunks (with_index (with_directory s d') ix) cs) es) report.Moved ≡ copies z s
  copy-two many b next cs es made d' done ix kept =
      let l : List Entry = naming_from z s.entries s.directory.old z.entries (chunk_at s.chunks s.directory.old).head in
      rw (done, kept, made.chunks, made.entries, next, lowest, counted, row, read)
      (rw (lt-leb (length l) (z.entries / 2) (rw (counted, row, read) at many), fill-rows, fill-rows, length-take-le ((length l + 1) / 2) l (omega arith), length-drop ((length l + 1) / 2) l))
