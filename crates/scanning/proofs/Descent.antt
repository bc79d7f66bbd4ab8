-- What the scan down decides, told by the stack's depth and the held chunk's row that the code has read.
use Prim.Native.Nat.{ℕ, ◌-◌, ◌≤◌, ◌<◌}
use mathlib.Core.Path.{◌≡◌, sym, ap, ◌∙◌}
use native.Mathlib.Omega.{arith}
use lib.ListN.{get_or}
use borrow.Author.Tests.{lt-ltb, le-ltb, le-leb, lt-leb}
use Rattle.rules.specs.declared.Sizes.{Sizes}
use Rattle.rules.specs.declared.Task.{Task}
use Rattle.rules.specs.declared.Chunk.{Chunk}
use Rattle.rules.specs.declared.ChunkNo.{ChunkNo}
use Rattle.rules.specs.declared.EntryNo.{EntryNo}
use Rattle.rules.specs.declared.Decision.{Decision}
use Rattle.rules.specs.declared.Write.TheVariants as write
use Rattle.rules.specs.declared.Report.TheVariants as report
use Rattle.rules.specs.Words.{NONE, no_entry, no_handle}
use Rattle.rules.specs.Tables.{Tables, stack, chunk}
use Rattle.rules.specs.Walks.{depth, top, locate}
use Rattle.rules.specs.Stages.{goes_to, moves, finishes, takes_off, scans_down}
use Rattle.walks.proofs.Laws.{top-on, top-off}

-- the stack is to be filled from a chunk
abbrev pub fills_from : Task → ChunkNo → Decision
fills_from t c = moves (goes_to t 23 c no_entry no_handle no_handle 0 0) write.Nothing

module _ (z : Sizes) (s : Tables) (t : Task) (n d : ℕ) (q : d ≡ depth z (stack s n)) where
  -- the entry that is read from the top
  pub read-top : 0 < d → (e : EntryNo) → e ≡ get_or (stack s n) (d - 1) no_entry → e.0 < z.entries
  read-top h e p = rw (p, q) (top-on z (stack s n) (rw q at h))

  pub down-off : 0 < d → (e : EntryNo) → e ≡ get_or (stack s n) (d - 1) no_entry → scans_down z s t n ≡ takes_off z s t e
  down-off h e p =
      let same : top z (stack s n) ≡ e = sym (p ∙ ap (λ (i : ℕ). get_or (stack s n) (i - 1) no_entry) q) in
      rw (same, lt-ltb _ _ (read-top h e p))

  module _ (fits : z.entries ≤ NONE) (h : d ≤ 0) where
    none-on : z.entries ≤ (top z (stack s n)).0
    none-on = top-off z (stack s n) fits (sym q ∙ le-zero d h)
      where
        le-zero : (d : ℕ) → d ≤ 0 → d ≡ 0
        le-zero d h = omega arith

    -- it holds no chunk yet
    pub down-first : z.chunks ≤ t.chunk.0 → scans_down z s t n ≡ fills_from t (locate z s t.argument)
    down-first out = rw (le-ltb _ _ none-on, le-ltb _ _ out)

    module _ (c : t.chunk.0 < z.chunks) (x : Chunk) (p : x ≡ chunk s t.chunk) where
      pub down-lowest : x.min ≤ t.key → scans_down z s t n ≡ finishes write.Nothing report.Done
      down-lowest l = rw (le-ltb _ _ none-on, lt-ltb _ _ c, ← p, le-leb _ _ l)

      pub down-next : t.key < x.min → scans_down z s t n ≡ fills_from t (locate z s (x.min - 1))
      down-next l = rw (le-ltb _ _ none-on, lt-ltb _ _ c, ← p, lt-leb _ _ l)
