-- A row of a table read after one was written, and how many chunks are of a kind then.
use Prim.Native.Nat.{ℕ, zero, suc, ◌+◌, ◌*◌, ◌<◌}
use mathlib.Core.Path.{◌≡◌, refl, ap}
use mathlib.Core.Logic.{◌≢◌}
use mathlib.Core.List.{List, [], ◌∷◌}
use native.Mathlib.Nat.{not-suc-le-zero, le_of_suc-le-suc}
use native.Mathlib.Decide.{dec_lt}
use native.Mathlib.Omega.{arith}
use lib.Dec.{eqb}
use lib.ListN.{length, get_or, set, get_or-eq_default}
use lib.Seq.{set_out}
use Rattle.rules.specs.declared.Sizes.{Sizes}
use Rattle.rules.specs.declared.Chunk.{Chunk}
use Rattle.rules.specs.declared.Entry.{Entry}
use Rattle.rules.specs.declared.ChunkNo.{ChunkNo}
use Rattle.rules.specs.declared.EntryNo.{EntryNo}
use Rattle.rules.specs.Words.{pick, chunk_no, entry_no, unused, live}
use Rattle.rules.specs.Tables.{empty_chunk, empty_entry, row, chunk_at, entry_at}
use Rattle.rules.specs.Rebalance.{unused_count}
use Rattle.rules.specs.Shape.{live_count}
use Rattle.laws.proofs.Tests.{by-test}
use Rattle.laws.proofs.Lists.{get_d_set, row_within, row_block, row-place}

-- a chunk that is not unused has a row
pub in-use-row : (cs : List Chunk) (c : ChunkNo) → (chunk_at cs c).status ≢ unused → c.0 < length cs
in-use-row cs c u = elim (dec_lt c.0 (length cs)) [ yes b ↦ b | no out ↦ absurd (u (ap (λ (x : Chunk). x.status) (get_or-eq_default cs empty_chunk (omega arith)))) ]

pub chunk-put : (cs : List Chunk) (d : ChunkNo) (x : Chunk) (c : ChunkNo) (P : Chunk → Type 0) → d.0 < length cs → (c ≡ d → P x) → (c ≢ d → P (chunk_at cs c)) → P (chunk_at (set cs d.0 x) c)
chunk-put cs d x c P b f g = get_d_set cs d.0 x empty_chunk c.0 P b (λ e. f (ap chunk_no e)) (λ ne. g (λ e. ne (ap (λ (c : ChunkNo). c.0) e)))

-- the same of any number
pub chunk-either : (cs : List Chunk) (d : ChunkNo) (x : Chunk) (c : ChunkNo) (P : Chunk → Type 0) → (c ≡ d → P x) → P (chunk_at cs c) → P (chunk_at (set cs d.0 x) c)
chunk-either cs d x c P f g = elim (dec_lt d.0 (length cs)) [ yes b ↦ chunk-put cs d x c P b f (λ _. g) | no out ↦ rw (set_out cs d.0 x (omega arith)) g ]

pub entry-put : (z : Sizes) (es : List Entry) (d : ChunkNo) (i : EntryNo) (x : Entry) (c : ChunkNo) (e : EntryNo) (P : Entry → Type 0) →
    length es ≡ z.chunks * z.entries → d.0 < z.chunks → i.0 < z.entries → e.0 < z.entries →
    (c ≡ d → e ≡ i → P x) → ((c ≡ d → e ≡ i → ⊥) → P (entry_at z es c e)) → P (entry_at z (set es (row z d i) x) c e)
entry-put z es d i x c e P len b bi be f g =
    get_d_set es (row z d i) x empty_entry (row z c e) P (rw len (row_within d.0 i.0 z.chunks z.entries b bi))
    (λ q. f (ap chunk_no (row_block c.0 e.0 d.0 i.0 z.entries be bi q)) (ap entry_no (row-place c.0 e.0 d.0 i.0 z.entries be bi q)))
    (λ ne. g (λ p q. ne (numbered p q)))
  where
    numbered : c ≡ d → e ≡ i → row z c e ≡ row z d i
    numbered p q = rw (p, q)

-- ---- how many chunks have a status
tally : ℕ → List Chunk → ℕ
tally n [] = 0
tally n (x ∷ l) = pick (eqb x.status n) (tally n l + 1) (tally n l)

-- 1 where the chunk has the status
abbrev pub one : ℕ → Chunk → ℕ
one n x = pick (eqb x.status n) 1 0

tally-cons : (n : ℕ) (x : Chunk) (l : List Chunk) → tally n (x ∷ l) ≡ tally n l + one n x
unfolding tally
tally-cons n x l = by-test (eqb x.status n) (λ t. rw t) (λ t. rw t (omega arith))

tally-set : (n : ℕ) (cs : List Chunk) (i : ℕ) (x : Chunk) → i < length cs → tally n (set cs i x) + one n (get_or cs i empty_chunk) ≡ tally n cs + one n x
tally-set n [] i x b = absurd (not-suc-le-zero b)
tally-set n (y ∷ cs) zero x b = rw (tally-cons n x cs, tally-cons n y cs) (omega arith)
tally-set n (y ∷ cs) (suc i) x b = rw (tally-cons n y (set cs i x), tally-cons n y cs) (omega (arith, tally-set n cs i x (le_of_suc-le-suc b)))

live-tally : (cs : List Chunk) → live_count cs ≡ tally live cs
unfolding live_count tally
live-tally [] = refl
live-tally (x ∷ cs) = rw (live-tally cs)

unused-tally : (cs : List Chunk) → unused_count cs ≡ tally unused cs
unfolding unused_count tally
unused-tally [] = refl
unused-tally (x ∷ cs) = rw (unused-tally cs)

pub live-set : (cs : List Chunk) (c : ChunkNo) (x : Chunk) → c.0 < length cs → live_count (set cs c.0 x) + one live (chunk_at cs c) ≡ live_count cs + one live x
live-set cs c x b = rw (live-tally (set cs c.0 x), live-tally cs) (tally-set live cs c.0 x b)

pub unused-set : (cs : List Chunk) (c : ChunkNo) (x : Chunk) → c.0 < length cs → unused_count (set cs c.0 x) + one unused (chunk_at cs c) ≡ unused_count cs + one unused x
unused-set cs c x b = rw (unused-tally (set cs c.0 x), unused-tally cs) (tally-set unused cs c.0 x b)
