-- Each stage's rule, told by what the code has read and written.
use Prim.Native.Nat.{ℕ, zero, suc, ◌+◌, ◌≤◌, ◌<◌, zero-le}
use mathlib.Core.Path.{◌≡◌, refl, sym, ap, ◌∙◌}
use mathlib.Core.Bool.{Bool, true, false}
use mathlib.Core.List.{List}
use native.Mathlib.Nat.{le_antisymm}
use native.Mathlib.Numerals.{add-one}
use borrow.Author.Tests.{lt-ltb, le-ltb, eq-eqb}
use lib.Dec.{eqb}
use lib.ListN.{length, set}
use lib.Seq.{set_out}
use Rattle.std.proofs.Common.{Result, Ok, Err, IsErrAnd}
use Rattle.rules.specs.declared.Sizes.{Sizes}
use Rattle.rules.specs.declared.Directory.{Directory}
use Rattle.rules.specs.declared.Chunk.{Chunk}
use Rattle.rules.specs.declared.Entry.{Entry}
use Rattle.rules.specs.declared.ChunkNo.{ChunkNo}
use Rattle.rules.specs.declared.IndexRow.{IndexRow}
use Rattle.rules.specs.declared.Report.{Report}
use Rattle.rules.specs.declared.Report.TheVariants as report
use Rattle.rules.specs.declared.Refusal.{Refusal}
use Rattle.rules.specs.declared.Refusal.TheVariants.{RebalanceIdle}
use Rattle.rules.specs.declared.RebalanceStage.{RebalanceStage}
use Rattle.rules.specs.declared.RebalanceStage.TheVariants.{Drain, Copy, SwapIn, Index, Release}
use Rattle.rules.specs.Kinds.{number_of, told_by, rebalance_stage_of}
use Rattle.rules.specs.Words.{pick, NONE, entry_no, no_chunk, idle, to_drain, to_copy, to_swap, to_index, to_release}
use Rattle.rules.specs.Tables.{Tables, chunk_at, row, empty_chunk, empty_entry, with_directory, with_index, with_chunks, with_entries}
use Rattle.rules.specs.Walks.{locate, before_from}
use Rattle.rules.specs.Rebalance.{Outcome, gives, unused_count, held_chunk, frozen_of, with_rebalance, begins, drains, copies, swaps_in, indexes, releases, clears, rebalance_does}
use Rattle.rebalance.specs.Parts.{joined, cleared}

-- ---- the rows that release empties
module _ (z : Sizes) where
  pub cleared-all : (n : ℕ) (es : List Entry) (c : ChunkNo) → n ≤ 0 → cleared z n es c ≡ es
  unfolding cleared
  cleared-all n es c h = rw (le_antisymm h zero-le)

  pub cleared-next : (n m : ℕ) (es : List Entry) (c : ChunkNo) → n ≡ m + 1 → (x : Entry) → x ≡ empty_entry → (es' : List Entry) → es' ≡ set es (row z c (entry_no m)) x → cleared z n es c ≡ cleared z m es' c
  unfolding cleared
  cleared-next n m es c h x empty es' wrote = rw (h, add-one m, wrote, empty)

  -- the rule writes no other table
  pub clears-rows : (s : Tables) (n : ℕ) (x : Tables) (c : ChunkNo) → clears z s n x c ≡ with_entries x (cleared z n x.entries c)
  unfolding cleared clears
  clears-rows s zero x c = refl
  clears-rows s (suc n) x c = clears-rows s n (with_entries x (set x.entries (row z c (entry_no n)) empty_entry)) c

-- ---- no chunk is before the old one
pub join-none : (z : Sizes) (cs : List Chunk) (d : Directory) → eqb d.first.0 d.old.0 ≡ false → no_chunk ≡ before_from z cs z.chunks d.first d.old → length cs ≤ NONE → cs ≡ joined z cs d
join-none z cs d e q h = rw (e, ← q) (sym (set_out cs NONE _ h))

module _ (z : Sizes) (s : Tables) (d : Directory) (read : d ≡ s.directory) where
  -- ---- begin
  pub begin-few : (k n : ℕ) → d.stage ≡ idle → n ≡ unused_count s.chunks → n < 2 → gives s (report.Refused 7) ≡ begins z s k
  begin-few k n h q l = rw (eq-eqb _ _ (rw read at h), lt-ltb _ _ (rw q at l))

  pub begin-froze : (k n : ℕ) → d.stage ≡ idle → n ≡ unused_count s.chunks → 2 ≤ n → (c : ChunkNo) → c ≡ locate z s k → (x : Chunk) → x ≡ chunk_at s.chunks c
      → (d' : Directory) → d' ≡ with_rebalance d to_drain c no_chunk no_chunk → (ix : List IndexRow) → ix ≡ s.index → (cs : List Chunk) → cs ≡ set s.chunks c.0 (frozen_of x)
      → gives (with_chunks (with_index (with_directory s d') ix) cs) report.Moved ≡ begins z s k
  begin-froze k n h q l c at x row d' done ix kept cs wrote = rw (eq-eqb _ _ (rw read at h), le-ltb _ _ (rw q at l), done, kept, wrote, row, at, read)

  -- ---- release
  pub release-ends : held_chunk s.tasks d.old ≡ false → (es : List Entry) → es ≡ cleared z z.entries s.entries d.old → (cs : List Chunk) → cs ≡ set s.chunks d.old.0 empty_chunk
      → (d' : Directory) → d' ≡ with_rebalance d idle no_chunk no_chunk no_chunk → (ix : List IndexRow) → ix ≡ s.index → gives (with_entries (with_chunks (with_index (with_directory s d') ix) cs) es) report.Finished ≡ releases z s
  release-ends h es empty cs unused d' done ix kept = rw (rw read at h, clears-rows, done, kept, unused, empty, read)

-- ---- which stage it is
module _ (z : Sizes) (s : Tables) where
  abbrev pub staged : Result RebalanceStage Refusal → Outcome
  staged (Ok Drain) = drains z s
  staged (Ok Copy) = copies z s
  staged (Ok SwapIn) = swaps_in z s
  staged (Ok Index) = indexes z s
  staged (Ok Release) = releases z s
  staged (Err why) = gives s (report.Refused (number_of why))

  does-stage : (n : ℕ) → staged (rebalance_stage_of n) ≡ rebalance_does n z s
  unfolding rebalance_does
  does-stage n = go (eqb n to_drain) (eqb n to_copy) (eqb n to_swap) (eqb n to_index) (eqb n to_release)
    where
      go : (a b c d e : Bool) → staged (pick a (Ok Drain) (pick b (Ok Copy) (pick c (Ok SwapIn) (pick d (Ok Index) (pick e (Ok Release) (Err RebalanceIdle))))))
          ≡ pick a drains (pick b copies (pick c swaps_in (pick d indexes (pick e releases (λ z s. gives s (report.Refused 8)))))) z s
      go true b c d e = refl
      go false true c d e = refl
      go false false true d e = refl
      go false false false true e = refl
      go false false false false true = refl
      go false false false false false = refl

  module _ (d : Directory) (read : d ≡ s.directory) (r : Result RebalanceStage Refusal) (told : r ≡ rebalance_stage_of d.stage) where
    pub does-one : (x e : RebalanceStage) → r ≡ Ok x → x ≡ e → staged (Ok e) ≡ rebalance_does s.directory.stage z s
    does-one x e was is = ap staged (ap Ok (sym is) ∙ sym was ∙ told) ∙ does-stage d.stage ∙ rw read

    pub does-none : (w : Refusal) → r ≡ Err w → (q : Result Report Refusal) → IsErrAnd q (λ e. e ≡ w) → gives s (told_by q) ≡ rebalance_does s.directory.stage z s
    does-none w was (Ok x) is = absurd is
    does-none w was (Err e) is = ap staged (ap Err is ∙ sym was ∙ told) ∙ does-stage d.stage ∙ rw read
