-- No call of the rebalance changes an entry of a chunk that a task holds.
use Prim.Native.Nat.{ℕ, ◌+◌, ◌/◌, ◌≤◌, ◌<◌}
use mathlib.Core.Path.{◌≡◌, refl, ap, ◌∙◌}
use mathlib.Core.Logic.{⊎_elim, ◌≢◌}
use mathlib.Core.List.{List}
use native.Mathlib.Nat.{le_refl, zero-add}
use native.Mathlib.Omega.{arith}
use lib.Dec.{eqb, ltb, leb}
use lib.ListN.{length, set, take, drop}
use borrow.Author.Tests.{leb-false, eqb-true}
use Rattle.rules.specs.declared.Sizes.{Sizes}
use Rattle.rules.specs.declared.Directory.{Directory}
use Rattle.rules.specs.declared.Entry.{Entry}
use Rattle.rules.specs.declared.ChunkNo.{ChunkNo}
use Rattle.rules.specs.declared.EntryNo.{EntryNo}
use Rattle.rules.specs.Words.{NONE, no_chunk, unused, live, retired, idle, to_drain, to_copy, to_swap, to_index, to_release}
use Rattle.rules.specs.Tables.{Tables, chunk, entry_at, task, with_directory, with_chunks, with_entries}
use Rattle.rules.specs.Rebalance.{Outcome, unused_count, unused_from, published_on, held_chunk, naming_from, at, begins, drains, copies, swaps_in, releases, rebalance_does, at_rest}
use Rattle.rules.specs.Calls.{does}
use Rattle.rules.specs.Calls.Call.{rebalance}
use Rattle.laws.proofs.Tests.{picked}
use Rattle.views.specs.Copies.{filled}
use Rattle.views.proofs.Copies.{fill_is, clears-is, filled-length, filled-other, cleared-other}
use Rattle.statements.specs.Sound.{Limited}
use Rattle.facts.specs.Facts.{Kept}
use Rattle.facts.proofs.SwapIn.{swap-by}
use Rattle.facts.proofs.Copying
use Rattle.facts.proofs.Making.{new_row}
use Rattle.facts.proofs.Releasing.{none-holds}

module _ (z : Sizes) (lim : Limited z) (s : Tables) (kept : Kept z s) where
  -- the entries of every chunk that a task holds are as they were
  abbrev pub HeldRows : Tables → Type 0
  HeldRows x = (n : ℕ) → (task s n).chunk.0 < z.chunks → (e : EntryNo) → e.0 < z.entries → entry_at z x.entries (task s n).chunk e ≡ entry_at z s.entries (task s n).chunk e

  unmoved : HeldRows s
  unmoved n b e i = refl

  -- a held chunk is in use
  in_use : (n : ℕ) → (task s n).chunk.0 < z.chunks → (c : ChunkNo) → (chunk s c).status ≡ unused → (task s n).chunk ≢ c
  in_use n b c u p = ⊎_elim three (λ w. one w.0) ((kept.tasks n).chunk-of-key b)
    where
      is-unused : (chunk s (task s n).chunk).status ≡ unused
      is-unused = ap (λ (c : ChunkNo). (chunk s c).status) p ∙ u

      three : (chunk s (task s n).chunk).status ≡ retired → ⊥
      three w = omega (arith, is-unused)

      one : (chunk s (task s n).chunk).status ≡ live → ⊥
      one w = omega (arith, is-unused)

  pub begin-rows : (k : ℕ) → HeldRows (begins z s k).tables
  begin-rows k = picked (λ (o : Outcome). HeldRows o.tables) (eqb s.directory.stage idle) (λ _. picked (λ (o : Outcome). HeldRows o.tables) (ltb (unused_count s.chunks) 2) (λ _. unmoved) (λ _. unmoved)) (λ _. unmoved)

  drain-rows : HeldRows (drains z s).tables
  drain-rows = picked (λ (o : Outcome). HeldRows o.tables) (published_on s.tasks s.directory.old) (λ _. unmoved) (λ _. unmoved)

  swap-rows : HeldRows (swaps_in z s).tables
  swap-rows = swap-by z s HeldRows unmoved (λ x o. o) (λ x o. o) (λ x o. o) (λ x o. o) (λ x d o. o)

  release-rows : s.directory.stage ≡ to_release → HeldRows (releases z s).tables
  release-rows stage = picked (λ (o : Outcome). HeldRows o.tables) (held_chunk s.tasks gone) (λ _. unmoved) (λ free. rw (clears-is z gone s z.entries (with_directory s to)) (λ n b e i. cleared-other z gone gone-in z.entries s.entries (task s n).chunk e (le_refl _) kept.tables.entries-sized i (λ p. absurd (none-holds s.tasks gone n free some (ap (λ (c : ChunkNo). c.0) p)))))
    where
      gone : ChunkNo
      gone = s.directory.old

      to : Directory
      to = at_rest s.directory

      gone-in : gone.0 < z.chunks
      gone-in = kept.tables.rebalancing.old (omega arith)

      some : gone.0 ≢ NONE
      some e = omega (arith, lim.chunks, gone-in)

  -- ---- copy
  module _ (copying : s.directory.stage ≡ to_copy) where
    abbrev old : ChunkNo
    old = s.directory.old

    abbrev l : List Entry
    l = naming_from z s.entries old z.entries (chunk s old).head

    abbrev a : ChunkNo
    a = unused_from s.chunks 0

    abbrev b : ChunkNo
    b = unused_from (drop (a.0 + 1) s.chunks) (a.0 + 1)

    abbrev l₁ : List Entry
    l₁ = take ((length l + 1) / 2) l

    abbrev l₂ : List Entry
    l₂ = drop ((length l + 1) / 2) l

    copy-rows : HeldRows (copies z s).tables
    copy-rows =
        picked (λ (o : Outcome). HeldRows o.tables) (leb (length l) (z.entries / 2))
        (λ _. rw (fill_is z a (with_directory s (at z s to_swap a no_chunk)) 0 l) (λ n i e j. first l (Copying.l-short z lim s kept copying) n i e j))
        (λ t. let over = leb-false _ _ t in rw (fill_is z a (with_directory s (at z s to_swap a b)) 0 l₁, fill_is z b (with_chunks (with_entries (with_directory s (at z s to_swap a b)) (filled z a 0 l₁ s.entries)) (set s.chunks a.0 (new_row (chunk s old).min l₁))) 0 l₂)
        (λ n i e j. filled-other z b (Copying.b-free z lim s kept copying).0 0 l₂ (filled z a 0 l₁ s.entries) (task s n).chunk e (rw zero-add (Copying.l₂-short z lim s kept copying over)) (filled-length z a 0 l₁ s.entries ∙ kept.tables.entries-sized) j (λ p. absurd (in_use n i b (Copying.b-free z lim s kept copying).1 p)) ∙ first l₁ (Copying.l₁-short z lim s kept copying over) n i e j))
      where
        first : (r : List Entry) → length r ≤ z.entries → (n : ℕ) → (task s n).chunk.0 < z.chunks → (e : EntryNo) → e.0 < z.entries → entry_at z (filled z a 0 r s.entries) (task s n).chunk e ≡ entry_at z s.entries (task s n).chunk e
        first r short n i e j = filled-other z a (Copying.a-free z lim s kept copying).0 0 r s.entries (task s n).chunk e (rw zero-add short) kept.tables.entries-sized j (λ p. absurd (in_use n i a (Copying.a-free z lim s kept copying).1 p))

  pub rebalance-rows : HeldRows (does z s rebalance).tables
  unfolding does rebalance_does
  rebalance-rows =
      picked Q (eqb s.directory.stage to_drain) (λ _. drain-rows)
      (λ _. picked Q (eqb s.directory.stage to_copy) (λ e. copy-rows (eqb-true _ _ e))
      (λ _. picked Q (eqb s.directory.stage to_swap) (λ _. swap-rows)
      (λ _. picked Q (eqb s.directory.stage to_index) (λ _. unmoved)
      (λ _. picked Q (eqb s.directory.stage to_release) (λ e. release-rows (eqb-true _ _ e)) (λ _. unmoved)))))
    where
      Q : (Sizes → Tables → Outcome) → Type 0
      Q f = HeldRows (f z s).tables
