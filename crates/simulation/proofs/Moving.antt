-- No call of the rebalance changes which handles the live chunks name, nor names a handle that was not named.
use Prim.Native.Nat.{ℕ, ◌<◌}
use mathlib.Core.Path.{◌≡◌, refl, sym, ap, ◌∙◌}
use mathlib.Core.Logic.{◌⊎◌, inl, inr, ⊎_elim, ◌≢◌}
use mathlib.Core.List.{List}
use native.Mathlib.Nat.{le_refl}
use native.Mathlib.Omega.{arith}
use lib.Dec.{eqb, ltb}
use lib.ListN.{set}
use borrow.Author.Tests.{eqb-true}
use Rattle.rules.specs.declared.Sizes.{Sizes}
use Rattle.rules.specs.declared.Directory.{Directory}
use Rattle.rules.specs.declared.Chunk.{Chunk}
use Rattle.rules.specs.declared.Entry.{Entry}
use Rattle.rules.specs.declared.ChunkNo.{ChunkNo}
use Rattle.rules.specs.declared.EntryNo.{EntryNo}
use Rattle.rules.specs.declared.IndexRow.{IndexRow}
use Rattle.rules.specs.Words.{live, retired, idle, to_drain, to_copy, to_swap, to_index, to_release}
use Rattle.rules.specs.Tables.{Tables, empty_chunk, chunk_at, chunk, entry_at, with_directory}
use Rattle.rules.specs.Walks.{locate}
use Rattle.rules.specs.Rebalance.{Outcome, unused_count, published_on, held_chunk, frozen_of, with_next_chunk, begins, drains, swaps_in, indexes, releases, rebalance_does, at_rest}
use Rattle.rules.specs.Calls.{does}
use Rattle.rules.specs.Calls.Call.{rebalance}
use Rattle.laws.proofs.Tests.{picked}
use Rattle.views.specs.Copies.{cleared}
use Rattle.views.proofs.Rows.{chunk-either}
use Rattle.views.proofs.Copies.{clears-is, cleared-other}
use Rattle.statements.specs.Sound.{Limited}
use Rattle.facts.specs.Facts.{Rebalancing, Kept}
use Rattle.facts.proofs.Writes.{same-chunk}
use Rattle.facts.proofs.Swapping
use Rattle.facts.specs.Swapped.{before_old}
use Rattle.facts.proofs.SwapIn.{swap-by, swap-in-kept}
use Rattle.handles.specs.Owned.{Sourced}
use Rattle.handles.proofs.Naming.{sourced-same}
use Rattle.handles.proofs.Owning.{OwnedBy, copy-sourced, cleared-sourced}
use Rattle.holds.specs.Held.{Held}
use Rattle.holds.specs.Unlinked.{UnlinkedNone}
use Rattle.holds.proofs.Holding.{swap-live}
use Rattle.simulation.specs.Named.{NamedIn, LiveNamed, Copied, CopiedThen}
use Rattle.simulation.proofs.Copied.{named-like, SameLive, copy-names}

module _ (z : Sizes) (lim : Limited z) (s : Tables) (kept : Kept z s) (own : OwnedBy z s) (held : Held z s) (un : UnlinkedNone z s.chunks s.entries) (copied : CopiedThen z s.directory s.entries) where
  -- every chunk's status is as it was
  same_live : (cs : List Chunk) (d : Directory) (x : List IndexRow) → ((c : ChunkNo) → (chunk_at cs c).status ≡ (chunk s c).status) → SameLive z s (record { directory = d; tasks = s.tasks; chunks = cs; entries = s.entries; values = s.values; marks = s.marks; stacks = s.stacks; index = x })
  same_live cs d x same =
      record {
        to = λ h k i v. record { chunk = v.chunk; numbered = v.numbered; is_live = same v.chunk ∙ v.is_live; named = v.named };
        from = λ h k i v. record { chunk = v.chunk; numbered = v.numbered; is_live = sym (same v.chunk) ∙ v.is_live; named = v.named };
      }

  abbrev Moves : Tables → Type 0
  Moves x = SameLive z s x × Sourced z s.entries x.entries

  unmoved : Moves s
  unmoved = (same_live s.chunks s.directory s.index (λ c. refl), sourced-same z s.entries)

  pub begin-moves : (k : ℕ) → Moves (begins z s k).tables
  begin-moves k =
      picked (λ (o : Outcome). Moves o.tables) (eqb s.directory.stage idle)
      (λ _. picked (λ (o : Outcome). Moves o.tables) (ltb (unused_count s.chunks) 2) (λ _. unmoved)
      (λ _. (same_live (set s.chunks (locate z s k).0 (frozen_of (chunk s (locate z s k)))) _ _ (λ c. chunk-either s.chunks (locate z s k) (frozen_of (chunk s (locate z s k))) c (λ y. y.status ≡ (chunk s c).status) (λ p. ap (λ (c : ChunkNo). (chunk s c).status) (sym p)) refl), sourced-same z s.entries)))
      (λ _. unmoved)

  drain-moves : Moves (drains z s).tables
  drain-moves = picked (λ (o : Outcome). Moves o.tables) (published_on s.tasks s.directory.old) (λ _. unmoved) (λ _. (same_live s.chunks _ _ (λ c. refl), sourced-same z s.entries))

  -- ---- swap in
  module _ (stage : s.directory.stage ≡ to_swap) where
    abbrev s' : Tables
    s' = (swaps_in z s).tables

    abbrev old : ChunkNo
    old = s.directory.old

    abbrev a : ChunkNo
    a = s.directory.new

    abbrev b : ChunkNo
    b = s.directory.second

    c : Copied z s.directory s.entries
    c = copied stage

    q' : Rebalancing z s'.directory s'.chunks
    q' = (swap-in-kept z lim s kept stage).tables.rebalancing

    same_entries : s'.entries ≡ s.entries
    same_entries = swap-by z s (λ x. x.entries ≡ s.entries) refl (λ x e. e) (λ x e. e) (λ x e. e) (λ x e. e) (λ x d e. e)

    old-in : old.0 < z.chunks
    old-in = Swapping.old-in z lim s kept stage

    a_in : a.0 < z.chunks
    a_in = Swapping.a_in z lim s kept stage

    a-live : (chunk_at s'.chunks a).status ≡ live
    a-live = ((q'.roles a a_in).new (λ e. kept.tables.rebalancing.old-new (Swapping.late z lim s kept stage) e) (inl refl)).1

    b-live : b.0 < z.chunks → (chunk_at s'.chunks b).status ≡ live
    b-live i = ((q'.roles b i).new (λ e. kept.tables.rebalancing.old-second (Swapping.late z lim s kept stage) e) (inr refl)).1

    old-gone : (chunk_at s'.chunks old).status ≡ live → ⊥
    old-gone e = omega (arith, e, ((q'.roles old old-in).old refl).1)

    -- another chunk's status is as it was
    other : (f : ChunkNo) → f ≢ old → f ≢ a → f ≢ b → (chunk_at s'.chunks f).status ≡ (chunk s f).status
    other f n1 n2 n3 =
        swap-by z s Same refl (λ x. chunk-either x.chunks (before_old z s) (with_next_chunk (chunk s (before_old z s)) a) f (λ y. y.status ≡ (chunk s f).status) (λ p. ap (λ (c : ChunkNo). (chunk s c).status) (sym p)))
        (λ x. chunk-either x.chunks a _ f (λ y. y.status ≡ (chunk s f).status) (λ p. absurd (n2 p))) (λ x. chunk-either x.chunks b _ f (λ y. y.status ≡ (chunk s f).status) (λ p. absurd (n3 p))) (λ x. chunk-either x.chunks old _ f (λ y. y.status ≡ (chunk s f).status) (λ p. absurd (n1 p))) (λ x d e. e)
      where
        Same : Tables → Type 0
        Same x = (chunk_at x.chunks f).status ≡ (chunk s f).status

    swap-to : (h k : ℕ) → h < z.handles → LiveNamed z s.chunks s.entries h k → LiveNamed z s'.chunks s.entries h k
    swap-to h k i v = ⊎_elim (λ (p : v.chunk ≡ old). from_old (c.kept h k i (rw p at v.named))) (λ ne. record { chunk = v.chunk; numbered = v.numbered; is_live = swap-live z lim s kept held v.chunk v.is_live ne; named = v.named }) (same-chunk v.chunk old)
      where
        from_old : NamedIn z s.entries a h k ⊎ ((b.0 < z.chunks) × NamedIn z s.entries b h k) → LiveNamed z s'.chunks s.entries h k
        from_old (inl w) = record { chunk = a; numbered = a_in; is_live = a-live; named = w }
        from_old (inr w) = record { chunk = b; numbered = w.0; is_live = b-live w.0; named = w.1 }

    swap-from : (h k : ℕ) → h < z.handles → LiveNamed z s'.chunks s.entries h k → LiveNamed z s.chunks s.entries h k
    swap-from h k i v =
        ⊎_elim (λ (p : v.chunk ≡ a). of-old (c.first h k i (rw p at v.named)))
        (λ n2. ⊎_elim (λ (p : v.chunk ≡ b). of-old (c.second h k i (rw p at v.numbered) (rw p at v.named)))
        (λ n3. record { chunk = v.chunk; numbered = v.numbered; is_live = sym (other v.chunk (λ p. old-gone (rw p at v.is_live)) n2 n3) ∙ v.is_live; named = v.named }) (same-chunk v.chunk b)) (same-chunk v.chunk a)
      where
        of-old : NamedIn z s.entries old h k → LiveNamed z s.chunks s.entries h k
        of-old w = record { chunk = old; numbered = old-in; is_live = Swapping.old-live z lim s kept stage; named = w }

    swap-moves : Moves s'
    swap-moves = rw same_entries (record { to = swap-to; from = swap-from }, sourced-same z s.entries)

  index-moves : Moves (indexes z s).tables
  index-moves = (same_live s.chunks _ _ (λ c. refl), sourced-same z s.entries)

  -- ---- release
  release-moves : s.directory.stage ≡ to_release → Moves (releases z s).tables
  release-moves stage = picked (λ (o : Outcome). Moves o.tables) (held_chunk s.tasks s.directory.old) (λ _. unmoved) (λ _. rw (clears-is z gone s z.entries (with_directory s to)) (record { to = λ h k i v. on v; from = λ h k i v. back v }, cleared-sourced z lim s.entries kept.tables.entries-sized gone gone-in))
    where
      gone : ChunkNo
      gone = s.directory.old

      to : Directory
      to = at_rest s.directory

      gone-in : gone.0 < z.chunks
      gone-in = kept.tables.rebalancing.old (omega arith)

      es : List Entry
      es = cleared z gone z.entries s.entries

      cs : List Chunk
      cs = set s.chunks gone.0 empty_chunk

      is-retired : (chunk s gone).status ≡ retired
      is-retired = ((kept.tables.rebalancing.roles gone gone-in).old refl).1 ∙ rw stage refl

      rows : (c : ChunkNo) → c ≢ gone → (e : EntryNo) → e.0 < z.entries → entry_at z es c e ≡ entry_at z s.entries c e
      rows c ne e b = cleared-other z gone gone-in z.entries s.entries c e (le_refl _) kept.tables.entries-sized b (λ p. absurd (ne p))

      other : (c : ChunkNo) → c ≢ gone → (chunk_at cs c).status ≡ (chunk s c).status
      other c ne = chunk-either s.chunks gone empty_chunk c (λ y. y.status ≡ (chunk s c).status) (λ p. absurd (ne p)) refl

      on : {h k : ℕ} → LiveNamed z s.chunks s.entries h k → LiveNamed z cs es h k
      on v = record { chunk = v.chunk; numbered = v.numbered; is_live = other v.chunk ne ∙ v.is_live; named = named-like z s.entries es v.chunk (λ e b _. (ap (λ (y : Entry). y.handle) (rows v.chunk ne e b), ap (λ (y : Entry). y.key) (rows v.chunk ne e b))) v.named }
        where
          ne : v.chunk ≢ gone
          ne p = omega (arith, v.is_live, is-retired, ap (λ (c : ChunkNo). (chunk s c).status) p)

      back : {h k : ℕ} → LiveNamed z cs es h k → LiveNamed z s.chunks s.entries h k
      back v = record { chunk = v.chunk; numbered = v.numbered; is_live = sym (other v.chunk ne) ∙ v.is_live; named = named-like z es s.entries v.chunk (λ e b _. (ap (λ (y : Entry). y.handle) (sym (rows v.chunk ne e b)), ap (λ (y : Entry). y.key) (sym (rows v.chunk ne e b)))) v.named }
        where
          empty : (chunk_at cs gone).status ≢ live
          empty = chunk-either s.chunks gone empty_chunk gone (λ y. y.status ≢ live) (λ _ e. omega arith) (λ e. omega (arith, e, is-retired))

          ne : v.chunk ≢ gone
          ne p = empty (ap (λ (c : ChunkNo). (chunk_at cs c).status) (sym p) ∙ v.is_live)

  pub rebalance-moves : Moves (does z s rebalance).tables
  unfolding does rebalance_does
  rebalance-moves =
      picked Q (eqb s.directory.stage to_drain) (λ _. drain-moves)
      (λ _. picked Q (eqb s.directory.stage to_copy) (λ e. ((copy-names z lim s kept un (eqb-true _ _ e)).1, (copy-sourced z lim s kept own (eqb-true _ _ e)).0))
      (λ _. picked Q (eqb s.directory.stage to_swap) (λ e. swap-moves (eqb-true _ _ e))
      (λ _. picked Q (eqb s.directory.stage to_index) (λ _. index-moves)
      (λ _. picked Q (eqb s.directory.stage to_release) (λ e. release-moves (eqb-true _ _ e)) (λ _. unmoved)))))
    where
      Q : (Sizes → Tables → Outcome) → Type 0
      Q f = Moves (f z s).tables
