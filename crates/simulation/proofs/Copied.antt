-- What copy leaves of the names, and that the new chunks name what the old one names.
use Prim.Native.Nat.{ℕ, ◌+◌, ◌/◌, ◌≤◌, ◌<◌}
use mathlib.Core.Path.{◌≡◌, refl, sym, ap, ◌∙◌, subst}
use mathlib.Core.Logic.{◌⊎◌, inl, inr, ⊎_elim, ◌≢◌}
use mathlib.Core.Bool.{true}
use mathlib.Core.List.{List, Memᴰ}
use native.Mathlib.Nat.{le_trans, zero-add}
use native.Mathlib.Decide.{dec_lt}
use native.Mathlib.Omega.{arith}
use lib.Dec.{leb}
use lib.ListN.{length, get_or, set, take, drop}
use borrow.Author.Tests.{leb-false}
use Rattle.rules.specs.Map.{Ascends}
use Rattle.views.specs.Copies.{entry_key, filled}
use Rattle.rules.specs.declared.Sizes.{Sizes}
use Rattle.rules.specs.declared.Chunk.{Chunk}
use Rattle.rules.specs.declared.Entry.{Entry}
use Rattle.rules.specs.declared.ChunkNo.{ChunkNo}
use Rattle.rules.specs.declared.EntryNo.{EntryNo}
use Rattle.rules.specs.declared.HandleNo.{HandleNo}
use Rattle.rules.specs.Words.{NONE, no_chunk, unused, to_copy, to_swap}
use Rattle.rules.specs.Tables.{Tables, empty_entry, chunk_at, chunk, entry_at, with_directory, with_chunks, with_entries}
use Rattle.rules.specs.Walks.{linked}
use Rattle.rules.specs.Rebalance.{Outcome, unused_from, naming_from, makes, at, copies}
use Rattle.rules.specs.Shape.{numbers}
use Rattle.laws.specs.Counts.{Every}
use Rattle.laws.proofs.Tests.{picked}
use Rattle.views.proofs.Copies.{fill_is, filled-rows, filled_in}
use Rattle.views.proofs.Entries.{links-length}
use Rattle.views.proofs.Naming.{take-drop-in, naming-in, naming-every, every_take, every_drop}
use Rattle.statements.specs.Sound.{Limited}
use Rattle.facts.specs.Facts.{Kept}
use Rattle.facts.proofs.Putting.{Based}
use Rattle.facts.proofs.Writes.{inside}
use Rattle.facts.proofs.Making
use Rattle.facts.proofs.Making.{new_row}
use Rattle.facts.proofs.Copying
use Rattle.holds.specs.Unlinked.{UnlinkedNone}
use Rattle.simulation.specs.Named.{NamedIn, LiveNamed, Copied}

-- a row with the names of another
pub named-like : (z : Sizes) (es es' : List Entry) (c : ChunkNo) {h k : ℕ} → ((e : EntryNo) → e.0 < z.entries → (entry_at z es c e).handle.0 ≡ h → ((entry_at z es' c e).handle ≡ (entry_at z es c e).handle) × ((entry_at z es' c e).key ≡ (entry_at z es c e).key)) → NamedIn z es c h k → NamedIn z es' c h k
named-like z es es' c like v = let r = like v.entry v.inside v.names in record { entry = v.entry; inside = v.inside; names = ap (λ (h : HandleNo). h.0) r.0 ∙ v.names; keyed = r.1 ∙ v.keyed }

-- an unused chunk, and the entries that are copied to it
pub record Fills (z : Sizes) (first : ChunkNo) (cs : List Chunk) (es : List Entry) (c : ChunkNo) (l : List Entry) : Type 0 where
  pub base : Based z first cs es
  pub inside : c.0 < z.chunks
  pub empty : (chunk_at cs c).status ≡ unused
  pub short : length l ≤ z.entries
  pub rising : Ascends entry_key 0 l
  pub handles : Every (λ x. numbers z.handles x.handle.0 ≡ true) l

module _ (z : Sizes) (lim : Limited z) (first : ChunkNo) (cs : List Chunk) (es : List Entry) (c : ChunkNo) (min : ℕ) (l : List Entry) (fills : Fills z first cs es c l) where
  abbrev es' : List Entry
  es' = filled z c 0 l es

  abbrev cs' : List Chunk
  cs' = set cs c.0 (new_row min l)

  rows : (f : ChunkNo) (e : EntryNo) → f ≢ c → e.0 < z.entries → entry_at z es' f e ≡ entry_at z es f e
  rows = Making.rows z lim first cs es fills.base c min l fills.inside fills.empty fills.short fills.rising fills.handles

  fits : 0 + length l ≤ z.entries
  fits = rw zero-add fills.short

  other-to : (f : ChunkNo) {h k : ℕ} → f ≢ c → NamedIn z es f h k → NamedIn z es' f h k
  other-to f ne = named-like z es es' f (λ e b _. (ap (λ (y : Entry). y.handle) (rows f e ne b), ap (λ (y : Entry). y.key) (rows f e ne b)))

  other_from : (f : ChunkNo) {h k : ℕ} → f ≢ c → NamedIn z es' f h k → NamedIn z es f h k
  other_from f ne = named-like z es' es f (λ e b _. (ap (λ (y : Entry). y.handle) (sym (rows f e ne b)), ap (λ (y : Entry). y.key) (sym (rows f e ne b))))

  made-to : (x : Entry) → Memᴰ x l → NamedIn z es' c x.handle.0 x.key
  made-to x m = let f = filled_in z c fills.inside 0 l es fits fills.base.entries-sized x m in record { entry = f.0; inside = le_trans f.1 fits; names = ap (λ (h : HandleNo). h.0) f.2; keyed = f.3 }

  -- what the list's members are named by names what the new chunk names
  made-from : (P : ℕ → ℕ → Type 0) → Every (λ x. P x.handle.0 x.key) l → (h k : ℕ) → h < z.handles → NamedIn z es' c h k → P h k
  made-from P all h k b v = elim (dec_lt v.entry.0 (length l)) [ yes lt ↦ within lt | no ge ↦ absurd (past ((Making.slot z lim first cs es fills.base c min l fills.inside fills.empty fills.short fills.rising fills.handles v.entry v.inside).empty (more ge))) ]
    where
      more : (v.entry.0 < length l → ⊥) → length l ≤ v.entry.0
      more ge = omega arith

      past : entry_at z es' c v.entry ≡ empty_entry → ⊥
      past q = omega (arith, lim.handles, b, v.names, ap (λ (y : Entry). y.handle.0) q)

      within : v.entry.0 < length l → P h k
      within lt = subst (λ (n : ℕ). P n k) v.names (subst (λ (n : ℕ). P (entry_at z es' c v.entry).handle.0 n) v.keyed (filled-rows z c fills.inside (λ y. P y.handle.0 y.key) 0 l es fits fills.base.entries-sized (λ x m e _. all x m) v.entry (omega arith) (omega arith)))

  live_to : {h k : ℕ} → LiveNamed z cs es h k → LiveNamed z cs' es' h k
  live_to v = record { chunk = v.chunk; numbered = v.numbered; is_live = rw (Making.made_other z lim first cs es fills.base c min l fills.inside fills.empty fills.short fills.rising fills.handles v.chunk ne) v.is_live; named = other-to v.chunk ne v.named }
    where
      ne : v.chunk ≢ c
      ne p = omega (arith, v.is_live, ap (λ (c : ChunkNo). (chunk_at cs c).status) p, fills.empty)

  live-from : {h k : ℕ} → LiveNamed z cs' es' h k → LiveNamed z cs es h k
  live-from v = record { chunk = v.chunk; numbered = v.numbered; is_live = rw (Making.made_other z lim first cs es fills.base c min l fills.inside fills.empty fills.short fills.rising fills.handles v.chunk ne) at v.is_live; named = other_from v.chunk ne v.named }
    where
      ne : v.chunk ≢ c
      ne p = omega (arith, v.is_live, ap (λ (c : ChunkNo). (chunk_at cs' c).status) p, ap (λ (y : Chunk). y.status) (Making.made-here z lim first cs es fills.base c min l fills.inside fills.empty fills.short fills.rising fills.handles))

-- the same names in the live chunks, before and after
pub record SameLive (z : Sizes) (s x : Tables) : Type 0 where
  pub to : (h k : ℕ) → h < z.handles → LiveNamed z s.chunks s.entries h k → LiveNamed z x.chunks x.entries h k
  pub from : (h k : ℕ) → h < z.handles → LiveNamed z x.chunks x.entries h k → LiveNamed z s.chunks s.entries h k

module _ (z : Sizes) (lim : Limited z) (s : Tables) (kept : Kept z s) (un : UnlinkedNone z s.chunks s.entries) (copying : s.directory.stage ≡ to_copy) where
  abbrev old : ChunkNo
  old = s.directory.old

  abbrev l : List Entry
  l = naming_from z s.entries old z.entries (chunk s old).head

  abbrev a : ChunkNo
  a = unused_from s.chunks 0

  abbrev b : ChunkNo
  b = unused_from (drop (a.0 + 1) s.chunks) (a.0 + 1)

  abbrev half : ℕ
  half = (length l + 1) / 2

  abbrev l₁ : List Entry
  l₁ = take half l

  abbrev l₂ : List Entry
  l₂ = drop half l

  abbrev es₁ : List Entry
  es₁ = filled z a 0 l₁ s.entries

  abbrev cs₁ : List Chunk
  cs₁ = set s.chunks a.0 (new_row (chunk s old).min l₁)

  abbrev CopiedTo : Tables → Type 0
  CopiedTo x = Copied z x.directory x.entries × SameLive z s x

  old-in : old.0 < z.chunks
  old-in = Copying.old-in z lim s kept copying

  old-a : old ≢ a
  old-a = Copying.not-unused z lim s kept copying a (Copying.a-free z lim s kept copying).1

  old-b : old ≢ b
  old-b = Copying.not-unused z lim s kept copying b (Copying.b-free z lim s kept copying).1

  -- each of the list is one of the old chunk's, and each of the old chunk's is one of the list
  of-old : Every (λ x. NamedIn z s.entries old x.handle.0 x.key) l
  of-old =
      naming-every z s.entries old (chunk s old).used (Copying.small z lim s kept copying) lim.entries (λ x. NamedIn z s.entries old x.handle.0 x.key) z.entries 0 (chunk s old).head (linked z s old) (Copying.links z lim s kept copying)
      (λ e m _. record { entry = e; inside = inside z lim s.directory s.chunks s.entries kept.tables old old-in e m; names = refl; keyed = refl })

  in_list : {h k : ℕ} → h < z.handles → (v : NamedIn z s.entries old h k) → Memᴰ (entry_at z s.entries old v.entry) l
  in_list i v =
      naming-in z s.entries old (chunk s old).used (Copying.small z lim s kept copying) lim.entries z.entries 0 (chunk s old).head v.entry (linked z s old) (le_trans (links-length z s.entries old (chunk s old).used 0 (chunk s old).head (linked z s old) (Copying.links z lim s kept copying)) (Copying.small z lim s kept copying)) (Copying.links z lim s kept copying)
      (un old v.entry old-in v.inside named) named
    where
      named : (entry_at z s.entries old v.entry).handle.0 < z.handles
      named = rw v.names i

  as-named : {h k : ℕ} {es : List Entry} {c : ChunkNo} (v : NamedIn z s.entries old h k) → NamedIn z es c (entry_at z s.entries old v.entry).handle.0 (entry_at z s.entries old v.entry).key → NamedIn z es c h k
  as-named v w = record { entry = w.entry; inside = w.inside; names = w.names ∙ v.names; keyed = w.keyed ∙ v.keyed }

  -- ---- to one chunk
  fills : Fills z s.directory.first s.chunks s.entries a l
  fills = record { base = Copying.base z lim s kept copying; inside = (Copying.a-free z lim s kept copying).0; empty = (Copying.a-free z lim s kept copying).1; short = Copying.l-short z lim s kept copying; rising = Copying.l-rising z lim s kept copying; handles = Copying.l-handles z lim s kept copying }

  one : CopiedTo (makes z (with_directory s (at z s to_swap a no_chunk)) a (chunk s old).min l)
  one =
      rw (fill_is z a (with_directory s (at z s to_swap a no_chunk)) 0 l) (
        record {
          kept = λ h k i v. inl (into i (other_from z lim first s.chunks s.entries a min l fills old old-a v));
          first = λ h k i v. other-to z lim first s.chunks s.entries a min l fills old old-a (made-from z lim first s.chunks s.entries a min l fills (NamedIn z s.entries old) of-old h k i v);
          second = λ h k i o v. absurd (out o);
        },
        record { to = λ h k i v. live_to z lim first s.chunks s.entries a min l fills v; from = λ h k i v. live-from z lim first s.chunks s.entries a min l fills v },
      )
    where
      first : ChunkNo
      first = s.directory.first

      min : ℕ
      min = (chunk s old).min

      into : {h k : ℕ} → h < z.handles → NamedIn z s.entries old h k → NamedIn z (filled z a 0 l s.entries) a h k
      into i v = as-named v (made-to z lim first s.chunks s.entries a min l fills (entry_at z s.entries old v.entry) (in_list i v))

      out : NONE < z.chunks → ⊥
      out o = omega (arith, lim.chunks)

  -- ---- to two chunks
  two : z.entries / 2 < length l → CopiedTo (makes z (makes z (with_directory s (at z s to_swap a b)) a (chunk s old).min l₁) b (get_or l half empty_entry).key l₂)
  two over =
      rw (fill_is z a (with_directory s (at z s to_swap a b)) 0 l₁, fill_is z b (with_chunks (with_entries (with_directory s (at z s to_swap a b)) es₁) cs₁) 0 l₂) (
        record {
          kept = λ h k i v. into i (other_from z lim first s.chunks s.entries a min l₁ fills₁ old old-a (other_from z lim first cs₁ es₁ b least l₂ fills₂ old old-b v));
          first = λ h k i v. old-then (made-from z lim first s.chunks s.entries a min l₁ fills₁ (NamedIn z s.entries old) (every_take Of half l of-old) h k i (other_from z lim first cs₁ es₁ b least l₂ fills₂ a a-b v));
          second = λ h k i o v. old-then (made-from z lim first cs₁ es₁ b least l₂ fills₂ (NamedIn z s.entries old) (every_drop Of half l of-old) h k i v);
        },
        record {
          to = λ h k i v. live_to z lim first cs₁ es₁ b least l₂ fills₂ (live_to z lim first s.chunks s.entries a min l₁ fills₁ v);
          from = λ h k i v. live-from z lim first s.chunks s.entries a min l₁ fills₁ (live-from z lim first cs₁ es₁ b least l₂ fills₂ v);
        },
      )
    where
      first : ChunkNo
      first = s.directory.first

      min : ℕ
      min = (chunk s old).min

      least : ℕ
      least = (get_or l half empty_entry).key

      Of : Entry → Type 0
      Of x = NamedIn z s.entries old x.handle.0 x.key

      a-b : a ≢ b
      a-b p = Copying.b-apart z lim s kept copying (sym p)

      fills₁ : Fills z s.directory.first s.chunks s.entries a l₁
      fills₁ = record { base = Copying.base z lim s kept copying; inside = (Copying.a-free z lim s kept copying).0; empty = (Copying.a-free z lim s kept copying).1; short = Copying.l₁-short z lim s kept copying over; rising = Copying.r₁ z lim s kept copying over; handles = Copying.h₁ z lim s kept copying over }

      fills₂ : Fills z s.directory.first cs₁ es₁ b l₂
      fills₂ = record { base = Copying.base₁ z lim s kept copying over; inside = (Copying.b-free z lim s kept copying).0; empty = Copying.b-unused z lim s kept copying over; short = Copying.l₂-short z lim s kept copying over; rising = Copying.l₂-rising z lim s kept copying over; handles = Copying.h₂ z lim s kept copying over }

      old-then : {h k : ℕ} → NamedIn z s.entries old h k → NamedIn z (filled z b 0 l₂ es₁) old h k
      old-then v = other-to z lim first cs₁ es₁ b least l₂ fills₂ old old-b (other-to z lim first s.chunks s.entries a min l₁ fills₁ old old-a v)

      into : {h k : ℕ} → h < z.handles → NamedIn z s.entries old h k → NamedIn z (filled z b 0 l₂ es₁) a h k ⊎ ((b.0 < z.chunks) × NamedIn z (filled z b 0 l₂ es₁) b h k)
      into i v = ⊎_elim (λ m. inl (as-named v (other-to z lim first cs₁ es₁ b least l₂ fills₂ a a-b (made-to z lim first s.chunks s.entries a min l₁ fills₁ (entry_at z s.entries old v.entry) m)))) (λ m. inr ((Copying.b-free z lim s kept copying).0, as-named v (made-to z lim first cs₁ es₁ b least l₂ fills₂ (entry_at z s.entries old v.entry) m))) (take-drop-in half l (entry_at z s.entries old v.entry) (in_list i v))

  pub copy-names : CopiedTo (copies z s).tables
  copy-names = picked (λ (o : Outcome). CopiedTo o.tables) (leb (length l) (z.entries / 2)) (λ _. one) (λ t. two (leb-false _ _ t))
