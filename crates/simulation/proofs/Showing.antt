-- What is present by the names: it is what document 01 says, what looking finds, and one value to a key.
use Prim.Native.Nat.{ℕ, ◌≤◌, ◌<◌}
use mathlib.Core.Path.{◌≡◌, refl, sym, ap, ◌∙◌}
use mathlib.Core.Bool.{true}
use mathlib.Core.List.{Memᴰ}
use mathlib.Core.Option.{Option, some, none-ne-some, some-injective}
use native.Mathlib.Nat.{le_trans}
use native.Mathlib.Decide.{dec_lt}
use native.Mathlib.Omega.{arith}
use lib.Dec.{eqb, ltb}
use lib.ListN.{get_or}
use borrow.Author.Tests.{lt-ltb, eq-eqb, ltb-true, eqb-true}
use Rattle.rules.specs.declared.Sizes.{Sizes}
use Rattle.rules.specs.declared.ChunkNo.{ChunkNo}
use Rattle.rules.specs.declared.EntryNo.{EntryNo}
use Rattle.rules.specs.declared.HandleNo.{HandleNo}
use Rattle.rules.specs.Tables.{Tables, chunk, entry}
use Rattle.rules.specs.Walks.{locate, find, linked, undeleted, Present}
use Rattle.laws.proofs.Tests.{picked, both, and_left, and_right}
use Rattle.views.specs.Views.{Links}
use Rattle.views.proofs.Entries.{find-hit, find-miss, links-length}
use Rattle.statements.specs.Sound.{Limited, Live}
use Rattle.facts.specs.Facts.{Kept}
use Rattle.facts.proofs.Writes.{inside}
use Rattle.facts.proofs.Covering.{covers, only, rows-one}
use Rattle.holds.specs.Unlinked.{UnlinkedNone}
use Rattle.simulation.specs.Named.{present_at, LiveNamed, PresentBy}

module _ (z : Sizes) (lim : Limited z) (s : Tables) (kept : Kept z s) (un : UnlinkedNone z s.chunks s.entries) where
  alive : {h k : ℕ} (v : LiveNamed z s.chunks s.entries h k) → Live z s v.chunk
  alive v = record { numbered = v.numbered; is_live = v.is_live }

  in_list : {h k : ℕ} → h < z.handles → (v : LiveNamed z s.chunks s.entries h k) → Memᴰ v.named.entry (linked z s v.chunk)
  in_list i v = un v.chunk v.named.entry v.numbered v.named.inside (rw v.named.names i)

  -- a live linked entry with the key is the one that names a handle under it
  pub row_named : {h k : ℕ} → h < z.handles → LiveNamed z s.chunks s.entries h k → (c : ChunkNo) (e : EntryNo) → Live z s c → Memᴰ e (linked z s c) → (entry z s c e).key ≡ k → (entry z s c e).handle.0 ≡ h
  row_named {h = h} i v c e l m q = same (rows-one z lim s kept c v.chunk e v.named.entry l (alive v) m (in_list i v) (q ∙ sym v.named.keyed))
    where
      same : (c ≡ v.chunk) × (e ≡ v.named.entry) → (entry z s c e).handle.0 ≡ h
      same p = rw (p.0, p.1) v.named.names

  pub named-one : {h j k : ℕ} → h < z.handles → j < z.handles → LiveNamed z s.chunks s.entries h k → LiveNamed z s.chunks s.entries j k → h ≡ j
  named-one i b v w = sym (row_named i v w.chunk w.named.entry (alive w) (in_list b w) w.named.keyed) ∙ w.named.names

  pub present-one : {k v w : ℕ} → PresentBy z s k v → PresentBy z s k w → v ≡ w
  present-one p q = sym p.valued ∙ ap (λ (h : ℕ). get_or s.values h 0) (named-one p.inside q.inside p.named q.named) ∙ q.valued

  -- ---- in document 01's words
  pub present-to : {k v : ℕ} → Present z s k v → PresentBy z s k v
  present-to p =
      record {
        handle = (entry z s p.chunk p.entry).handle.0;
        inside = ltb-true _ _ (and_left (ltb (entry z s p.chunk p.entry).handle.0 z.handles) (eqb (get_or s.marks (entry z s p.chunk p.entry).handle.0 0) 0) p.is_undeleted);
        named = record { chunk = p.chunk; numbered = p.numbered; is_live = p.is_live; named = record { entry = p.entry; inside = inside z lim s.directory s.chunks s.entries kept.tables p.chunk p.numbered p.entry p.is_linked; names = refl; keyed = p.keyed } };
        undeleted = eqb-true _ _ (and_right (ltb (entry z s p.chunk p.entry).handle.0 z.handles) (eqb (get_or s.marks (entry z s p.chunk p.entry).handle.0 0) 0) p.is_undeleted);
        valued = p.valued;
      }

  is-undeleted : (h : HandleNo) → h.0 < z.handles → get_or s.marks h.0 0 ≡ 0 → undeleted z s.marks h ≡ true
  is-undeleted h i m = both _ _ (lt-ltb h.0 z.handles i) (eq-eqb (get_or s.marks h.0 0) 0 m)

  pub present-from : {k v : ℕ} → PresentBy z s k v → Present z s k v
  present-from p =
      record {
        chunk = p.named.chunk;
        entry = p.named.named.entry;
        numbered = p.named.numbered;
        is_live = p.named.is_live;
        is_linked = in_list p.inside p.named;
        keyed = p.named.named.keyed;
        is_undeleted = is-undeleted (entry z s p.named.chunk p.named.named.entry).handle (rw p.named.named.names p.inside) (rw p.named.named.names p.undeleted);
        valued = rw p.named.named.names p.valued;
      }

  -- ---- by looking
  module _ (k : ℕ) where
    abbrev c : ChunkNo
    c = locate z s k

    abbrev e : EntryNo
    e = find z s c k

    here : Live z s c
    here = (covers z lim s kept k).0

    small : (chunk s c).used ≤ z.entries
    small = (kept.tables.lists c here.numbered).row.used

    links : Links z s.entries c (chunk s c).used 0 (chunk s c).head (linked z s c)
    links = (kept.tables.lists c here.numbered).links

    hit : e.0 < z.entries → Memᴰ e (linked z s c) × ((entry z s c e).key ≡ k)
    hit = find-hit z s.entries c (chunk s c).used small lim.entries z.entries 0 (chunk s c).head (linked z s c) k links

    looked : {v : ℕ} → present_at z s k ≡ some v → PresentBy z s k v
    unfolding present_at
    looked {v = v} =
        picked (λ (o : Option ℕ). o ≡ some v → PresentBy z s k v) (ltb e.0 z.entries)
        (λ i. picked (λ (o : Option ℕ). o ≡ some v → PresentBy z s k v) (undeleted z s.marks (entry z s c e).handle) (λ u q. present-to (record { chunk = c; entry = e; numbered = here.numbered; is_live = here.is_live; is_linked = (hit (ltb-true _ _ i)).0; keyed = (hit (ltb-true _ _ i)).1; is_undeleted = u; valued = some-injective _ _ q })) (λ _ q. absurd (none-ne-some _ q)))
        (λ _ q. absurd (none-ne-some _ q))

    found : {h : ℕ} → h < z.handles → LiveNamed z s.chunks s.entries h k → e.0 < z.entries
    found i v = elim (dec_lt e.0 z.entries) [ yes b ↦ b | no out ↦ absurd (missed out) ]
      where
        is_c : v.chunk ≡ c
        is_c = only z lim s kept k v.chunk (alive v) (rw v.named.keyed at (kept.tables.key-in-range v.chunk v.numbered v.is_live v.named.entry (in_list i v)))

        in_c : Memᴰ v.named.entry (linked z s c)
        in_c = rw is_c at (in_list i v)

        key-c : (entry z s c v.named.entry).key ≡ k
        key-c = ap (λ (g : ChunkNo). (entry z s g v.named.entry).key) (sym is_c) ∙ v.named.keyed

        missed : (e.0 < z.entries → ⊥) → ⊥
        missed out = find-miss z s.entries c (chunk s c).used small lim.entries z.entries 0 (chunk s c).head (linked z s c) k (le_trans (links-length z s.entries c (chunk s c).used 0 (chunk s c).head (linked z s c) links) small) links (omega arith) v.named.entry in_c key-c

    shown : {v : ℕ} → PresentBy z s k v → present_at z s k ≡ some v
    unfolding present_at
    shown {v = v} p = rw (lt-ltb e.0 z.entries b, is-undeleted (entry z s c e).handle (rw names p.inside) (rw names p.undeleted)) (ap some (rw names p.valued))
      where
        b : e.0 < z.entries
        b = found p.inside p.named

        names : (entry z s c e).handle.0 ≡ p.handle
        names = row_named p.inside p.named c e here (hit b).0 (hit b).1

  pub looked-up : (k v : ℕ) → present_at z s k ≡ some v → PresentBy z s k v
  looked-up k v = looked k

  pub shown-at : (k v : ℕ) → PresentBy z s k v → present_at z s k ≡ some v
  shown-at k v = shown k
