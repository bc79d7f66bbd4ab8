-- What a step leaves of the rows that name a handle, and of the live ones above all.
use Prim.Native.Nat.{ℕ, ◌<◌}
use mathlib.Core.Path.{◌≡◌, refl, sym, ap, ◌∙◌}
use mathlib.Core.Logic.{◌⊎◌, inl, inr, ⊎_elim, ◌≢◌}
use mathlib.Core.Bool.{true}
use mathlib.Core.List.{List}
use native.Mathlib.Decide.{ℕ_discrete, dec_lt}
use native.Mathlib.Omega.{arith}
use lib.Dec.{eqb, ltb}
use lib.ListN.{length, get_or, set}
use lib.Seq.{get_or-set_same, get_or-set_other, set_out}
use borrow.Author.Tests.{eqb-true, eqb-false}
use Rattle.rules.specs.declared.Sizes.{Sizes}
use Rattle.rules.specs.declared.Task.{Task}
use Rattle.rules.specs.declared.ChunkNo.{ChunkNo}
use Rattle.rules.specs.declared.EntryNo.{EntryNo}
use Rattle.rules.specs.declared.HandleNo.{HandleNo}
use Rattle.rules.specs.declared.Decision.{Decision}
use Rattle.rules.specs.declared.Write.{Write}
use Rattle.rules.specs.declared.Write.TheVariants as write
use Rattle.rules.specs.Words.{NONE, handle_no, live}
use Rattle.rules.specs.Tables.{Tables, chunk, entry, task, with_own}
use Rattle.rules.specs.Stages
use Rattle.laws.proofs.Tests.{picked, and_left, and_right}
use Rattle.statements.specs.Sound.{Limited}
use Rattle.facts.specs.Facts.{Kept}
use Rattle.facts.specs.Reached.{Reached}
use Rattle.facts.proofs.Reaching.{reached-kept}
use Rattle.handles.specs.Owned.{Row}
use Rattle.handles.proofs.Keys.{live-once}
use Rattle.holds.specs.Unlinked.{UnlinkedNone}
use Rattle.holds.proofs.Holding.{reached-held}
use Rattle.holds.proofs.Unlinked.{reached-unlinked}
use Rattle.simulation.specs.Named.{LiveNamed}
use Rattle.simulation.proofs.Rows.{RowKept, Renamed, row_step}
use Rattle.simulation.proofs.Living
use Rattle.removers.proofs.Late.{sets}

-- ---- the handles' records
-- a mark of 1 was 1, or was written
mark_of : (l : List ℕ) (i v j : ℕ) → get_or (set l i v) j 0 ≡ 1 → (get_or l j 0 ≡ 1) ⊎ ((j ≡ i) × (v ≡ 1))
mark_of l i v j m = elim (ℕ_discrete j i) [ yes e ↦ elim (dec_lt i (length l)) [ yes b ↦ inr (e, sym (get_or-set_same l i v 0 b) ∙ ap (λ (n : ℕ). get_or (set l i v) n 0) (sym e) ∙ m) | no out ↦ inl (rw (set_out l i v (omega arith)) at m) ] | no ne ↦ inl (sym (get_or-set_other l i j v 0 ne) ∙ m) ]

-- a deleted handle was deleted, or the write deletes it and its task holds it at 16
pub mark-then : (z : Sizes) (s : Tables) (y : Task) (w : Write) → sets y w ≡ true → (h : ℕ) → get_or (Stages.apply z s w).marks h 0 ≡ 1 → (get_or s.marks h 0 ≡ 1) ⊎ ((y.stage ≡ 16) × (y.old.0 ≡ h))
mark-then z s y write.Nothing u h m = inl m
mark-then z s y (write.Slot c k) u h m = inl m
mark-then z s y (write.Link c e before) u h m = inl (picked (λ (x : Tables). get_or x.marks h 0 ≡ 1 → get_or s.marks h 0 ≡ 1) (ltb before.0 z.entries) (λ _ q. q) (λ _ q. q) m)
mark-then z s y (write.Fresh g) u h m = ⊎_elim inl (λ e. absurd (eqb-false 0 1 refl e.1)) (mark_of s.marks g.0 0 h m)
mark-then z s y (write.Store g v) u h m = inl m
mark-then z s y (write.Delete g) u h m = ⊎_elim inl (λ e. inr (eqb-true _ _ (and_left _ _ u), eqb-true _ _ (and_right (eqb y.stage 16) _ u) ∙ sym e.0)) (mark_of s.marks g.0 1 h m)
mark-then z s y (write.Name c e g) u h m = inl m

-- ---- the rows
module _ (z : Sizes) (lim : Limited z) (s : Tables) (r : Reached z s) (n : ℕ) where
  abbrev kept : Kept z s
  kept = reached-kept z lim r

  un : UnlinkedNone z s.chunks s.entries
  un = reached-unlinked z lim r

  abbrev t : Task
  t = task s n

  abbrev x : Decision
  x = Stages.decide z s n t

  abbrev ts : List Task
  ts = set s.tasks n x.task

  abbrev ss : List (List EntryNo)
  ss = set s.stacks n (Stages.stack_then z s t n)

  abbrev after : Write → Tables
  after w = Stages.apply z (with_own s ts ss) w

  abbrev pub s' : Tables
  s' = after x.write

  -- a row names what it named, or is the one that a swap has written
  row-then : (c : ChunkNo) (e : EntryNo) → Row z c e → RowKept z (entry z s c e) (entry z s' c e) ⊎ Renamed z s t c e (entry z s' c e)
  row-then = row_step z lim s kept ts ss n (Living.acts z lim s kept n) (Living.allowed z lim s kept n)

  -- ---- a handle that is not the one that the step may swap in
  module _ (h : ℕ) (i : h < z.handles) (other : t.new.0 < z.handles → t.swapped ≡ 0 → h ≢ t.new.0) where
    not-renamed : (c : ChunkNo) (e : EntryNo) → (entry z s' c e).handle.0 ≡ h → Renamed z s t c e (entry z s' c e) → ⊥
    not-renamed c e q w = ⊎_elim (λ (p : (entry z s' c e).handle.0 ≡ NONE). omega (arith, lim.handles, sym q ∙ p)) (λ p. other p.1 p.2 (sym q ∙ p.0)) w.to

    -- the entry that names it afterwards named it before
    row-was : (c : ChunkNo) (e : EntryNo) → Row z c e → (entry z s' c e).handle.0 ≡ h → RowKept z (entry z s c e) (entry z s' c e)
    row-was c e at q = ⊎_elim (λ k. k) (λ w. absurd (not-renamed c e q w)) (row-then c e at)

    module _ (k : ℕ) (v : LiveNamed z s'.chunks s'.entries h k) where
      was : RowKept z (entry z s v.chunk v.named.entry) (entry z s' v.chunk v.named.entry)
      was = row-was v.chunk v.named.entry (record { chunk = v.numbered; entry = v.named.inside }) v.named.names

      named-was : (entry z s v.chunk v.named.entry).handle.0 ≡ h
      named-was = ap (λ (h : HandleNo). h.0) (sym was.0) ∙ v.named.names

      is_live_lem : (chunk s v.chunk).status ≡ live
      is_live_lem = sym (Living.same-status z lim s kept n v.chunk) ∙ v.is_live

      pub live-was : LiveNamed z s.chunks s.entries h k
      live-was =
          record {
            chunk = v.chunk;
            numbered = v.numbered;
            is_live = is_live_lem;
            named = record { entry = v.named.entry; inside = v.named.inside; names = named-was; keyed = sym (was.1 (rw named-was i)) ∙ v.named.keyed };
          }

      -- while a live chunk names it, every entry that named it does
      pub row_on : (c : ChunkNo) (e : EntryNo) → Row z c e → (entry z s c e).handle.0 ≡ h → RowKept z (entry z s c e) (entry z s' c e)
      row_on c e at q = ⊎_elim (λ k. k) (λ w. absurd (one w)) (row-then c e at)
        where
          one : Renamed z s t c e (entry z s' c e) → ⊥
          one w = not-renamed c e (rw (same.0, same.1) v.named.names) w
            where
              same : (c ≡ v.chunk) × (e ≡ v.named.entry)
              same =
                  live-once z lim s r c v.chunk e v.named.entry (record { numbered = at.chunk; is_live = ap (λ (c : ChunkNo). (chunk s c).status) w.chunk ∙ ((reached-held z lim r).publisher-live n w.swaps.published).is_live }) (record { numbered = v.numbered; is_live = is_live_lem })
                  (un c e at.chunk at.entry (rw q i)) (un v.chunk v.named.entry v.numbered v.named.inside (rw named-was i)) (rw q i) (ap handle_no (q ∙ sym named-was))
