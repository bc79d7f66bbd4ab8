-- What a task holds: the table of stages is the stage list, and the rule taken apart as the code tests it.
use Prim.Native.Nat.{ℕ, zero, suc, ◌+◌, ◌≤◌, ◌<◌}
use mathlib.Core.Path.{◌≡◌, refl, sym, ◌∙◌}
use mathlib.Core.Bool.{Bool, true, false, ◌&&◌, false≢true}
use mathlib.Core.List.{List, [], ◌∷◌, map}
use mathlib.Core.Logic.{◌⊎◌, inl, inr}
use native.Mathlib.Omega.{arith}
use lib.Dec.{eqb, ltb}
use lib.ListN.{get_or, get_or-map}
use borrow.Author.Tests.{eqb-true, eqb-false, ltb-true, le-ltb, ne_eqb}
use Rattle.rules.specs.declared.Sizes.{Sizes}
use Rattle.rules.specs.declared.Task.{Task}
use Rattle.rules.specs.Words.{pick}
use Rattle.rules.specs.Tables.{Tables, chunk, mark}
use Rattle.rules.specs.Shape.{each, Hold, hold, stage_list, is_none, numbers, held_as, mark_as, flag_as, holds_entry, holds_right}
use Rattle.shape.specs.declared.stages.How.{How}
use Rattle.shape.specs.declared.stages.How.TheVariants.{Never, Always, Perhaps, Deleted}
use Rattle.shape.specs.declared.stages.Holds.{Holds}
use Rattle.shape.specs.Parts.{number, hold_of, entry_with_chunk, numbers_right, Listed}
use Rattle.listed.proofs.Tests.{and-and, and_left, and_right, both-fail, both_hold}

-- ---- the table
-- how a number of the list is spelled in the table, and a row of it
abbrev pub how_of : ℕ → How
how_of n = pick (eqb n 0) Never (pick (eqb n 1) Always (pick (eqb n 2) Perhaps Deleted))

abbrev pub of_hold : Hold → Holds
of_hold h = record { chunk = how_of h.chunk; entry = how_of h.entry; old = how_of h.old; new = how_of h.new; published = how_of h.published; swapped = how_of h.swapped }

each_at : {A : Type 0} (p : A → Bool) (d : A) → p d ≡ true → (l : List A) (i : ℕ) → each (λ n x. p x) i l ≡ true → (n : ℕ) → p (get_or l n d) ≡ true
unfolding each
each_at p d q [] i h n = q
each_at p d q (x ∷ l) i h zero = and_left (p x) _ h
each_at p d q (x ∷ l) i h (suc n) = each_at p d q l (i + 1) (and_right (p x) _ h) n

-- the table is the stage list, row by row
pub table-listed : (n : ℕ) → Listed n (get_or (map of_hold stage_list) n (of_hold (hold 0 0 0 0 0 0)))
unfolding each
table-listed n =
    record {
      row = sym (get_or-map hold_of (map of_hold stage_list) n (of_hold (hold 0 0 0 0 0 0)));
      paired = each_at entry_with_chunk (of_hold (hold 0 0 0 0 0 0)) refl (map of_hold stage_list) 0 refl n;
    }

-- ---- an entry is held with its chunk, or not
module _ (h : Holds) (p : entry_with_chunk h ≡ true) where
  pub entry-one : (number h.entry ≡ 0 → ⊥) → (number h.entry ≡ 1) × (number h.chunk ≡ 1)
  entry-one m =
      let q : pick (eqb (number h.entry) 1) (eqb (number h.chunk) 1) false ≡ true = rw (ne_eqb (number h.entry) 0 m) at p in
      (eqb-true (number h.entry) 1 (and_left (eqb (number h.entry) 1) _ q), eqb-true (number h.chunk) 1 (and_right (eqb (number h.entry) 1) _ q))

-- ---- the rule taken apart
module _ (z : Sizes) (s : Tables) (t : Task) (h : Hold) where
  -- what is left to ask, once the numbers, the flags and the mark are seen to be right
  abbrev pub left : Bool
  left = pick (pick (is_none t.chunk.0) true (ltb 0 (chunk s t.chunk).status)) (pick (eqb h.entry 0) true (holds_entry z s t)) false

  holds-split : holds_right z s t h ≡ pick (numbers_right z t h) (pick (mark_as h.old (mark s t.old)) left false) false
  holds-split =
      split
      (held_as h.chunk z.chunks t.chunk.0)
      (held_as h.entry z.entries t.entry.0)
      (held_as h.old z.handles t.old.0)
      (held_as h.new z.handles t.new.0)
      (flag_as h.published t.published)
      (flag_as h.swapped t.swapped)
      _
    where
      split : (a b c d e f g : Bool) → pick a (pick b (pick c (pick d (pick e (pick f g false) false) false) false) false) false ≡ pick (pick a (pick b (pick c (pick d (pick e f false) false) false) false) false) g false
      split a b c d e f g = simp and-and

  -- the two tests as the code made them
  module _ (numbered marked : Bool) (n : numbered ≡ numbers_right z t h) (m : marked ≡ mark_as h.old (mark s t.old)) where
    pub holds-fails : numbered && marked ≡ false → holds_right z s t h ≡ false
    holds-fails q = holds-split ∙ rw (← n, ← m) (both-fail numbered marked left q)

    pub holds_on : numbered && marked ≡ true → holds_right z s t h ≡ left
    holds_on q = holds-split ∙ rw (← n, ← m) (both_hold numbered marked left q)

module _ (z : Sizes) (t : Task) (h : Hold) (n : numbers_right z t h ≡ true) where
  pub held-chunk : h.chunk ≡ 1 → t.chunk.0 < z.chunks
  held-chunk e =
      let w = and_left (held_as h.chunk z.chunks t.chunk.0) _ n in
      let w' : held_as 1 z.chunks t.chunk.0 ≡ true = rw e at w in
      ltb-true t.chunk.0 z.chunks w'

  pub held-entry : h.entry ≡ 1 → t.entry.0 < z.entries
  held-entry e =
      let w = and_left (held_as h.entry z.entries t.entry.0) _ (and_right (held_as h.chunk z.chunks t.chunk.0) _ n) in
      let w' : held_as 1 z.entries t.entry.0 ≡ true = rw e at w in
      ltb-true t.entry.0 z.entries w'

pub holding : (how : How) → (how ≡ Always) ⊎ ((how ≡ Perhaps) ⊎ (how ≡ Deleted)) → eqb (number how) 0 ≡ false
holding how (inl e) = rw e
holding how (inr (inl e)) = rw e
holding how (inr (inr e)) = rw e

none-held : (how size n : ℕ) → held_as how size n ≡ true → size ≤ n → is_none n ≡ true
none-held how size n h l = go (eqb how 0) (eqb how 2) h
  where
    go : (a b : Bool) → pick a (is_none n) (pick b (numbers size n) (ltb n size)) ≡ true → is_none n ≡ true
    go true b h = h
    go false true h = rw (le-ltb n size l) at h
    go false false h = absurd (false≢true (sym (le-ltb n size l) ∙ h))

-- a task without a chunk has no entry, and nothing is left to ask
pub no-chunk : (z : Sizes) (s : Tables) (t : Task) (h : Holds) → entry_with_chunk h ≡ true → numbers_right z t (hold_of h) ≡ true → z.chunks ≤ t.chunk.0 → left z s t (hold_of h) ≡ true
no-chunk z s t h p n l = rw (none-held (number h.chunk) z.chunks t.chunk.0 (and_left (held_as (number h.chunk) z.chunks t.chunk.0) _ n) l, go (eqb (number h.entry) 0) refl)
  where
    go : (b : Bool) → eqb (number h.entry) 0 ≡ b → eqb (number h.entry) 0 ≡ true
    go true e = e
    go false e = let w : t.chunk.0 < z.chunks = held-chunk z t (hold_of h) n (entry-one h p (eqb-false (number h.entry) 0 e)).1 in absurd (omega arith)
