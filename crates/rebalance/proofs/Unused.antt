-- The chunks that copy takes: within the table, unused, and so not the old one.
use Prim.Native.Nat.{ℕ, suc, ◌+◌, ◌≤◌, ◌<◌}
use mathlib.Core.Path.{◌≡◌, refl, sym, ap, ◌∙◌}
use mathlib.Core.Bool.{Bool, true, false}
use mathlib.Core.List.{List, [], ◌∷◌}
use native.Mathlib.Nat.{lt_irrefl}
use native.Mathlib.Omega.{arith}
use borrow.Author.Tests.{eqb-true}
use lib.Dec.{eqb}
use lib.ListN.{length, get_or, drop, length-drop}
use lib.Seq.{get_or-drop}
use Rattle.std.proofs.Common.{Option, Some, None, IsSome}
use Rattle.rules.specs.declared.Sizes.{Sizes}
use Rattle.rules.specs.declared.Directory.{Directory}
use Rattle.rules.specs.declared.Chunk.{Chunk}
use Rattle.rules.specs.declared.ChunkNo.{ChunkNo}
use Rattle.rules.specs.Words.{NONE, unused}
use Rattle.rules.specs.Tables.{chunk_at, empty_chunk}
use Rattle.rules.specs.Rebalance.{unused_count, unused_from}
use Rattle.listed.specs.Parts.{count_of}
use Rattle.walks.specs.Found.{numbered}
use Rattle.rebalance.specs.Ready.{CanCopy, Apart}

-- row i of the list, numbered from n on, is the first unused one
record Lowest (l : List Chunk) (n : ℕ) (c : ChunkNo) : Type 0 where
  i : ℕ
  number : c.0 ≡ n + i
  within : i < length l
  is_unused : (get_or l i empty_chunk).status ≡ unused
  others : unused_count l ≡ unused_count (drop (suc i) l) + 1

lowest : (l : List Chunk) (n : ℕ) → 0 < unused_count l → Lowest l n (unused_from l n)
unfolding unused_count unused_from
lowest [] n h = absurd (lt_irrefl _ h)
lowest (x ∷ l) n h = go (eqb x.status unused) refl (lowest l (n + 1))
  where
    go : (b : Bool) → eqb x.status unused ≡ b → (0 < unused_count l → Lowest l (n + 1) (unused_from l (n + 1))) → Lowest (x ∷ l) n (unused_from (x ∷ l) n)
    go true p on = record { i = 0; number = rw p (omega arith); within = omega arith; is_unused = eqb-true _ _ p; others = rw p }
    go false p on =
        let rest : Lowest l (n + 1) (unused_from l (n + 1)) = on (rw p at h) in
        record { i = suc rest.i; number = rw p (omega (arith, rest.number)); within = omega (arith, rest.within); is_unused = rest.is_unused; others = rw p rest.others }

module _ (z : Sizes) (d x : Directory) (read : x ≡ d) (rows : List Chunk) (long : length rows ≡ z.chunks) (can : CanCopy z d rows) where
  apart : (m : ℕ) → 0 < unused_count (drop m rows) → Apart z x.old (unused_from (drop m rows) m)
  apart m h =
      let w : Lowest (drop m rows) m (unused_from (drop m rows) m) = lowest (drop m rows) m h in
      let status : (get_or rows (m + w.i) empty_chunk).status ≡ unused = rw (← get_or-drop m rows w.i empty_chunk) w.is_unused in
      record {
        within = omega (arith, w.number, w.within, length-drop m rows, long);
        other = λ e. can.in_use (ap (λ (x : Directory). (chunk_at rows x.old).status) (sym read) ∙ ap (λ (n : ℕ). (get_or rows n empty_chunk).status) (e ∙ w.number) ∙ status);
      }

  is-some : z.chunks ≤ NONE → (o : Option ChunkNo) → Apart z x.old (numbered o) → IsSome o
  is-some fits (Some c) h = refl
  is-some fits None h = absurd (omega (arith, h.within))

  -- the first that is unused, where there is one
  module _ (o : Option ChunkNo) (found : numbered o ≡ unused_from rows 0) where
    first : Apart z x.old (numbered o)
    first = rw found (apart 0 (omega (arith, can.two)))

    pub first-some : z.chunks ≤ NONE → IsSome o
    first-some fits = is-some fits o first

    pub can-first : (a : ChunkNo) → o ≡ Some a → Apart z x.old a
    can-first a is = rw is at first

    -- the next after it
    module _ (a : ChunkNo) (is : o ≡ Some a) (o' : Option ChunkNo) (found' : numbered o' ≡ unused_from (drop (a.0 + 1) rows) (a.0 + 1)) where
      second : Apart z x.old (numbered o')
      second =
          let w : Lowest rows 0 (unused_from rows 0) = lowest rows 0 (omega (arith, can.two)) in
          let next : a.0 + 1 ≡ suc w.i = omega (arith, ap (λ (c : ChunkNo). c.0) (rw is at found), w.number) in
          rw found' (apart (a.0 + 1) (rw next (omega (arith, w.others, can.two))))

      pub second-some : z.chunks ≤ NONE → IsSome o'
      second-some fits = is-some fits o' second

      pub can-second : (b : ChunkNo) → o' ≡ Some b → Apart z x.old b
      can-second b is' = rw is' at second

-- those of the status are the unused ones
pub unused-is : (l : List Chunk) → count_of unused l ≡ unused_count l
unfolding count_of unused_count
unused-is [] = refl
unused-is (x ∷ l) = rw (unused-is l)
