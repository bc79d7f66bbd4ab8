-- One step of the scan's walk, told by the row that the code has read.
use Prim.Native.Nat.{ℕ, zero, suc, ◌+◌, ◌-◌, ◌≤◌, ◌<◌, zero-le}
use mathlib.Core.Path.{◌≡◌, refl}
use mathlib.Core.Bool.{Bool, true, false}
use mathlib.Core.List.{List}
use native.Mathlib.Nat.{le_antisymm}
use native.Mathlib.Omega.{arith}
use lib.Dec.{ltb, leb}
use borrow.Author.Tests.{lt-ltb, le-ltb}
use Rattle.rules.specs.declared.Sizes.{Sizes}
use Rattle.rules.specs.declared.Chunk.{Chunk}
use Rattle.rules.specs.declared.Entry.{Entry}
use Rattle.rules.specs.declared.ChunkNo.{ChunkNo}
use Rattle.rules.specs.declared.EntryNo.{EntryNo}
use Rattle.rules.specs.Words.{◌and◌, no_entry}
use Rattle.rules.specs.Tables.{chunk_at, entry_at}
use Rattle.rules.specs.Walks.{locate_from, lies, present_from, undeleted}
use Rattle.walks.proofs.Laws.{fuelled}

-- ---- along the live chunks
module _ (z : Sizes) (cs : List Chunk) (c : ChunkNo) (x : Chunk) (q : x ≡ chunk_at cs c) (k left : ℕ) where
  pub on-next : (rest : ℕ) → left ≡ rest + 1 → (ltb x.next.0 z.chunks and leb (chunk_at cs x.next).min k) ≡ true → locate_from z cs left c k ≡ locate_from z cs rest x.next k
  unfolding locate_from
  on-next rest p t = fuelled (λ n. locate_from z cs n c k) (λ n. locate_from z cs n x.next k) (λ n. rw (← q, t)) left rest p

  pub on-stop : (ltb x.next.0 z.chunks and leb (chunk_at cs x.next).min k) ≡ false → locate_from z cs left c k ≡ c
  unfolding locate_from
  on-stop t = go left
    where
      go : (n : ℕ) → locate_from z cs n c k ≡ c
      go zero = refl
      go (suc n) = rw (← q, t)

-- ---- along the chunk's list
module _ (z : Sizes) (es : List Entry) (ms : List ℕ) (c : ChunkNo) (from to : ℕ) where
  -- the entry's key lies in the range, and it names an undeleted handle
  abbrev pub in_range : Entry → Bool
  in_range x = lies from to x.key and undeleted z ms x.handle

  pub present-spent : (e : EntryNo) (left : ℕ) → left ≤ 0 → present_from z es ms c from to left e ≡ no_entry
  unfolding present_from
  present-spent e left h = rw (le_antisymm h zero-le)

  pub present-out : (e : EntryNo) (left : ℕ) → z.entries ≤ e.0 → present_from z es ms c from to left e ≡ no_entry
  unfolding present_from
  present-out e zero h = refl
  present-out e (suc n) h = rw (le-ltb _ _ h)

  pub present-here : (e : EntryNo) (left : ℕ) → 0 < left → e.0 < z.entries → (x : Entry) → x ≡ entry_at z es c e → in_range x ≡ true → present_from z es ms c from to left e ≡ e
  unfolding present_from
  present-here e left p h x q t = fuelled (λ n. present_from z es ms c from to n e) (λ n. e) (λ n. rw (lt-ltb _ _ h, ← q, t)) left (left - 1) (omega (arith, p))

  pub present-next : (e : EntryNo) (left rest : ℕ) → left ≡ rest + 1 → e.0 < z.entries → (x : Entry) → x ≡ entry_at z es c e → in_range x ≡ false → present_from z es ms c from to left e ≡ present_from z es ms c from to rest x.next
  unfolding present_from
  present-next e left rest p h x q t = fuelled (λ n. present_from z es ms c from to n e) (λ n. present_from z es ms c from to n x.next) (λ n. rw (lt-ltb _ _ h, ← q, t)) left rest p
