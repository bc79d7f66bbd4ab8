-- The walks along a chunk's list, one step, told by the entry that the code has read.
use Prim.Native.Nat.{ℕ, zero, suc, ◌+◌, ◌≤◌, ◌<◌, zero-le}
use mathlib.Core.Path.{◌≡◌, refl}
use mathlib.Core.Bool.{true, false}
use mathlib.Core.List.{List}
use native.Mathlib.Nat.{lt_irrefl, le_antisymm}
use native.Mathlib.Omega.{arith}
use lib.Dec.{leb}
use borrow.Author.Tests.{lt-ltb, le-ltb, eq-eqb, ne_eqb}
use Rattle.rules.specs.declared.Sizes.{Sizes}
use Rattle.rules.specs.declared.Entry.{Entry}
use Rattle.rules.specs.declared.ChunkNo.{ChunkNo}
use Rattle.rules.specs.declared.EntryNo.{EntryNo}
use Rattle.rules.specs.Words.{NONE}
use Rattle.rules.specs.Tables.{entry_at}
use Rattle.rules.specs.Shape.{is_none, ascends_from, linked_from}

module _ (z : Sizes) (es : List Entry) (c : ChunkNo) (used left : ℕ) (e : EntryNo) (k : ℕ) where
  pub ascends-spent : left ≤ 0 → ascends_from z es c used left e k ≡ is_none e.0
  unfolding ascends_from
  ascends-spent h = rw (le_antisymm h zero-le)

  pub ascends_none : e.0 ≡ NONE → ascends_from z es c used left e k ≡ true
  unfolding ascends_from
  ascends_none h = go left
    where
      go : (n : ℕ) → ascends_from z es c used n e k ≡ true
      go zero = eq-eqb e.0 NONE h
      go (suc n) = rw (eq-eqb e.0 NONE h)

  pub ascends-unused : is_none e.0 ≡ false → used ≤ e.0 → ascends_from z es c used left e k ≡ false
  unfolding ascends_from
  ascends-unused m h = go left
    where
      go : (n : ℕ) → ascends_from z es c used n e k ≡ false
      go zero = m
      go (suc n) = rw (m, le-ltb e.0 used h)

  pub ascends-falls : (rest : ℕ) → is_none e.0 ≡ false → e.0 < used → left ≡ rest + 1 → (x : Entry) → x ≡ entry_at z es c e → leb k x.key ≡ false → ascends_from z es c used left e k ≡ false
  unfolding ascends_from
  ascends-falls rest m u l x q h =
      let l' : left ≡ suc rest = omega arith in
      let h' : leb k (entry_at z es c e).key ≡ false = rw q at h in
      rw (l', m, lt-ltb e.0 used u, h')

  pub ascends-next : (rest : ℕ) → is_none e.0 ≡ false → e.0 < used → left ≡ rest + 1 → (x : Entry) → x ≡ entry_at z es c e → leb k x.key ≡ true → ascends_from z es c used left e k ≡ ascends_from z es c used rest x.next (x.key + 1)
  unfolding ascends_from
  ascends-next rest m u l x q h =
      let l' : left ≡ suc rest = omega arith in
      let h' : leb k (entry_at z es c e).key ≡ true = rw q at h in
      rw (l', m, lt-ltb e.0 used u, h', q)

module _ (z : Sizes) (es : List Entry) (c : ChunkNo) (left : ℕ) (e x : EntryNo) where
  pub linked-spent : left ≤ 0 → linked_from z es c left e x ≡ false
  unfolding linked_from
  linked-spent h = rw (le_antisymm h zero-le)

  pub linked-past : z.entries ≤ e.0 → linked_from z es c left e x ≡ false
  unfolding linked_from
  linked-past h = go left
    where
      go : (n : ℕ) → linked_from z es c n e x ≡ false
      go zero = refl
      go (suc n) = rw (le-ltb e.0 z.entries h)

  pub linked-here : 0 < left → e.0 < z.entries → e.0 ≡ x.0 → linked_from z es c left e x ≡ true
  unfolding linked_from
  linked-here p h q = go left p
    where
      go : (n : ℕ) → 0 < n → linked_from z es c n e x ≡ true
      go zero p = absurd (lt_irrefl _ p)
      go (suc n) p = rw (lt-ltb e.0 z.entries h, eq-eqb e.0 x.0 q)

  pub linked-next : (rest : ℕ) → left ≡ rest + 1 → e.0 < z.entries → (e.0 ≡ x.0 → ⊥) → (y : Entry) → y ≡ entry_at z es c e → linked_from z es c left e x ≡ linked_from z es c rest y.next x
  unfolding linked_from
  linked-next rest l h m y q =
      let l' : left ≡ suc rest = omega arith in
      rw (l', lt-ltb e.0 z.entries h, ne_eqb e.0 x.0 m, q)
