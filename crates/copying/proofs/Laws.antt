-- One step of the walk by the naming entries, and of the copying of them, told by what the code has read and written.
use Prim.Native.Nat.{ℕ, zero, suc, ◌+◌, ◌*◌, ◌-◌, ◌≤◌, ◌<◌, zero-le}
use mathlib.Core.Path.{◌≡◌, refl, sym, ap, ◌∙◌}
use mathlib.Core.Bool.{Bool, true, false}
use mathlib.Core.List.{List, [], ◌∷◌}
use mathlib.Core.Logic.{◌≢◌}
use native.Mathlib.Nat.{le_antisymm}
use native.Mathlib.Numerals.{add-one}
use native.Mathlib.Omega.{arith}
use native.Mathlib.Decide.{dec_lt}
use borrow.Author.Tests.{lt-ltb, le-ltb, ltb-true}
use lib.Dec.{ltb}
use lib.ListN.{length, set, take, drop}
use lib.Seq.{get_or-set_other, length-take-le}
use Rattle.rules.specs.declared.Sizes.{Sizes}
use Rattle.rules.specs.declared.Entry.{Entry}
use Rattle.rules.specs.declared.ChunkNo.{ChunkNo}
use Rattle.rules.specs.declared.EntryNo.{EntryNo}
use Rattle.rules.specs.Words.{entry_no}
use Rattle.rules.specs.Tables.{Tables, entry_at, empty_entry, row, with_entries}
use Rattle.rules.specs.Rebalance.{naming_from, fill}
use Rattle.rows.proofs.Laws.{row_below}
use Rattle.copying.specs.declared.Place.{Place}
use Rattle.copying.specs.Copied.{copy_of, filled, naming_at, Filled}

-- rows of different chunks differ
rows-differ : (m c d e f : ℕ) → c ≢ d → e < m → f < m → c * m + e ≢ d * m + f
rows-differ m c d e f n h k q = go (dec_lt c d)
  where
    go : Dec (c < d) → ⊥
    go (yes l) = omega (arith, row_below d m c e l h)
    go (no l) = omega (arith, row_below c m d f (above n l) k)
      where
        above : c ≢ d → (c < d → ⊥) → d < c
        above n l = omega arith

-- ---- the walk
module _ (z : Sizes) where
  module _ (es : List Entry) (c : ChunkNo) (e : EntryNo) where
    pub naming-spent : (left : ℕ) → left ≤ 0 → naming_from z es c left e ≡ []
    unfolding naming_from
    naming-spent left h = rw (le_antisymm h zero-le)

    pub naming-out : (left : ℕ) → z.entries ≤ e.0 → naming_from z es c left e ≡ []
    unfolding naming_from
    naming-out zero h = refl
    naming-out (suc n) h = rw (le-ltb _ _ h)

    pub naming-here : (left rest : ℕ) → left ≡ rest + 1 → e.0 < z.entries → (x : Entry) → x ≡ entry_at z es c e → x.handle.0 < z.handles → naming_from z es c left e ≡ x ∷ naming_from z es c rest x.next
    unfolding naming_from
    naming-here left rest p h x q m = rw (p, add-one rest) (rw (lt-ltb _ _ h, ← q, lt-ltb _ _ m))

    pub naming-past : (left rest : ℕ) → left ≡ rest + 1 → e.0 < z.entries → (x : Entry) → x ≡ entry_at z es c e → z.handles ≤ x.handle.0 → naming_from z es c left e ≡ naming_from z es c rest x.next
    unfolding naming_from
    naming-past left rest p h x q m = rw (p, add-one rest) (rw (lt-ltb _ _ h, ← q, le-ltb _ _ m))

  -- a row written in another chunk leaves the walk as it was
  module _ (es : List Entry) (c d : ChunkNo) (other : c.0 ≢ d.0) (n : ℕ) (inside : n < z.entries) (y : Entry) where
    pub naming-kept : (left : ℕ) (e : EntryNo) → naming_from z (set es (row z d (entry_no n)) y) c left e ≡ naming_from z es c left e
    unfolding naming_from
    naming-kept zero e = refl
    naming-kept (suc left) e = go (ltb e.0 z.entries) refl (naming-kept left)
      where
        go : (b : Bool) → ltb e.0 z.entries ≡ b → ((e : EntryNo) → naming_from z (set es (row z d (entry_no n)) y) c left e ≡ naming_from z es c left e)
            → naming_from z (set es (row z d (entry_no n)) y) c (suc left) e ≡ naming_from z es c (suc left) e
        go true p on =
            let same : entry_at z (set es (row z d (entry_no n)) y) c e ≡ entry_at z es c e = get_or-set_other es (row z d (entry_no n)) (row z c e) y empty_entry (rows-differ z.entries c.0 d.0 e.0 n other (ltb-true _ _ p) inside) in
            rw (p, same, on (entry_at z es c e).next)
        go false p on = rw p

  -- ---- the copying
  pub fill-rows : (s : Tables) (c : ChunkNo) (n : ℕ) (l : List Entry) → fill z s c n l ≡ with_entries s (filled z s.entries c n l)
  unfolding fill filled
  fill-rows s c n [] = refl
  fill-rows s c n (x ∷ l) = fill-rows (with_entries s (set s.entries (row z c (entry_no n)) (copy_of x n (length l)))) c (n + 1) l

  filled-cons : (es : List Entry) (d : ChunkNo) (n k : ℕ) (x : Entry) (l : List Entry) → length l ≡ k → (y : Entry) → y ≡ copy_of x n k → (es' : List Entry) → es' ≡ set es (row z d (entry_no n)) y → filled z es d n (x ∷ l) ≡ filled z es' d (n + 1) l
  unfolding filled
  filled-cons es d n k x l long y copied es' wrote = rw (wrote, copied, ← long)

  -- the first of m entries of a list, copied, with k left
  module _ (m k : ℕ) (l on : List Entry) (x : Entry) (first : l ≡ x ∷ on) (one : m ≡ k + 1) where
    pub drop-next : drop m l ≡ drop k on
    drop-next = rw (first, one, add-one)

    pub enough-next : m ≤ length l → k ≤ length on
    enough-next h = omega (arith, ap length first)

    pub filled_next : (es : List Entry) (d : ChunkNo) (n : ℕ) → m ≤ length l → (y : Entry) → y ≡ copy_of x n k → (es' : List Entry) → es' ≡ set es (row z d (entry_no n)) y → filled z es d n (take m l) ≡ filled z es' d (n + 1) (take k on)
    filled_next es d n h y copied es' wrote = rw (first, one, add-one k) (filled-cons es d n k x (take k on) (length-take-le k on (enough-next h)) y copied es' wrote)

  -- what is left to do, from row n and place q on, is what was to do from row 0 and place p on
  pub record Along (es₀ es : List Entry) (d : ChunkNo) (p q : Place) (many n : ℕ) : Type 0 where
    pub rows : filled z es₀ d 0 (take many (naming_at z es₀ p)) ≡ filled z es d n (take (many - n) (naming_at z es q))
    pub rest : drop many (naming_at z es₀ p) ≡ drop (many - n) (naming_at z es q)
    pub enough : many - n ≤ length (naming_at z es q)
    pub chunk : q.chunk ≡ p.chunk

  module _ (es₀ es : List Entry) (d : ChunkNo) (p q : Place) (many n : ℕ) (along : Along es₀ es d p q many n) where
    pub along-next : n < many → (x : Entry) (r : Place) → naming_at z es q ≡ x ∷ naming_at z es r → r.chunk ≡ q.chunk → p.chunk.0 ≢ d.0 → n < z.entries → (y : Entry) → y ≡ copy_of x n (many - (n + 1))
        → (es' : List Entry) → es' ≡ set es (row z d (entry_no n)) y → Along es₀ es' d p r many (n + 1)
    along-next h x r first same other inside y copied es' wrote =
        let one : many - n ≡ many - (n + 1) + 1 = omega arith in
        let stays : r.chunk ≡ p.chunk = same ∙ along.chunk in
        let kept : naming_at z es' r ≡ naming_at z es r = rw wrote (naming-kept es r.chunk d (rw stays other) n inside y r.left r.entry) in
        record {
          rows = along.rows ∙ rw kept (filled_next _ _ _ _ _ first one es d n along.enough y copied es' wrote);
          rest = along.rest ∙ rw kept (drop-next _ _ _ _ _ first one);
          enough = rw kept (enough-next _ _ _ _ _ first one along.enough);
          chunk = stays;
        }

    pub along-end : many ≤ n → Filled z es₀ es p q d many
    unfolding filled
    along-end h = record { rows = rw none at (sym along.rows); rest = rw none at (sym along.rest); chunk = along.chunk }
      where
        none : many - n ≡ 0
        none = omega arith
