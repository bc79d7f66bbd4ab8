-- A chunk whose used entries each lead to a higher key, and whose other slots are empty, is right: its list can't be longer than its keys are many.
use Prim.Native.Nat.{ℕ, zero, suc, ◌+◌, ◌*◌, ◌≤◌, ◌<◌}
use mathlib.Core.Path.{◌≡◌, refl, sym, ap, ◌∙◌, subst}
use mathlib.Core.Bool.{Bool, true, false, ◌&&◌}
use mathlib.Core.List.{List}
use mathlib.Core.Logic.{◌⊎◌, inl, inr, ⊎_map}
use native.Mathlib.Nat.{zero-add, not-suc-le-zero}
use native.Mathlib.Omega.{arith}
use native.Mathlib.Decide.{dec_lt}
use lib.Dec.{ltb, leb}
use lib.ListN.{length}
use borrow.Author.Tests.{lt-ltb, le-ltb, eq-eqb, le-leb, lt-leb, ltb-true, eqb-true}
use Rattle.rules.specs.declared.Sizes.{Sizes}
use Rattle.rules.specs.declared.Entry.{Entry}
use Rattle.rules.specs.declared.ChunkNo.{ChunkNo}
use Rattle.rules.specs.declared.EntryNo.{EntryNo}
use Rattle.rules.specs.Words.{pick, NONE, entry_no}
use Rattle.rules.specs.Tables.{empty_entry, entry_at}
use Rattle.rules.specs.Shape.{each, slots_of, is_none, numbers, is_empty_entry, slot_right, ascends_from}
use Rattle.rules.proofs.Each.{each-by}
use Rattle.rows.specs.Rows.{rows_from, entry_of, entry_rows}
use Rattle.rows.proofs.Laws.{length-rows, row_read, row_below}
use Rattle.listed.specs.Parts.{bare}
use Rattle.listed.specs.Plain.{slot_of, AllGoUp, AllEmpty, Plain}
use Rattle.listed.proofs.Tests.{and_both}
use Rattle.listed.proofs.Rows.{slots-rows}
use Rattle.listed.proofs.Lists.{ascends_none}

-- ---- how many of the first n keys are k or more
unfoldable above : (ℕ → ℕ) → ℕ → ℕ → ℕ
above key zero k = 0
above key (suc n) k = pick (leb k (key n)) (above key n k + 1) (above key n k)

module _ (key : ℕ → ℕ) where
  above-one : (n k : ℕ) → k ≤ key n → above key (suc n) k ≡ above key n k + 1
  unfolding above
  above-one n k h = rw (le-leb k (key n) h)

  above-none : (n k : ℕ) → key n < k → above key (suc n) k ≡ above key n k
  unfolding above
  above-none n k h = rw (lt-leb k (key n) h)

  fits_on : (n k : ℕ) → above key n k ≤ n → Dec (key n < k) → above key (suc n) k ≤ suc n
  fits_on n k h (yes a) = omega (arith, above-none n k a)
  fits_on n k h (no a) = omega (arith, above-one n k (omega arith))

  above-fits : (n k : ℕ) → above key n k ≤ n
  unfolding above
  above-fits zero k = omega arith
  above-fits (suc n) k = fits_on n k (above-fits n k) (dec_lt (key n) k)

  falls-on : (n j k : ℕ) → j ≤ k → above key n k ≤ above key n j → Dec (key n < j) → Dec (key n < k) → above key (suc n) k ≤ above key (suc n) j
  falls-on n j k h on (yes a) b = omega (arith, above-none n j a, above-none n k (omega arith))
  falls-on n j k h on (no a) (yes b) = omega (arith, above-one n j (omega arith), above-none n k b)
  falls-on n j k h on (no a) (no b) = omega (arith, above-one n j (omega arith), above-one n k (omega arith))

  above-falls : (n j k : ℕ) → j ≤ k → above key n k ≤ above key n j
  unfolding above
  above-falls zero j k h = omega arith
  above-falls (suc n) j k h = falls-on n j k h (above-falls n j k h) (dec_lt (key n) j) (dec_lt (key n) k)

  -- fewer are above the key of an entry than are from one at most that key
  above-less : (n e k : ℕ) → e < n → k ≤ key e → above key n (key e + 1) < above key n k
  above-less zero e k h l = absurd (not-suc-le-zero h)
  above-less (suc n) e k h l = go (dec_lt e n) (dec_lt (key n) k) (dec_lt (key n) (key e + 1)) (λ b. above-less n e k b l)
    where
      last : (e < n → ⊥) → e ≡ n
      last m = omega arith

      go : Dec (e < n) → Dec (key n < k) → Dec (key n < key e + 1) → (e < n → above key n (key e + 1) < above key n k) → above key (suc n) (key e + 1) < above key (suc n) k
      go (yes a) (yes b) d on = omega (arith, on a, above-none n k b, above-none n (key e + 1) (omega arith))
      go (yes a) (no b) (yes d) on = omega (arith, on a, above-one n k (omega arith), above-none n (key e + 1) d)
      go (yes a) (no b) (no d) on = omega (arith, on a, above-one n k (omega arith), above-one n (key e + 1) (omega arith))
      go (no a) b d on =
          let q : key e ≡ key n = ap key (last a) in
          omega (arith, above-one n k (omega arith), above-none n (key e + 1) (omega arith), above-falls n k (key e + 1) (omega arith))

-- ---- slot by slot
-- a key is below that of the entry that was read
pub higher : (k : ℕ) (x y : Entry) → x ≡ y → ltb k x.key ≡ true → k < y.key
higher k x y q h = ltb-true k y.key (subst (λ (w : Entry). ltb k w.key ≡ true) q h)

module _ (ws : List ℕ) (from : ℕ) where
  pub empty-none : AllEmpty ws from from
  empty-none i a b = absurd (omega arith)

  pub empty-one : (n : ℕ) → AllEmpty ws from n → (x : Entry) → x ≡ entry_of ws n → is_empty_entry x ≡ true → AllEmpty ws from (n + 1)
  empty-one n all x q t i a b = go (dec_lt i n)
    where
      last : (i < n → ⊥) → n ≡ i
      last m = omega arith

      go : Dec (i < n) → is_empty_entry (entry_of ws i) ≡ true
      go (yes l) = all i a l
      go (no l) = subst (λ (j : ℕ). is_empty_entry (entry_of ws j) ≡ true) (last l) (subst (λ (y : Entry). is_empty_entry y ≡ true) q t)

  pub empty-to : (n m : ℕ) → AllEmpty ws from n → m ≤ n → AllEmpty ws from m
  empty-to n m all h i a b = all i a (omega arith)

  pub empty-join : (n m : ℕ) → AllEmpty ws from n → AllEmpty ws n m → AllEmpty ws from m
  empty-join n m here there i a b = go (dec_lt i n)
    where
      go : Dec (i < n) → is_empty_entry (entry_of ws i) ≡ true
      go (yes l) = here i a l
      go (no l) = there i (omega arith) b

  pub empty-four : (x y v w : Entry) → x ≡ entry_of ws from → y ≡ entry_of ws (from + 1) → v ≡ entry_of ws (from + 2) → w ≡ entry_of ws (from + 3) → (a b c d : Bool) → a ≡ is_empty_entry x → b ≡ is_empty_entry y → c ≡ is_empty_entry v → d ≡ is_empty_entry w → ((a && b) && c) && d ≡ true → AllEmpty ws from (from + 4)
  empty-four x y v w xr yr vr wr a b c d xa yb vc wd h =
      let three = and_both ((a && b) && c) d h in
      let two = and_both (a && b) c three.0 in
      let one = and_both a b two.0 in
      let to_one : AllEmpty ws from (from + 1) = empty-one from empty-none x xr (sym xa ∙ one.0) in
      let to-two : AllEmpty ws from (from + 2) = empty-to (from + 1 + 1) (from + 2) (empty-one (from + 1) to_one y yr (sym yb ∙ one.1)) (omega arith) in
      let to-three : AllEmpty ws from (from + 3) = empty-to (from + 2 + 1) (from + 3) (empty-one (from + 2) to-two v vr (sym vc ∙ two.1)) (omega arith) in
      empty-to (from + 3 + 1) (from + 4) (empty-one (from + 3) to-three w wr (sym wd ∙ three.1)) (omega arith)

  pub empty-eight : (n : ℕ) → AllEmpty ws from n → (a b : Bool) → (a ≡ true → AllEmpty ws n (n + 4)) → (b ≡ true → AllEmpty ws (n + 4) (n + 4 + 4)) → a && b ≡ true → AllEmpty ws from (n + 8)
  empty-eight n here a b four eight h =
      let both = and_both a b h in
      empty-to (n + 4 + 4) (n + 8) (empty-join (n + 4) (n + 4 + 4) (empty-join n (n + 4) here (four both.0)) (eight both.1)) (omega arith)

-- ---- the list
either : (b t : Bool) → t ≡ true → pick b true t ≡ true
either true t h = refl
either false t h = h

module _ (z : Sizes) (es : List Entry) (c : ChunkNo) (used : ℕ) (slot : ℕ → Entry) (at : (e : ℕ) → e < used → entry_at z es c (entry_no e) ≡ slot e) (up : AllGoUp z slot used used) where
  step : (fuel : ℕ) (e : EntryNo) (k : ℕ) → e.0 < used → k ≤ (slot e.0).key → ascends_from z es c used fuel (slot e.0).next ((slot e.0).key + 1) ≡ true → ascends_from z es c used (suc fuel) e k ≡ true
  unfolding ascends_from
  step fuel e k u l on = either (is_none e.0) _ (rw (at e.0 u, lt-ltb e.0 used u, le-leb k (slot e.0).key l) on)

  spent : (e : EntryNo) (k : ℕ) → (e.0 ≡ NONE) ⊎ ((e.0 < used) × (k ≤ (slot e.0).key)) → above (λ i. (slot i).key) used k ≤ 0 → ascends_from z es c used 0 e k ≡ true
  spent e k (inl n) b = ascends_none z es c used 0 e k n
  spent e k (inr h) b = absurd (omega (arith, above-less (λ i. (slot i).key) used e.0 k h.0 h.1))

  goes_on : (fuel : ℕ) (e : EntryNo) (k : ℕ) → (e.0 ≡ NONE) ⊎ ((e.0 < used) × (k ≤ (slot e.0).key)) → (e.0 < used → k ≤ (slot e.0).key → ascends_from z es c used fuel (slot e.0).next ((slot e.0).key + 1) ≡ true) → ascends_from z es c used (suc fuel) e k ≡ true
  goes_on fuel e k (inl n) on = ascends_none z es c used (suc fuel) e k n
  goes_on fuel e k (inr h) on = step fuel e k h.0 h.1 (on h.0 h.1)

  ascends-up : (fuel : ℕ) (e : EntryNo) (k : ℕ) → (e.0 ≡ NONE) ⊎ ((e.0 < used) × (k ≤ (slot e.0).key)) → above (λ i. (slot i).key) used k ≤ fuel → ascends_from z es c used fuel e k ≡ true
  ascends-up zero e k h b = spent e k h b
  ascends-up (suc fuel) e k h b =
      goes_on fuel e k h
      (λ u l. ascends-up fuel (slot e.0).next ((slot e.0).key + 1) (⊎_map (λ n. n) (λ g. (g.0, omega (arith, g.1))) (up e.0 u).next)
      (omega (arith, above-less (λ i. (slot i).key) used e.0 k u l)))

-- ---- the slots
numbers-are : (size n : ℕ) → (n ≡ NONE) ⊎ (n < size) → numbers size n ≡ true
numbers-are size n (inl e) = go (ltb n size) (eq-eqb n NONE e)
  where
    go : (b : Bool) → is_none n ≡ true → pick b true (is_none n) ≡ true
    go true h = refl
    go false h = h
numbers-are size n (inr h) = rw (lt-ltb n size h)

numbers_of : (size n : ℕ) → numbers size n ≡ true → (n ≡ NONE) ⊎ (n < size)
numbers_of size n h = go (dec_lt n size)
  where
    go : Dec (n < size) → (n ≡ NONE) ⊎ (n < size)
    go (yes l) = inr l
    go (no l) = let g : ltb n size ≡ false = le-ltb n size (omega arith) in inl (eqb-true n NONE (rw g at h))

slots-by : (z : Sizes) (es : List Entry) (c : ChunkNo) (used : ℕ) → length es ≡ z.chunks * z.entries → c.0 < z.chunks → ((e : ℕ) → e < z.entries → slot_right z (bare z) used e (entry_at z es c (entry_no e)) ≡ true) → each (slot_right z (bare z) used) 0 (slots_of z es c) ≡ true
slots-by z es c used long h by =
    ap (each (slot_right z (bare z) used) 0) (slots-rows z es c long h)
    ∙ each-by (slot_right z (bare z) used) 0 (rows_from slot 0 z.entries) empty_entry (λ i b. let l : i < z.entries = rw length-rows at b in rw (zero-add, row_read slot z.entries i empty_entry l) (by i l))
  where
    slot : ℕ → Entry
    slot e = entry_at z es c (entry_no e)

-- ---- the chunk
module _ (z : Sizes) (ws : List ℕ) (c : ChunkNo) (used : ℕ) (head : EntryNo) (inside : c.0 < z.chunks) (fits : used ≤ z.entries) where
  slot_is : (e : ℕ) → e < z.entries → entry_at z (entry_rows (z.chunks * z.entries) ws) c (entry_no e) ≡ slot_of ws (c.0 * z.entries) e
  slot_is e h = row_read (entry_of ws) (z.chunks * z.entries) (c.0 * z.entries + e) empty_entry (row_below z.chunks z.entries c.0 e inside h)

  right : AllGoUp z (slot_of ws (c.0 * z.entries)) used used → AllEmpty ws (c.0 * z.entries + used) (c.0 * z.entries + z.entries) → (e : ℕ) → e < z.entries → Dec (e < used) → slot_right z (bare z) used e (slot_of ws (c.0 * z.entries) e) ≡ true
  right up empty e h (yes u) = rw (lt-ltb e used u, (up e u).handle, numbers-are z.entries (slot_of ws (c.0 * z.entries) e).next.0 (⊎_map (λ n. n) (λ l. omega (arith, l.0)) (up e u).next))
  right up empty e h (no u) = rw (le-ltb e used (omega arith)) (empty (c.0 * z.entries + e) (omega arith) (omega arith))

  plain : AllGoUp z (slot_of ws (c.0 * z.entries)) used used → AllEmpty ws (c.0 * z.entries + used) (c.0 * z.entries + z.entries) → numbers used head.0 ≡ true → Plain z (entry_rows (z.chunks * z.entries) ws) c used head
  plain up empty starts =
      record {
        slots = slots-by z (entry_rows (z.chunks * z.entries) ws) c used (length-rows _ 0 _) inside (λ e h. rw (slot_is e h) (right up empty e h (dec_lt e used)));
        list = ascends-up z (entry_rows (z.chunks * z.entries) ws) c used (slot_of ws (c.0 * z.entries)) (λ e u. slot_is e (omega arith)) up z.entries head 0 (⊎_map (λ n. n) (λ u. (u, omega arith)) (numbers_of used head.0 starts)) (omega (arith, above-fits (λ i. (slot_of ws (c.0 * z.entries) i).key) used 0));
      }

  pub is_plain : (first : ℕ) → first ≡ c.0 * z.entries → numbers used head.0 ≡ true → AllEmpty ws (first + used) (first + z.entries) → AllGoUp z (slot_of ws first) used used → Plain z (entry_rows (z.chunks * z.entries) ws) c used head
  is_plain first q starts empty up = plain (subst (λ (n : ℕ). AllGoUp z (slot_of ws n) used used) q up) (subst (λ (n : ℕ). AllEmpty ws (n + used) (n + z.entries)) q empty) starts
