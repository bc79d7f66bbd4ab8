-- Laws of what copy takes: the naming entries of a list, its halves, and the lowest unused chunks.
use Prim.Native.Nat.{ℕ, zero, suc, ◌+◌, ◌≤◌, ◌<◌}
use mathlib.Core.Path.{◌≡◌, refl, sym}
use mathlib.Core.Logic.{◌⊎◌, inl, inr, ⊎_elim}
use mathlib.Core.Bool.{true, false}
use mathlib.Core.List.Memᴰ
use mathlib.Core.List.{List, [], ◌∷◌, Memᴰ}
use native.Mathlib.Nat.{not-suc-le-zero, le_of_suc-le-suc, le_refl, add-zero, zero-add}
use native.Mathlib.Numerals.{add-one}
use native.Mathlib.Omega.{arith}
use lib.Dec.{eqb, ltb}
use lib.ListN.{length, get_or, take, drop, length-drop}
use lib.Seq.{get_or-drop}
use borrow.Author.Tests.{lt-ltb, le-ltb, ltb-true, eqb-true}
use Rattle.rules.specs.Map.{Ascends}
use Rattle.views.specs.Copies.{entry_key}
use Rattle.rules.specs.declared.Sizes.{Sizes}
use Rattle.rules.specs.declared.Chunk.{Chunk}
use Rattle.rules.specs.declared.Entry.{Entry}
use Rattle.rules.specs.declared.ChunkNo.{ChunkNo}
use Rattle.rules.specs.declared.EntryNo.{EntryNo}
use Rattle.rules.specs.Words.{pick, NONE, chunk_no, unused}
use Rattle.rules.specs.Tables.{empty_chunk, empty_entry, entry_at, chunk_at}
use Rattle.rules.specs.Rebalance.{naming_from, unused_from, unused_count}
use Rattle.laws.specs.Counts.{Every}
use Rattle.laws.proofs.Tests.{picked, by-test}
use Rattle.views.specs.Views.{Links}
use Rattle.views.proofs.Stacks.{ascends-above, ascends-from}

-- ---- keys that ascend
pub rising-take : (k n : ℕ) (l : List Entry) → Ascends entry_key k l → Ascends entry_key k (take n l)
unfolding Ascends
rising-take k zero l r = tt
rising-take k (suc n) [] r = tt
rising-take k (suc n) (x ∷ l) r = (r.0, rising-take (x.key + 1) n l r.1)

pub rising-drop : (k n : ℕ) (l : List Entry) → n < length l → Ascends entry_key k l → Ascends entry_key (get_or l n empty_entry).key (drop n l)
unfolding Ascends
rising-drop k n [] b r = absurd (not-suc-le-zero b)
rising-drop k zero (x ∷ l) b r = (le_refl _, r.1)
rising-drop k (suc n) (x ∷ l) b r = rising-drop (x.key + 1) n l (le_of_suc-le-suc b) r.1

pub get_or-in : (n : ℕ) (l : List Entry) → n < length l → Memᴰ (get_or l n empty_entry) l
get_or-in n [] b = absurd (not-suc-le-zero b)
get_or-in zero (x ∷ l) b = Memᴰ.head refl
get_or-in (suc n) (x ∷ l) b = Memᴰ.tail (get_or-in n l (le_of_suc-le-suc b))

pub take_below : (k n : ℕ) (l : List Entry) → n < length l → Ascends entry_key k l → Every (λ x. x.key < (get_or l n empty_entry).key) (take n l)
unfolding Ascends
take_below k n [] b r = absurd (not-suc-le-zero b)
take_below k zero (x ∷ l) b r = λ y m. absurd (Memᴰ.not-nil m)
take_below k (suc n) (x ∷ l) b r = λ y m. ⊎_elim (λ (p : y ≡ x). rw p (first (ascends-above entry_key _ l r.1 _ (get_or-in n l (le_of_suc-le-suc b))))) (λ o. take_below (entry_key x + 1) n l (le_of_suc-le-suc b) r.1 y o) (Memᴰ.cases_cons m)
  where
    first : x.key + 1 ≤ (get_or l n empty_entry).key → x.key < (get_or l n empty_entry).key
    first p = omega arith

module _ (P : Entry → Type 0) where
  pub every_take : (n : ℕ) (l : List Entry) → Every P l → Every P (take n l)
  every_take zero l h = λ x m. absurd (Memᴰ.not-nil m)
  every_take (suc n) [] h = h
  every_take (suc n) (y ∷ l) h = λ x m. ⊎_elim (λ p. h x (Memᴰ.head p)) (λ o. every_take n l (λ v q. h v (Memᴰ.tail q)) x o) (Memᴰ.cases_cons m)

  pub every_drop : (n : ℕ) (l : List Entry) → Every P l → Every P (drop n l)
  every_drop zero l h = h
  every_drop (suc n) [] h = h
  every_drop (suc n) (y ∷ l) h = every_drop n l (λ v q. h v (Memᴰ.tail q))

-- a member stands in the one part or the other
pub take-drop-in : (n : ℕ) (l : List Entry) (x : Entry) → Memᴰ x l → Memᴰ x (take n l) ⊎ Memᴰ x (drop n l)
take-drop-in zero l x m = inr m
take-drop-in (suc n) [] x m = inl m
take-drop-in (suc n) (y ∷ l) x m = ⊎_elim (λ p. inl (Memᴰ.head p)) (λ o. ⊎_elim (λ i. inl (Memᴰ.tail i)) (λ i. inr i) (take-drop-in n l x o)) (Memᴰ.cases_cons m)

-- ---- the linked entries that name a handle
module _ (z : Sizes) (es : List Entry) (c : ChunkNo) (used : ℕ) (small : used ≤ z.entries) (sized : z.entries ≤ NONE) where
  pub naming-rising : (fuel k : ℕ) (e : EntryNo) (l : List EntryNo) → Links z es c used k e l → Ascends entry_key k (naming_from z es c fuel e)
  unfolding Links naming_from Ascends
  naming-rising zero k e l h = tt
  naming-rising (suc fuel) k e [] h = rw (le-ltb e.0 z.entries (omega arith)) tt
  naming-rising (suc fuel) k e (x ∷ l) h =
      rw (h.0, lt-ltb x.0 z.entries (omega (arith, h.1)))
      (picked (λ (r : List Entry). Ascends entry_key k r) (ltb (entry_at z es c x).handle.0 z.handles)
      (λ _. (h.2, naming-rising fuel _ _ l h.3)) (λ _. ascends-from entry_key k ((entry_at z es c x).key + 1) (naming_from z es c fuel (entry_at z es c x).next) (omega (arith, h.2)) (naming-rising fuel _ _ l h.3)))

  pub naming-length : (fuel k : ℕ) (e : EntryNo) (l : List EntryNo) → Links z es c used k e l → length (naming_from z es c fuel e) ≤ length l
  unfolding Links naming_from
  naming-length zero k e l h = omega arith
  naming-length (suc fuel) k e [] h = rw (le-ltb e.0 z.entries (omega arith)) (omega arith)
  naming-length (suc fuel) k e (x ∷ l) h =
      rw (h.0, lt-ltb x.0 z.entries (omega (arith, h.1)))
      (picked (λ (r : List Entry). length r ≤ suc (length l)) (ltb (entry_at z es c x).handle.0 z.handles)
      (λ _. omega (arith, naming-length fuel _ _ l h.3)) (λ _. omega (arith, naming-length fuel _ _ l h.3)))

  pub naming-every : (P : Entry → Type 0) (fuel k : ℕ) (e : EntryNo) (l : List EntryNo) → Links z es c used k e l →
      Every (λ x. (entry_at z es c x).handle.0 < z.handles → P (entry_at z es c x)) l → Every P (naming_from z es c fuel e)
  unfolding Links naming_from
  naming-every P zero k e l h all = λ x m. absurd (Memᴰ.not-nil m)
  naming-every P (suc fuel) k e [] h all = rw (le-ltb e.0 z.entries (omega arith)) (λ x m. absurd (Memᴰ.not-nil m))
  naming-every P (suc fuel) k e (x ∷ l) h all =
      rw (h.0, lt-ltb x.0 z.entries (omega (arith, h.1)))
      (picked (Every P) (ltb (entry_at z es c x).handle.0 z.handles)
      (λ t y m. ⊎_elim (λ p. rw p (all x (Memᴰ.head refl) (ltb-true _ _ t))) (λ o. naming-every P fuel _ _ l h.3 (λ v q. all v (Memᴰ.tail q)) y o) (Memᴰ.cases_cons m))
      (λ _. naming-every P fuel _ _ l h.3 (λ v q. all v (Memᴰ.tail q))))

  -- a linked entry that names a handle is one of them
  pub naming-in : (fuel k : ℕ) (e x : EntryNo) (l : List EntryNo) → length l ≤ fuel → Links z es c used k e l → Memᴰ x l → (entry_at z es c x).handle.0 < z.handles → Memᴰ (entry_at z es c x) (naming_from z es c fuel e)
  unfolding Links naming_from
  naming-in fuel k e x [] b h m i = absurd (Memᴰ.not-nil m)
  naming-in zero k e x (y ∷ l) b h m i = absurd (not-suc-le-zero b)
  naming-in (suc fuel) k e x (y ∷ l) b h m i =
      rw (h.0, lt-ltb y.0 z.entries (omega (arith, h.1)))
      (⊎_elim (λ (p : x ≡ y). here p) (λ o. there (naming-in fuel _ _ x l (le_of_suc-le-suc b) h.3 o i)) (Memᴰ.cases_cons m))
    where
      here : x ≡ y → Memᴰ (entry_at z es c x) (pick (ltb (entry_at z es c y).handle.0 z.handles) (entry_at z es c y ∷ naming_from z es c fuel (entry_at z es c y).next) (naming_from z es c fuel (entry_at z es c y).next))
      here p = rw (← p, lt-ltb (entry_at z es c x).handle.0 z.handles i) (Memᴰ.head refl)

      there : Memᴰ (entry_at z es c x) (naming_from z es c fuel (entry_at z es c y).next) → Memᴰ (entry_at z es c x) (pick (ltb (entry_at z es c y).handle.0 z.handles) (entry_at z es c y ∷ naming_from z es c fuel (entry_at z es c y).next) (naming_from z es c fuel (entry_at z es c y).next))
      there o = picked (λ (r : List Entry). Memᴰ (entry_at z es c x) r) (ltb (entry_at z es c y).handle.0 z.handles) (λ _. Memᴰ.tail o) (λ _. o)

-- ---- the lowest unused chunk
pub unused-from : (cs : List Chunk) (n : ℕ) → 1 ≤ unused_count cs → (i : ℕ) × ((unused_from cs n).0 ≡ n + i) × (i < length cs) × ((get_or cs i empty_chunk).status ≡ unused) × (unused_count cs ≤ unused_count (drop (suc i) cs) + 1)
unfolding unused_from unused_count
unused-from [] n b = absurd (not-suc-le-zero b)
unused-from (x ∷ cs) n b = by-test (eqb x.status unused) here (λ t. there t (unused-from cs (n + 1) (rw t at b)))
  where
    Found : ℕ → ChunkNo → Type 0
    Found k c = (i : ℕ) × (c.0 ≡ n + i) × (i < suc (length cs)) × ((get_or (x ∷ cs) i empty_chunk).status ≡ unused) × (k ≤ unused_count (drop (suc i) (x ∷ cs)) + 1)

    here : eqb x.status unused ≡ true → Found (pick (eqb x.status unused) (unused_count cs + 1) (unused_count cs)) (pick (eqb x.status unused) (chunk_no n) (unused_from cs (n + 1)))
    here t = rw t (0, sym (add-zero n), omega arith, eqb-true _ _ t, le_refl _)

    Later : Type 0
    Later = (i : ℕ) × ((unused_from cs (n + 1)).0 ≡ n + 1 + i) × (i < length cs) × ((get_or cs i empty_chunk).status ≡ unused) × (unused_count cs ≤ unused_count (drop (suc i) cs) + 1)

    there : eqb x.status unused ≡ false → Later → Found (pick (eqb x.status unused) (unused_count cs + 1) (unused_count cs)) (pick (eqb x.status unused) (chunk_no n) (unused_from cs (n + 1)))
    there t o = rw t (suc o.0, omega (arith, o.1), omega (arith, o.2), o.3, o.4)

-- ---- bounds on ascending keys
pub rising-from : (k j : ℕ) (l : List Entry) → Ascends entry_key k l → Every (λ x. j ≤ x.key) l → Ascends entry_key j l
unfolding Ascends
rising-from k j [] r all = tt
rising-from k j (x ∷ l) r all = (all x (Memᴰ.head refl), r.1)

pub rising-grows : (k n : ℕ) (l : List Entry) → n < length l → Ascends entry_key k l → k + n ≤ (get_or l n empty_entry).key
unfolding Ascends
rising-grows k n [] b r = absurd (not-suc-le-zero b)
rising-grows k zero (x ∷ l) b r = omega (arith, r.0)
rising-grows k (suc n) (x ∷ l) b r = omega (arith, r.0, rising-grows (x.key + 1) n l (le_of_suc-le-suc b) r.1)

-- ---- the two lowest unused chunks
pub unused-first : (cs : List Chunk) → 1 ≤ unused_count cs →
    ((unused_from cs 0).0 < length cs) × ((chunk_at cs (unused_from cs 0)).status ≡ unused) × (unused_count cs ≤ unused_count (drop ((unused_from cs 0).0 + 1) cs) + 1)
unused-first cs b = go (unused-from cs 0 b)
  where
    go : (i : ℕ) × ((unused_from cs 0).0 ≡ 0 + i) × (i < length cs) × ((get_or cs i empty_chunk).status ≡ unused) × (unused_count cs ≤ unused_count (drop (suc i) cs) + 1) →
        ((unused_from cs 0).0 < length cs) × ((chunk_at cs (unused_from cs 0)).status ≡ unused) × (unused_count cs ≤ unused_count (drop ((unused_from cs 0).0 + 1) cs) + 1)
    go f = rw (f.1, zero-add f.0, add-one f.0) (f.2, f.3, f.4)

pub unused-next : (cs : List Chunk) (m : ℕ) → 1 ≤ unused_count (drop m cs) →
    ((unused_from (drop m cs) m).0 < length cs) × ((chunk_at cs (unused_from (drop m cs) m)).status ≡ unused) × (m ≤ (unused_from (drop m cs) m).0)
unused-next cs m b = go (unused-from (drop m cs) m b)
  where
    go : (i : ℕ) × ((unused_from (drop m cs) m).0 ≡ m + i) × (i < length (drop m cs)) × ((get_or (drop m cs) i empty_chunk).status ≡ unused) × (unused_count (drop m cs) ≤ unused_count (drop (suc i) (drop m cs)) + 1) →
        ((unused_from (drop m cs) m).0 < length cs) × ((chunk_at cs (unused_from (drop m cs) m)).status ≡ unused) × (m ≤ (unused_from (drop m cs) m).0)
    go f = rw f.1 (omega (arith, f.2, length-drop m cs), rw (← (get_or-drop m cs f.0 empty_chunk)) f.3, omega arith)
