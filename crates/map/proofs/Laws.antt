-- Laws of the sequential ordered map: look-up after insertion and deletion, what keeps the order, and that look-up determines the map.
use Prim.Native.Nat.{ℕ, suc, ◌+◌, ◌≤◌, ◌<◌}
use mathlib.Core.Path.{◌≡◌, refl, sym, ap, ◌∙◌, subst}
use mathlib.Core.Logic.{◌≢◌, ⊎_elim}
use mathlib.Core.List.Memᴰ
use mathlib.Core.List.{List, [], ◌∷◌, Memᴰ}
use mathlib.Core.Option.{none, some, none-ne-some, some-injective, some-ne-none}
use native.Mathlib.Nat.{le_refl}
use native.Mathlib.Decide.{ℕ_discrete}
use native.Mathlib.Omega.{arith}
use lib.Dec.{eqb, ltb}
use lib.ListN.{length}
use borrow.Author.Tests.{eq-eqb, ne_eqb, ltb-true, ltb-false, eqb-true, eqb-false}
use Rattle.rules.specs.Map.{Pair, pair, pair_key, Ascends, lookup, insert, delete}
use Rattle.rules.proofs.Tests.{picked-by}

-- ---- the order
pub ascends-from : (a b : ℕ) (m : List Pair) → a ≤ b → Ascends pair_key b m → Ascends pair_key a m
unfolding Ascends
ascends-from a b [] le h = tt
ascends-from a b (x ∷ m) le h = (omega arith, h.1)

pub ascends-insert : (a k v : ℕ) (m : List Pair) → a ≤ k → Ascends pair_key a m → Ascends pair_key a (insert m k v)
unfolding Ascends insert
ascends-insert a k v [] le h = (le, tt)
ascends-insert a k v (x ∷ m) le h =
    picked-by (Ascends pair_key a) (ltb x.key k) (λ e. (h.0, ascends-insert (x.key + 1) k v m (omega (arith, ltb-true)) h.1)) (λ e.
    picked-by (Ascends pair_key a) (eqb x.key k) (λ q. (le, subst (λ (j : ℕ). Ascends pair_key (j + 1) m) (eqb-true x.key k q) h.1))
    (λ q. let ne = eqb-false x.key k q in (le, (omega (arith, ltb-false, ne), h.1))))

pub ascends-delete : (a k : ℕ) (m : List Pair) → Ascends pair_key a m → Ascends pair_key a (delete m k)
unfolding Ascends delete
ascends-delete a k [] h = tt
ascends-delete a k (x ∷ m) h =
    picked-by (Ascends pair_key a) (eqb x.key k) (λ q. ascends-from a (x.key + 1) m (omega arith) h.1) (λ q. (h.0, ascends-delete (x.key + 1) k m h.1))

-- ---- look-up
-- a key below the first is absent
pub lookup-below : (a k : ℕ) (m : List Pair) → Ascends pair_key a m → k < a → lookup m k ≡ none
unfolding Ascends lookup
lookup-below a k [] h b = refl
lookup-below a k (x ∷ m) h b = rw (ne_eqb x.key k (omega arith)) (lookup-below (x.key + 1) k m h.1 (omega arith))

module _ (k v : ℕ) where
  pub lookup-insert : (m : List Pair) → lookup (insert m k v) k ≡ some v
  unfolding lookup insert
  lookup-insert [] = rw (eq-eqb k k refl)
  lookup-insert (x ∷ m) =
      picked-by (λ (l : List Pair). lookup l k ≡ some v) (ltb x.key k) (λ e. rw (ne_eqb x.key k (omega (arith, ltb-true))) (lookup-insert m)) (λ e.
      picked-by (λ (l : List Pair). lookup l k ≡ some v) (eqb x.key k) (λ q. rw (eq-eqb k k refl)) (λ q. rw (eq-eqb k k refl)))

  pub lookup-insert-other : (m : List Pair) (j : ℕ) → j ≢ k → lookup (insert m k v) j ≡ lookup m j
  unfolding lookup insert
  lookup-insert-other [] j ne = rw (ne_eqb k j (omega arith))
  lookup-insert-other (x ∷ m) j ne =
      picked-by (λ (l : List Pair). lookup l j ≡ lookup (x ∷ m) j) (ltb x.key k) (λ e. rw (lookup-insert-other m j ne)) (λ e.
      picked-by (λ (l : List Pair). lookup l j ≡ lookup (x ∷ m) j) (eqb x.key k)
      (λ q. rw (ne_eqb k j (omega arith), ne_eqb x.key j (omega (arith, eqb-true)))) (λ q. rw (ne_eqb k j (omega arith))))

-- a key that is deleted is absent
pub lookup-delete : (a k : ℕ) (m : List Pair) → Ascends pair_key a m → lookup (delete m k) k ≡ none
unfolding Ascends lookup delete
lookup-delete a k [] h = refl
lookup-delete a k (x ∷ m) h =
    picked-by (λ (l : List Pair). lookup l k ≡ none) (eqb x.key k) (λ q. lookup-below (x.key + 1) k m h.1 (omega (arith, eqb-true)))
    (λ q. rw q (lookup-delete (x.key + 1) k m h.1))

pub lookup-delete-other : (k : ℕ) (m : List Pair) (j : ℕ) → j ≢ k → lookup (delete m k) j ≡ lookup m j
unfolding lookup delete
lookup-delete-other k [] j ne = refl
lookup-delete-other k (x ∷ m) j ne =
    picked-by (λ (l : List Pair). lookup l j ≡ lookup (x ∷ m) j) (eqb x.key k) (λ q. rw (ne_eqb x.key j (omega (arith, eqb-true)))) (λ q. rw (lookup-delete-other k m j ne))

-- ---- a key is looked up exactly where its pair is one of the list
pub lookup-member : (m : List Pair) (k v : ℕ) → lookup m k ≡ some v → Memᴰ (pair k v) m
unfolding lookup
lookup-member [] k v h = absurd (none-ne-some _ h)
lookup-member (x ∷ m) k v h =
    picked-by (λ o. o ≡ some v → Memᴰ (pair k v) (x ∷ m)) (eqb x.key k)
    (λ q e.
    let p : x.key ≡ k = eqb-true x.key k q in
    let w : x.value ≡ v = some-injective x.value v e in
    Memᴰ.head (λ i. record { key = sym p i; value = sym w i })) (λ q e. Memᴰ.tail (lookup-member m k v e)) h

member-above : (a : ℕ) (m : List Pair) (x : Pair) → Ascends pair_key a m → Memᴰ x m → a ≤ x.key
unfolding Ascends
member-above a [] x h i = absurd (Memᴰ.not-nil i)
member-above a (y ∷ m) x h i = ⊎_elim (λ e. subst (λ (k : ℕ). a ≤ k) (ap (λ (z : Pair). z.key) (sym e)) h.0) (λ j. omega (arith, h, member-above (y.key + 1) m x h.1 j)) (Memᴰ.cases_cons i)

pub member-lookup : (a : ℕ) (m : List Pair) (k v : ℕ) → Ascends pair_key a m → Memᴰ (pair k v) m → lookup m k ≡ some v
unfolding Ascends lookup
member-lookup a [] k v h i = absurd (Memᴰ.not-nil i)
member-lookup a (x ∷ m) k v h i =
    ⊎_elim (λ e. rw (← e, eq-eqb k k refl))
    (λ j. rw (ne_eqb x.key k (omega (arith, member-above (x.key + 1) m (pair k v) h.1 j))) (member-lookup (x.key + 1) m k v h.1 j))
    (Memᴰ.cases_cons i)

-- ---- look-up determines the map
pub lookup_first : (x : Pair) (m : List Pair) → lookup (x ∷ m) x.key ≡ some x.value
unfolding lookup
lookup_first x m = rw (eq-eqb x.key x.key refl)

pub lookup-past : (x : Pair) (m : List Pair) (k : ℕ) → x.key ≢ k → lookup (x ∷ m) k ≡ lookup m k
unfolding lookup
lookup-past x m k ne = rw (ne_eqb x.key k ne)

not-below : (x y : Pair) (m n : List Pair) → Ascends pair_key (y.key + 1) n → lookup (x ∷ m) x.key ≡ lookup (y ∷ n) x.key → x.key < y.key → ⊥
unfolding Ascends
not-below x y m n h e b =
    none-ne-some _ (sym (lookup-below y.key x.key (y ∷ n) (le_refl _, h) b) ∙ sym e ∙ lookup_first x m)

pub same-lookup : (a b : ℕ) (m n : List Pair) → Ascends pair_key a m → Ascends pair_key b n → ((k : ℕ) → lookup m k ≡ lookup n k) → m ≡ n
unfolding Ascends lookup
same-lookup a b [] [] h g f = refl
same-lookup a b [] (y ∷ n) h g f = absurd (none-ne-some _ (f y.key ∙ lookup_first y n))
same-lookup a b (x ∷ m) [] h g f = absurd (none-ne-some _ (sym (f x.key) ∙ lookup_first x m))
same-lookup a b (x ∷ m) (y ∷ n) h g f =
    let q : x.key ≡ y.key = omega (arith, not-below x y m n g.1 (f x.key), not-below y x n m h.1 (sym (f y.key))) in
    let w : some x.value ≡ some y.value = sym (lookup_first x m) ∙ f x.key ∙ ap (lookup (y ∷ n)) q ∙ lookup_first y n in
    let p : x ≡ y = λ i. record { key = q i; value = some-injective x.value y.value w i } in
    let r : m ≡ n = same-lookup (x.key + 1) (y.key + 1) m n h.1 g.1 (λ k. rest q k) in
    λ i. p i ∷ r i
  where
    rest : x.key ≡ y.key → (k : ℕ) → lookup m k ≡ lookup n k
    rest q k =
        elim (ℕ_discrete x.key k) [
          | yes e ↦ lookup-below (x.key + 1) k m h.1 (omega arith) ∙ sym (lookup-below (y.key + 1) k n g.1 (omega arith))
          | no ne ↦ sym (lookup-past x m k ne) ∙ f k ∙ lookup-past y n k (omega arith)
        ]

-- ---- how many pairs there are
pub length-insert-absent : (k v : ℕ) (m : List Pair) → lookup m k ≡ none → length (insert m k v) ≡ length m + 1
unfolding insert
length-insert-absent k v [] h = refl
length-insert-absent k v (x ∷ m) h =
    picked-by (λ (l : List Pair). length l ≡ suc (length m) + 1) (ltb x.key k)
    (λ e. omega (arith, length-insert-absent k v m (sym (lookup-past x m k (omega (arith, ltb-true))) ∙ h))) (λ e.
    picked-by (λ (l : List Pair). length l ≡ suc (length m) + 1) (eqb x.key k)
    (λ q. absurd (some-ne-none _ (sym (lookup_first x m) ∙ ap (lookup (x ∷ m)) (eqb-true x.key k q) ∙ h))) (λ q. omega arith))

pub length-insert-present : (a k v u : ℕ) (m : List Pair) → Ascends pair_key a m → lookup m k ≡ some u → length (insert m k v) ≡ length m
unfolding Ascends lookup insert
length-insert-present a k v u [] h e = absurd (none-ne-some _ e)
length-insert-present a k v u (x ∷ m) h e =
    picked-by (λ (l : List Pair). length l ≡ suc (length m)) (ltb x.key k)
    (λ b. ap suc (length-insert-present (x.key + 1) k v u m h.1 (sym (lookup-past x m k (omega (arith, ltb-true))) ∙ e))) (λ b.
    picked-by (λ (l : List Pair). length l ≡ suc (length m)) (eqb x.key k) (λ q. refl)
    (λ q.
    absurd
    (none-ne-some _ (sym (lookup-below (x.key + 1) k m h.1 (omega (arith, ltb-false))) ∙ sym (lookup-past x m k (eqb-false x.key k q)) ∙ e))))

pub delete-absent : (k : ℕ) (m : List Pair) → lookup m k ≡ none → delete m k ≡ m
unfolding lookup delete
delete-absent k [] h = refl
delete-absent k (x ∷ m) h =
    picked-by (λ (l : List Pair). l ≡ x ∷ m) (eqb x.key k)
    (λ q. absurd (some-ne-none _ (sym (lookup_first x m) ∙ ap (lookup (x ∷ m)) (eqb-true x.key k q) ∙ h)))
    (λ q. ap (λ (l : List Pair). x ∷ l) (delete-absent k m (sym (lookup-past x m k (eqb-false x.key k q)) ∙ h)))

pub length-delete-present : (k u : ℕ) (m : List Pair) → lookup m k ≡ some u → length (delete m k) + 1 ≡ length m
unfolding lookup delete
length-delete-present k u [] h = absurd (none-ne-some _ h)
length-delete-present k u (x ∷ m) h =
    picked-by (λ (l : List Pair). length l + 1 ≡ suc (length m)) (eqb x.key k) (λ q. omega arith)
    (λ q. omega (arith, length-delete-present k u m (sym (lookup-past x m k (eqb-false x.key k q)) ∙ h)))
