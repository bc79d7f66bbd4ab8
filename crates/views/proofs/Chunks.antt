-- Laws of the chain of live chunks: what the walks along it find, and how a write changes it.
use Prim.Native.Nat.{ℕ, zero, suc, ◌+◌, ◌≤◌, ◌<◌}
use mathlib.Core.Path.{◌≡◌, refl, sym, ap, ◌∙◌}
use mathlib.Core.Logic.{◌⊎◌, inl, inr, ⊎_elim, ⊎_map, ◌≢◌}
use mathlib.Core.Bool.{true, false}
use mathlib.Core.List.Memᴰ
use mathlib.Core.List.{List, [], ◌∷◌, ◌++◌, Memᴰ}
use native.Mathlib.Nat.{le_of_suc-le-suc, not-suc-le-zero, le_refl}
use native.Mathlib.Omega.{arith}
use lib.Dec.{eqb, leb}
use lib.ListN.{length, length-append}
use borrow.Author.Tests.{lt-ltb, le-ltb, le-leb, eq-eqb, ne_eqb, leb-true, leb-false, eqb-true, eqb-false}
use Rattle.rules.specs.declared.Sizes.{Sizes}
use Rattle.rules.specs.declared.Chunk.{Chunk}
use Rattle.rules.specs.declared.ChunkNo.{ChunkNo}
use Rattle.rules.specs.Words.{NONE, chunk_no, live}
use Rattle.rules.specs.Tables.{chunk_at}
use Rattle.rules.specs.Walks.{locate_from, before_from, chain_from, InRange}
use Rattle.rules.specs.Map.{Ascends}
use Rattle.rules.specs.Shape.{chain_count}
use Rattle.laws.specs.Counts.{Every, Apart}
use Rattle.laws.proofs.Tests.{picked, by-test}
use Rattle.views.specs.Views.{Chain, replaced}

module _ (z : Sizes) (cs : List Chunk) where
  pub chain-live : (k : ℕ) (c : ChunkNo) (l : List ChunkNo) → Chain z cs k c l → Every (λ x. (x.0 < z.chunks) × ((chunk_at cs x).status ≡ live)) l
  unfolding Chain
  chain-live k c [] h = λ x m. absurd (Memᴰ.not-nil m)
  chain-live k c (y ∷ l) h = λ x m. ⊎_elim (λ p. rw p (h.1, h.2)) (λ n. chain-live ((chunk_at cs y).min + 1) _ l h.4 x n) (Memᴰ.cases_cons m)

  pub chain-above : (k : ℕ) (c : ChunkNo) (l : List ChunkNo) → Chain z cs k c l → Every (λ x. k ≤ (chunk_at cs x).min) l
  unfolding Chain
  chain-above k c [] h = λ x m. absurd (Memᴰ.not-nil m)
  chain-above k c (y ∷ l) h = λ x m. ⊎_elim (λ p. rw p h.3) (λ n. omega (arith, h.3, chain-above ((chunk_at cs y).min + 1) _ l h.4 x n)) (Memᴰ.cases_cons m)

  pub chain-ascends : (k : ℕ) (c : ChunkNo) (l : List ChunkNo) → Chain z cs k c l → Ascends (λ x. (chunk_at cs x).min) k l
  unfolding Chain Ascends
  chain-ascends k c [] h = tt
  chain-ascends k c (y ∷ l) h = (h.3, chain-ascends ((chunk_at cs y).min + 1) _ l h.4)

  -- minimum keys ascend, so no chunk stands twice
  pub chain-apart : (k : ℕ) (c : ChunkNo) (l : List ChunkNo) → Chain z cs k c l → Apart (λ x. x.0) l
  unfolding Chain Apart
  chain-apart k c [] h = tt
  chain-apart k c (y ∷ l) h = (λ x m q. above x m (ap chunk_no q), chain-apart ((chunk_at cs y).min + 1) _ l h.4)
    where
      above : (x : ChunkNo) → Memᴰ x l → y ≡ x → ⊥
      above x m q = omega (arith, chain-above _ _ l h.4 x m, ap (λ (c : ChunkNo). (chunk_at cs c).min) q)

  -- after a chunk of the chain comes another, or none
  pub chain_next : (k : ℕ) (c x : ChunkNo) (l : List ChunkNo) → Chain z cs k c l → Memᴰ x l → ((chunk_at cs x).next.0 ≡ NONE) ⊎ Memᴰ (chunk_at cs x).next l
  unfolding Chain
  chain_next k c x [] h m = absurd (Memᴰ.not-nil m)
  chain_next k c x (y ∷ l) h m = ⊎_elim (λ (p : x ≡ y). rw p (first l refl)) (λ n. ⊎_map (λ e. e) (λ o. Memᴰ.tail o) (chain_next ((chunk_at cs y).min + 1) _ x l h.4 n)) (Memᴰ.cases_cons m)
    where
      first : (r : List ChunkNo) → r ≡ l → ((chunk_at cs y).next.0 ≡ NONE) ⊎ Memᴰ (chunk_at cs y).next (y ∷ l)
      first [] e = inl (rw (← e) at h.4)
      first (v ∷ r) e = inr (Memᴰ.tail {xs = l} (rw (← e) (Memᴰ.head ahead.0)))
        where
          ahead : Chain z cs ((chunk_at cs y).min + 1) (chunk_at cs y).next (v ∷ r)
          ahead = rw (← e) at h.4

  module _ (sized : z.chunks ≤ NONE) where
    pub chain-view : (fuel k : ℕ) (c : ChunkNo) (l : List ChunkNo) → length l ≤ fuel → Chain z cs k c l → chain_from z cs fuel c ≡ l
    unfolding Chain chain_from
    chain-view zero k c [] b h = refl
    chain-view (suc fuel) k c [] b h = rw (le-ltb c.0 z.chunks (omega arith))
    chain-view zero k c (x ∷ l) b h = absurd (not-suc-le-zero b)
    chain-view (suc fuel) k c (x ∷ l) b h = rw (h.0, lt-ltb x.0 z.chunks h.1) (ap (λ (r : List ChunkNo). x ∷ r) (chain-view fuel _ _ l (le_of_suc-le-suc b) h.4))

    -- the count of the shape is the chain's length
    pub chain-count : (fuel k n : ℕ) (c x : ChunkNo) (l : List ChunkNo) → length (x ∷ l) ≤ fuel → Chain z cs k c (x ∷ l) → chain_count z cs fuel c k n ≡ n + length (x ∷ l)
    unfolding Chain chain_count
    chain-count zero k n c x l b h = absurd (not-suc-le-zero b)
    chain-count (suc fuel) k n c x [] b h =
        rw (h.0, lt-ltb x.0 z.chunks h.1, h.2, le-leb k (chunk_at cs x).min h.3, eq-eqb (chunk_at cs x).next.0 NONE h.4)
    chain-count (suc fuel) k n c x (y ∷ l) b h =
        rw (h.0, lt-ltb x.0 z.chunks h.1, h.2, le-leb k (chunk_at cs x).min h.3, ne_eqb (chunk_at cs x).next.0 NONE (λ q. inside (ap (λ (c : ChunkNo). c.0) h.4.0) q))
        (rw (chain-count fuel _ _ _ y l (le_of_suc-le-suc b) h.4) (sum n (length l)))
      where
        inside : (chunk_at cs x).next.0 ≡ y.0 → (chunk_at cs x).next.0 ≡ NONE → ⊥
        inside p q = omega (arith, h.4.1)

        sum : (a b : ℕ) → a + 1 + suc b ≡ a + suc (suc b)
        sum a b = omega arith

    -- locate: a live chunk whose range has the key
    pub chain-locate : (fuel lo k : ℕ) (c x : ChunkNo) (l : List ChunkNo) → length (x ∷ l) ≤ fuel → Chain z cs lo c (x ∷ l) → (chunk_at cs x).min ≤ k →
        Memᴰ (locate_from z cs fuel c k) (x ∷ l) × InRange z cs (locate_from z cs fuel c k) k
    unfolding Chain locate_from
    chain-locate zero lo k c x l b h le = absurd (not-suc-le-zero b)
    chain-locate (suc fuel) lo k c x [] b h le = rw (h.0, le-ltb (chunk_at cs x).next.0 z.chunks (omega (arith, h.4))) (Memᴰ.head refl, record { from = le; to = λ i. absurd (out i) })
      where
        out : (chunk_at cs x).next.0 < z.chunks → ⊥
        out i = omega (arith, h.4)
    chain-locate (suc fuel) lo k c x (y ∷ l) b h le =
        rw (h.0, h.4.0, lt-ltb y.0 z.chunks h.4.1)
        (picked (λ (r : ChunkNo). Memᴰ r (x ∷ y ∷ l) × InRange z cs r k) (leb (chunk_at cs y).min k)
        (λ t. let on = chain-locate fuel _ k y y l (le_of_suc-le-suc b) (refl, h.4.1, h.4.2, h.4.3, h.4.4) (leb-true _ _ t) in (Memᴰ.tail on.0, on.1))
        (λ t. (Memᴰ.head refl, record { from = le; to = λ i. rw h.4.0 (leb-false _ _ t) })))

    -- the chunk that comes after has a larger minimum key
    pub chain-rises : (k : ℕ) (c x : ChunkNo) (l : List ChunkNo) → Chain z cs k c l → Memᴰ x l → (chunk_at cs x).next.0 < z.chunks → (chunk_at cs x).min < (chunk_at cs (chunk_at cs x).next).min
    unfolding Chain
    chain-rises k c x [] h m = absurd (Memᴰ.not-nil m)
    chain-rises k c x (y ∷ l) h m = λ i. ⊎_elim (λ (p : x ≡ y). rw p (first l refl (rw p at i))) (λ n. chain-rises ((chunk_at cs y).min + 1) _ x l h.4 n i) (Memᴰ.cases_cons m)
      where
        first : (r : List ChunkNo) → r ≡ l → (chunk_at cs y).next.0 < z.chunks → (chunk_at cs y).min < (chunk_at cs (chunk_at cs y).next).min
        first [] e i = absurd (none (rw (← e) at h.4))
          where
            none : (chunk_at cs y).next.0 ≡ NONE → ⊥
            none q = omega (arith, sized)
        first (v ∷ r) e i = rw ahead.0 (omega (arith, ahead.3))
          where
            ahead : Chain z cs ((chunk_at cs y).min + 1) (chunk_at cs y).next (v ∷ r)
            ahead = rw (← e) at h.4

    -- no key lies in two ranges
    pub chain-one : (lo k : ℕ) (c x y : ChunkNo) (l : List ChunkNo) → Chain z cs lo c l → Memᴰ x l → Memᴰ y l → InRange z cs x k → InRange z cs y k → x ≡ y
    unfolding Chain
    chain-one lo k c x y [] h m n p q = absurd (Memᴰ.not-nil m)
    chain-one lo k c x y (w ∷ l) h m n p q = split (Memᴰ.cases_cons m) (Memᴰ.cases_cons n) (λ m' n'. chain-one ((chunk_at cs w).min + 1) k _ x y l h.4 m' n' p q)
      where
        -- a later one's range begins past the first one's
        past : (v : ChunkNo) (r : List ChunkNo) → r ≡ l → Memᴰ v r → InRange z cs w k → InRange z cs v k → ⊥
        past v [] e o i j = Memᴰ.not-nil o
        past v (u ∷ r) e o i j = absurd (later (⊎_elim (λ (s : v ≡ u). rw s (le_refl _)) (λ s. omega (arith, chain-above _ _ r tail.4 v s)) (Memᴰ.cases_cons o)))
          where
            tail : Chain z cs ((chunk_at cs w).min + 1) (chunk_at cs w).next (u ∷ r)
            tail = rw (← e) at h.4

            later : (chunk_at cs u).min ≤ (chunk_at cs v).min → ⊥
            later d = omega (arith, j.from, rw tail.0 at (i.to (rw tail.0 tail.1)))

        split : (x ≡ w) ⊎ Memᴰ x l → (y ≡ w) ⊎ Memᴰ y l → (Memᴰ x l → Memᴰ y l → x ≡ y) → x ≡ y
        split (inl a) (inl b) f = a ∙ sym b
        split (inl a) (inr b) f = absurd (past y l refl b (rw (← a) p) q)
        split (inr a) (inl b) f = absurd (past x l refl a (rw (← b) q) p)
        split (inr a) (inr b) f = f a b

-- ---- what a write leaves
pub chain-frame : (z : Sizes) (cs cs' : List Chunk) (k : ℕ) (c : ChunkNo) (l : List ChunkNo) → Chain z cs k c l →
    Every (λ x. ((chunk_at cs' x).status ≡ (chunk_at cs x).status) × ((chunk_at cs' x).min ≡ (chunk_at cs x).min) × ((chunk_at cs' x).next ≡ (chunk_at cs x).next)) l → Chain z cs' k c l
unfolding Chain
chain-frame z cs cs' k c [] h same = h
chain-frame z cs cs' k c (x ∷ l) h same =
    let here = same x (Memᴰ.head refl) in
    (h.0, h.1, here.0 ∙ h.2, rw here.1 h.3, rw (here.1, here.2) (chain-frame z cs cs' ((chunk_at cs x).min + 1) _ l h.4 (λ y m. same y (Memᴰ.tail m))))

-- a chain whose first minimum key is at least k ascends from k on
pub chain-raise : (z : Sizes) (cs : List Chunk) (j k : ℕ) (c : ChunkNo) (l : List ChunkNo) → Chain z cs j c l → (c.0 < z.chunks → k ≤ (chunk_at cs c).min) → Chain z cs k c l
unfolding Chain
chain-raise z cs j k c [] h le = h
chain-raise z cs j k c (x ∷ l) h le = (h.0, h.1, h.2, rw h.0 at (le (rw h.0 h.1)), h.4)

-- the chunk before another points to it
pub before-next : (z : Sizes) (cs : List Chunk) (old : ChunkNo) (fuel lo : ℕ) (c x : ChunkNo) (l : List ChunkNo) → length l ≤ fuel → Chain z cs lo c (x ∷ l) → Memᴰ old l →
    Memᴰ (before_from z cs fuel c old) (x ∷ l) × ((chunk_at cs (before_from z cs fuel c old)).next ≡ old)
unfolding Chain before_from
before-next z cs old fuel lo c x [] b h m = absurd (Memᴰ.not-nil m)
before-next z cs old zero lo c x (y ∷ l) b h m = absurd (not-suc-le-zero b)
before-next z cs old (suc fuel) lo c x (y ∷ l) b h m =
    rw (h.0, h.4.0)
    (picked (λ (r : ChunkNo). Memᴰ r (x ∷ y ∷ l) × ((chunk_at cs r).next ≡ old)) (eqb y.0 old.0) (λ t. (Memᴰ.head refl, h.4.0 ∙ ap chunk_no (eqb-true _ _ t)))
    (λ t. rw (lt-ltb y.0 z.chunks h.4.1) (let on = before-next z cs old fuel _ y y l (le_of_suc-le-suc b) (refl, h.4.1, h.4.2, h.4.3, h.4.4) (later t (Memᴰ.cases_cons m)) in (Memᴰ.tail on.0, on.1))))
  where
    later : eqb y.0 old.0 ≡ false → (old ≡ y) ⊎ Memᴰ old l → Memᴰ old l
    later t (inl q) = absurd (eqb-false _ _ t (ap (λ (c : ChunkNo). c.0) (sym q)))
    later t (inr n) = n

-- the chain with new chunks in the place of the old one, by the rows that change
module _ (z : Sizes) (cs cs' : List Chunk) (sized : z.chunks ≤ NONE) (old a : ChunkNo) (new : List ChunkNo)
    (make : (lo : ℕ) (r : List ChunkNo) → lo ≤ (chunk_at cs old).min → Chain z cs ((chunk_at cs old).min + 1) (chunk_at cs old).next r →
    Chain z cs' ((chunk_at cs old).min + 1) (chunk_at cs old).next r → Chain z cs' lo a (new ++ r)) where
  -- a chunk of the chain that is neither the old one nor the one before it is as it was
  abbrev Same : ChunkNo → Type 0
  Same x = ((chunk_at cs' x).status ≡ (chunk_at cs x).status) × ((chunk_at cs' x).min ≡ (chunk_at cs x).min) × ((chunk_at cs' x).next ≡ (chunk_at cs x).next)

  -- the old one is first
  pub chain-swap-first : (lo : ℕ) (c : ChunkNo) (l : List ChunkNo) → Chain z cs lo c (old ∷ l) → Every Same l → Chain z cs' lo a (replaced old new (old ∷ l))
  unfolding Chain replaced
  chain-swap-first lo c l h same = rw (eq-eqb old.0 old.0 refl) (make lo l h.3 h.4 (chain-frame z cs cs' _ _ l h.4 same))

  -- it stands later: the one before it comes to point to the first new one
  pub chain-swap : (fuel lo : ℕ) (c x p : ChunkNo) (l : List ChunkNo) → length l ≤ fuel → Chain z cs lo c (x ∷ l) → Memᴰ old l →
      p ≡ before_from z cs fuel c old →
      Every (λ y. y ≢ old → ((chunk_at cs' y).status ≡ (chunk_at cs y).status) × ((chunk_at cs' y).min ≡ (chunk_at cs y).min)) (x ∷ l) →
      Every (λ y. y ≢ old → y ≢ p → (chunk_at cs' y).next ≡ (chunk_at cs y).next) (x ∷ l) →
      (chunk_at cs' p).next ≡ a →
      Chain z cs' lo c (replaced old new (x ∷ l))
  unfolding Chain before_from replaced Apart
  chain-swap fuel lo c x p [] b h m = absurd (Memᴰ.not-nil m)
  chain-swap zero lo c x p (y ∷ l) b h m = absurd (not-suc-le-zero b)
  chain-swap (suc fuel) lo c x p (y ∷ l) b h m = λ q rows nexts at.
      rw (ne_eqb x.0 old.0 (apart.0 old m))
      (by-test (eqb y.0 old.0) (λ t. here q rows nexts at t)
      (λ t. after q rows nexts t (chain-swap fuel _ y y p l (le_of_suc-le-suc b) (refl, h.4.1, h.4.2, h.4.3, h.4.4) (later t (Memᴰ.cases_cons m)) (onward q t) (λ v n. rows v (Memᴰ.tail n)) (λ v n. nexts v (Memᴰ.tail n)) at)))
    where
      apart : Apart (λ (c : ChunkNo). c.0) (x ∷ y ∷ l)
      apart = chain-apart z cs lo c (x ∷ y ∷ l) h

      not-old : x ≢ old
      not-old e = apart.0 old m (ap (λ (c : ChunkNo). c.0) e)

      Rows : Type 0
      Rows = Every (λ y. y ≢ old → ((chunk_at cs' y).status ≡ (chunk_at cs y).status) × ((chunk_at cs' y).min ≡ (chunk_at cs y).min)) (x ∷ y ∷ l)

      Nexts : Type 0
      Nexts = Every (λ y. y ≢ old → y ≢ p → (chunk_at cs' y).next ≡ (chunk_at cs y).next) (x ∷ y ∷ l)

      later : eqb y.0 old.0 ≡ false → (old ≡ y) ⊎ Memᴰ old l → Memᴰ old l
      later t (inl q) = absurd (eqb-false _ _ t (ap (λ (c : ChunkNo). c.0) (sym q)))
      later t (inr n) = n

      onward : p ≡ before_from z cs (suc fuel) c old → eqb y.0 old.0 ≡ false → p ≡ before_from z cs fuel y old
      onward q t = q ∙ rw (h.0, h.4.0, t, lt-ltb y.0 z.chunks h.4.1)

      tail : Chain z cs ((chunk_at cs x).min + 1) y (y ∷ l)
      tail = (refl, h.4.1, h.4.2, h.4.3, h.4.4)

      New : Type 0
      New = Chain z cs' lo c (x ∷ replaced old new (y ∷ l))

      here : p ≡ before_from z cs (suc fuel) c old → Rows → Nexts → (chunk_at cs' p).next ≡ a → eqb y.0 old.0 ≡ true → New
      here q rows nexts at t = (h.0, h.1, same.0 ∙ h.2, rw same.1 h.3, rw (same.1, turned, is-old) (chain-swap-first ((chunk_at cs x).min + 1) old l (rw is-old at tail) rest))
        where
          is-old : y ≡ old
          is-old = ap chunk_no (eqb-true y.0 old.0 t)

          is_x : p ≡ x
          is_x = q ∙ rw (h.0, h.4.0, t)

          same : ((chunk_at cs' x).status ≡ (chunk_at cs x).status) × ((chunk_at cs' x).min ≡ (chunk_at cs x).min)
          same = rows x (Memᴰ.head refl) not-old

          turned : (chunk_at cs' x).next ≡ a
          turned = ap (λ (c : ChunkNo). (chunk_at cs' c).next) (sym is_x) ∙ at

          rest : Every Same l
          rest v n = (both.0, both.1, nexts v (Memᴰ.tail (Memᴰ.tail n)) no_old (λ e. apart.0 v (Memᴰ.tail n) (ap (λ (c : ChunkNo). c.0) (sym (e ∙ is_x)))))
            where
              no_old : v ≢ old
              no_old e = apart.1.0 v n (ap (λ (c : ChunkNo). c.0) (is-old ∙ sym e))

              both : ((chunk_at cs' v).status ≡ (chunk_at cs v).status) × ((chunk_at cs' v).min ≡ (chunk_at cs v).min)
              both = rows v (Memᴰ.tail (Memᴰ.tail n)) no_old

      after : p ≡ before_from z cs (suc fuel) c old → Rows → Nexts → eqb y.0 old.0 ≡ false → Chain z cs' ((chunk_at cs x).min + 1) y (replaced old new (y ∷ l)) → New
      after q rows nexts t on = (h.0, h.1, same.0 ∙ h.2, rw same.1 h.3, rw (same.1, kept) on)
        where
          same : ((chunk_at cs' x).status ≡ (chunk_at cs x).status) × ((chunk_at cs' x).min ≡ (chunk_at cs x).min)
          same = rows x (Memᴰ.head refl) not-old

          among : Memᴰ p (y ∷ l)
          among = Memᴰ.cast (onward q t) (before-next z cs old fuel ((chunk_at cs x).min + 1) y y l (le_of_suc-le-suc b) tail (later t (Memᴰ.cases_cons m))).0

          kept : (chunk_at cs' x).next ≡ y
          kept = nexts x (Memᴰ.head refl) not-old (λ e. apart.0 p among (ap (λ (c : ChunkNo). c.0) e)) ∙ h.4.0

-- ---- the members of the chain with new ones in the place of one
module _ (old : ChunkNo) (new : List ChunkNo) where
  pub replaced-new : (x : ChunkNo) (l : List ChunkNo) → Memᴰ old l → Memᴰ x new → Memᴰ x (replaced old new l)
  unfolding replaced
  replaced-new x [] m n = absurd (Memᴰ.not-nil m)
  replaced-new x (y ∷ l) m n =
      picked (λ (r : List ChunkNo). Memᴰ x r) (eqb y.0 old.0) (λ _. Memᴰ.append_left l n)
      (λ t. ⊎_elim (λ p. absurd (eqb-false _ _ t (ap (λ (c : ChunkNo). c.0) (sym p)))) (λ o. Memᴰ.tail (replaced-new x l o n)) (Memᴰ.cases_cons m))

  pub replaced-old : (x : ChunkNo) (l : List ChunkNo) → Memᴰ x l → x ≢ old → Memᴰ x (replaced old new l)
  unfolding replaced
  replaced-old x [] m ne = absurd (Memᴰ.not-nil m)
  replaced-old x (y ∷ l) m ne =
      picked (λ (r : List ChunkNo). Memᴰ x r) (eqb y.0 old.0)
      (λ t. ⊎_elim (λ p. absurd (ne (p ∙ ap chunk_no (eqb-true _ _ t)))) (λ o. Memᴰ.append_right new o) (Memᴰ.cases_cons m))
      (λ t. ⊎_elim (λ p. Memᴰ.head p) (λ o. Memᴰ.tail (replaced-old x l o ne)) (Memᴰ.cases_cons m))

  pub replaced-length : (l : List ChunkNo) → Memᴰ old l → length (replaced old new l) + 1 ≡ length l + length new
  unfolding replaced
  replaced-length [] m = absurd (Memᴰ.not-nil m)
  replaced-length (y ∷ l) m =
      picked (λ (r : List ChunkNo). length r + 1 ≡ suc (length l) + length new) (eqb y.0 old.0)
      (λ t. omega (arith, length-append new l))
      (λ t. ⊎_elim (λ p. absurd (eqb-false _ _ t (ap (λ (c : ChunkNo). c.0) (sym p)))) (λ o. rest (replaced-length l o)) (Memᴰ.cases_cons m))
    where
      rest : length (replaced old new l) + 1 ≡ length l + length new → suc (length (replaced old new l)) + 1 ≡ suc (length l) + length new
      rest e = omega arith
