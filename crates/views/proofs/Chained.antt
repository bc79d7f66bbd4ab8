-- What the shape says of the chain of live chunks: every live chunk stands in it, and from any of them at or under a key the walk answers as from the first.
use Prim.Native.Nat.{ℕ, zero, suc, ◌+◌, ◌≤◌, ◌<◌, zero-le}
use mathlib.Core.Path.{◌≡◌, refl, sym, ap, ◌∙◌}
use mathlib.Core.Logic.{◌⊎◌, inl, inr, ⊎_elim, ⊎_map}
use mathlib.Core.Bool.{true}
use mathlib.Core.List.Memᴰ
use mathlib.Core.List.{List, [], ◌∷◌, Memᴰ}
use native.Mathlib.Nat.{le_refl, le_trans}
use native.Mathlib.Decide.{ℕ_discrete}
use native.Mathlib.Omega.{arith}
use lib.Dec.{eqb, ltb, leb}
use lib.ListN.{length, set}
use borrow.Author.Tests.{ltb-true, leb-true, eqb-true}
use Rattle.rules.specs.declared.Sizes.{Sizes}
use Rattle.rules.specs.declared.Chunk.{Chunk}
use Rattle.rules.specs.declared.ChunkNo.{ChunkNo}
use Rattle.rules.specs.Words.{◌and◌, NONE, chunk_no, live, unused}
use Rattle.rules.specs.Tables.{Tables, empty_chunk, chunk_at}
use Rattle.rules.specs.Walks.{locate_from, InRange}
use Rattle.rules.specs.Shape.{is_none, live_count, chain_count, chained}
use Rattle.laws.specs.Counts.{Every, Apart}
use Rattle.laws.proofs.Tests.{picked, and_left, and_right}
use Rattle.views.specs.Views.{Chain, Chained}
use Rattle.views.proofs.Rows.{in-use-row, chunk-put, live-set}
use Rattle.views.proofs.Chunks.{chain-live, chain-apart, chain-locate, chain-one}

-- ---- as many live chunks as there are
pub live-count-le : (cs : List Chunk) → live_count cs ≤ length cs
unfolding live_count
live-count-le [] = omega arith
live-count-le (x ∷ cs) = picked (λ (n : ℕ). n ≤ suc (length cs)) (eqb x.status live) (λ _. omega (arith, live-count-le cs)) (λ _. omega (arith, live-count-le cs))

-- live chunks, none of them twice, are no more than there are
live-at-most : (cs : List Chunk) (l : List ChunkNo) → Every (λ x. (chunk_at cs x).status ≡ live) l → Apart (λ x. x.0) l → length l ≤ live_count cs
unfolding Apart
live-at-most cs [] h a = zero-le
live-at-most cs (x ∷ l) h a = omega (arith, without, live-at-most (set cs x.0 empty_chunk) l others a.1)
  where
    here : (chunk_at cs x).status ≡ live
    here = h x (Memᴰ.head refl)

    inside : x.0 < length cs
    inside = in-use-row cs x (λ (e : (chunk_at cs x).status ≡ unused). omega (arith, here))

    without : live_count (set cs x.0 empty_chunk) + 1 ≡ live_count cs + 0
    without = rw here at (live-set cs x empty_chunk inside)

    others : Every (λ y. (chunk_at (set cs x.0 empty_chunk) y).status ≡ live) l
    others y m = chunk-put cs x empty_chunk y (λ (r : Chunk). r.status ≡ live) inside (λ e. absurd (a.0 y m (ap (λ (c : ChunkNo). c.0) (sym e)))) (λ _. h y (Memᴰ.tail m))

-- a chunk stands in the list, or no member has its number
among : (c : ChunkNo) (l : List ChunkNo) → Memᴰ c l ⊎ Every (λ x. c.0 ≡ x.0 → ⊥) l
among c [] = inr (λ x m. absurd (Memᴰ.not-nil m))
among c (y ∷ l) =
    elim (ℕ_discrete c.0 y.0) [
      | yes e ↦ inl (Memᴰ.head (ap chunk_no e))
      | no ne ↦ ⊎_map (λ m. Memᴰ.tail m) (λ h x m. ⊎_elim (λ (p : x ≡ y). λ q. ne (q ∙ ap (λ (c : ChunkNo). c.0) p)) (λ o. h x o) (Memᴰ.cases_cons m)) (among c l)
    ]

module _ (z : Sizes) (cs : List Chunk) where
  -- a chain that has as many as are live has them all
  chain-all : (k : ℕ) (c : ChunkNo) (l : List ChunkNo) → Chain z cs k c l → length l ≡ live_count cs → (x : ChunkNo) → (chunk_at cs x).status ≡ live → Memᴰ x l
  unfolding Apart
  chain-all k c l h n x e = ⊎_elim (λ m. m) (λ other. absurd (over (live-at-most cs (x ∷ l) every (apart other)))) (among x l)
    where
      every : Every (λ y. (chunk_at cs y).status ≡ live) (x ∷ l)
      every y m = ⊎_elim (λ (p : y ≡ x). rw p e) (λ o. (chain-live z cs k c l h y o).1) (Memᴰ.cases_cons m)

      apart : Every (λ y. x.0 ≡ y.0 → ⊥) l → Apart (λ y. y.0) (x ∷ l)
      apart other = (other, chain-apart z cs k c l h)

      over : suc (length l) ≤ live_count cs → ⊥
      over b = omega arith

  -- where the count does not break, it counts a chain
  count-chain : (fuel k n : ℕ) (c : ChunkNo) → chain_count z cs fuel c k n ≤ z.chunks → (rest : List ChunkNo) × Chain z cs k c (c ∷ rest) × (chain_count z cs fuel c k n ≡ n + length (c ∷ rest))
  unfolding Chain chain_count
  count-chain zero k n c = λ b. absurd (omega arith)
  count-chain (suc fuel) k n c =
      picked P (ltb c.0 z.chunks)
      (λ inside. picked P (eqb (chunk_at cs c).status live and leb k (chunk_at cs c).min)
      (λ stands. picked P (is_none (chunk_at cs c).next.0)
      (λ last b. ([], (refl, ltb-true _ _ inside, eqb-true _ _ (and_left _ _ stands), leb-true _ _ (and_right (eqb (chunk_at cs c).status live) _ stands), eqb-true _ _ last), refl))
      (λ more b. let on = count-chain fuel ((chunk_at cs c).min + 1) (n + 1) (chunk_at cs c).next b in
      ((chunk_at cs c).next ∷ on.0, (refl, ltb-true _ _ inside, eqb-true _ _ (and_left _ _ stands), leb-true _ _ (and_right (eqb (chunk_at cs c).status live) _ stands), on.1), on.2 ∙ sum n (length on.0))))
      (λ _ b. absurd (broken b)))
      (λ _ b. absurd (broken b))
    where
      P : ℕ → Type 0
      P m = m ≤ z.chunks → (rest : List ChunkNo) × Chain z cs k c (c ∷ rest) × (m ≡ n + length (c ∷ rest))

      broken : z.chunks + 1 ≤ z.chunks → ⊥
      broken b = omega arith

      sum : (a b : ℕ) → a + 1 + suc b ≡ a + suc (suc b)
      sum a b = omega arith

  -- the chain from one of its chunks on
  chain-from : (k : ℕ) (c x : ChunkNo) (l : List ChunkNo) → Chain z cs k c l → Memᴰ x l →
      (r : List ChunkNo) × (lo : ℕ) × Chain z cs lo x (x ∷ r) × (length (x ∷ r) ≤ length l) × Every (λ y. Memᴰ y l) (x ∷ r)
  unfolding Chain
  chain-from k c x [] h m = absurd (Memᴰ.not-nil m)
  chain-from k c x (y ∷ l) h m =
      ⊎_elim (λ (p : x ≡ y). rw p (l, k, (refl, h.1, h.2, h.3, h.4), le_refl _, λ v n. n))
      (λ n. let on = chain-from ((chunk_at cs y).min + 1) _ x l h.4 n in (on.0, on.1, on.2, longer (length (x ∷ on.0)) (length l) on.3, λ v o. Memᴰ.tail (on.4 v o)))
      (Memᴰ.cases_cons m)
    where
      longer : (a b : ℕ) → a ≤ b → a ≤ suc b
      longer a b h = omega arith

-- the chain of the shape
pub chained-chain : (z : Sizes) (s : Tables) → length s.chunks ≡ z.chunks → chained z s ≡ true → Chained z s.directory.first s.chunks
chained-chain z s long h =
    record {
      rest = on.0;
      chain = on.1;
      from = eqb-true (chunk_at s.chunks s.directory.first).min 0 (and_left (eqb (chunk_at s.chunks s.directory.first).min 0) _ h);
      counted = counted;
      every = λ c b e. chain-all z s.chunks 0 s.directory.first (s.directory.first ∷ on.0) on.1 counted c e;
    }
  where
    same : chain_count z s.chunks z.chunks s.directory.first 0 0 ≡ live_count s.chunks
    same = eqb-true _ _ (and_right (eqb (chunk_at s.chunks s.directory.first).min 0) _ h)

    on : (rest : List ChunkNo) × Chain z s.chunks 0 s.directory.first (s.directory.first ∷ rest) × (chain_count z s.chunks z.chunks s.directory.first 0 0 ≡ 0 + length (s.directory.first ∷ rest))
    on = count-chain z s.chunks z.chunks 0 0 s.directory.first (rw (same, ← long) (live-count-le s.chunks))

    counted : length (s.directory.first ∷ on.0) ≡ live_count s.chunks
    counted = omega (arith, same, on.2)

module _ (z : Sizes) (cs : List Chunk) (first : ChunkNo) (long : length cs ≡ z.chunks) (c : Chained z first cs) where
  -- the chain has at most as many chunks as there are
  pub chain-short : length (first ∷ c.rest) ≤ z.chunks
  chain-short = rw (c.counted, ← long) (live-count-le cs)

  -- from a live chunk at or under the key the walk answers as from the first
  pub start-locates : z.chunks ≤ NONE → (k : ℕ) (x : ChunkNo) → x.0 < z.chunks → (chunk_at cs x).status ≡ live → (chunk_at cs x).min ≤ k → locate_from z cs z.chunks x k ≡ locate_from z cs z.chunks first k
  start-locates sized k x b e le = chain-one z cs sized 0 k first _ _ (first ∷ c.rest) c.chain (on.4 _ part.0) whole.0 part.1 whole.1
    where
      on : (r : List ChunkNo) × (lo : ℕ) × Chain z cs lo x (x ∷ r) × (length (x ∷ r) ≤ length (first ∷ c.rest)) × Every (λ y. Memᴰ y (first ∷ c.rest)) (x ∷ r)
      on = chain-from z cs 0 first x (first ∷ c.rest) c.chain (c.every x b e)

      part : Memᴰ (locate_from z cs z.chunks x k) (x ∷ on.0) × InRange z cs (locate_from z cs z.chunks x k) k
      part = chain-locate z cs sized z.chunks on.1 k x x on.0 (le_trans on.3 chain-short) on.2 le

      whole : Memᴰ (locate_from z cs z.chunks first k) (first ∷ c.rest) × InRange z cs (locate_from z cs z.chunks first k) k
      whole = chain-locate z cs sized z.chunks 0 k first first c.rest chain-short c.chain (rw c.from zero-le)
