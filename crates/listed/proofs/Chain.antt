-- The walk along the chain, one step, told by the row that the code has read; and the chunks of a status, counted row by row.
use Prim.Native.Nat.{ℕ, zero, suc, ◌+◌, ◌-◌, ◌≤◌, ◌<◌, zero-le}
use mathlib.Core.Path.{◌≡◌, refl, sym, ◌∙◌}
use mathlib.Core.Bool.{Bool, true, false, ◌&&◌}
use mathlib.Core.Logic.{◌≢◌}
use mathlib.Core.List.{List, [], ◌∷◌}
use native.Mathlib.Nat.{le_antisymm}
use native.Mathlib.Omega.{arith}
use lib.Dec.{eqb, leb}
use lib.ListN.{length}
use Rattle.std.specs.declared.option.Option.{Option}
use Rattle.std.specs.declared.option.Option.TheVariants.{Some, None}
use Rattle.std.specs.Option.{option_eq}
use borrow.Author.Tests.{lt-ltb, le-ltb, eq-eqb, ne_eqb}
use Rattle.rules.specs.declared.Sizes.{Sizes}
use Rattle.rules.specs.declared.Directory.{Directory}
use Rattle.rules.specs.declared.Chunk.{Chunk}
use Rattle.rules.specs.declared.ChunkNo.{ChunkNo}
use Rattle.rules.specs.Words.{pick, live}
use Rattle.rules.specs.Tables.{Tables, chunk_at}
use Rattle.rules.specs.Shape.{is_none, chain_count, live_count, chained}
use Rattle.rows.specs.Rows.{rows_from}
use Rattle.listed.specs.Parts.{counted, count_of}
use Rattle.listed.proofs.Tests.{and_is}

-- the row is live, and its minimum key may follow
abbrev pub stands : ℕ → Chunk → Bool
stands k x = pick (eqb x.status live) (leb k x.min) false

module _ (z : Sizes) (cs : List Chunk) (left : ℕ) (c : ChunkNo) (k n : ℕ) where
  pub chain-spent : left ≤ 0 → chain_count z cs left c k n ≡ z.chunks + 1
  unfolding chain_count
  chain-spent h = rw (le_antisymm h zero-le)

  pub chain-past : z.chunks ≤ c.0 → chain_count z cs left c k n ≡ z.chunks + 1
  unfolding chain_count
  chain-past h = go left
    where
      go : (m : ℕ) → chain_count z cs m c k n ≡ z.chunks + 1
      go zero = refl
      go (suc m) = rw (le-ltb c.0 z.chunks h)

  pub chain-breaks : c.0 < z.chunks → (x : Chunk) → x ≡ chunk_at cs c → stands k x ≡ false → chain_count z cs left c k n ≡ z.chunks + 1
  unfolding chain_count
  chain-breaks h x q s = go left
    where
      s' : stands k (chunk_at cs c) ≡ false
      s' = rw q at s

      go : (m : ℕ) → chain_count z cs m c k n ≡ z.chunks + 1
      go zero = refl
      go (suc m) = rw (lt-ltb c.0 z.chunks h, s')

  module _ (rest : ℕ) (l : left ≡ rest + 1) (h : c.0 < z.chunks) (x : Chunk) (q : x ≡ chunk_at cs c) (s : stands k x ≡ true) where
    turn : chain_count z cs left c k n ≡ pick (is_none x.next.0) (n + 1) (chain_count z cs rest x.next (x.min + 1) (n + 1))
    unfolding chain_count
    turn =
        let l' : left ≡ suc rest = omega arith in
        let s' : stands k (chunk_at cs c) ≡ true = rw q at s in
        rw (l', lt-ltb c.0 z.chunks h, s', q)

    pub chain-ends : is_none x.next.0 ≡ true → chain_count z cs left c k n ≡ n + 1
    chain-ends e = turn ∙ rw e

    pub chain_next : is_none x.next.0 ≡ false → chain_count z cs left c k n ≡ chain_count z cs rest x.next (x.min + 1) (n + 1)
    chain_next e = turn ∙ rw e

-- ---- the chunks of a status
pub live-is : (l : List Chunk) → count_of live l ≡ live_count l
unfolding count_of live_count
live-is [] = refl
live-is (x ∷ l) = rw (live-is l)

count-fits : (status : ℕ) (l : List Chunk) → count_of status l ≤ length l
unfolding count_of
count-fits status [] = zero-le
count-fits status (x ∷ l) = go (eqb x.status status) (count-fits status l)
  where
    go : (b : Bool) → count_of status l ≤ length l → pick b (count_of status l + 1) (count_of status l) ≤ suc (length l)
    go true h = omega arith
    go false h = omega arith

-- those from row i on, of n
abbrev pub left-of : ℕ → (ℕ → Chunk) → ℕ → ℕ → ℕ
left-of status f n i = count_of status (rows_from f i (n - i))

module _ (status : ℕ) (f : ℕ → Chunk) (n : ℕ) where
  pub count-end : (i : ℕ) → n ≤ i → left-of status f n i ≡ 0
  unfolding count_of rows_from
  count-end i h = let e : n - i ≡ 0 = omega arith in rw e

  pub count-one : (i : ℕ) → i < n → (x : Chunk) → x ≡ f i → x.status ≡ status → left-of status f n i ≡ left-of status f n (i + 1) + 1
  unfolding count_of rows_from
  count-one i h x q t = let s : (f i).status ≡ status = rw q at t in let e : n - i ≡ suc (n - (i + 1)) = omega arith in rw (e, eq-eqb (f i).status status s)

  pub count_none : (i : ℕ) → i < n → (x : Chunk) → x ≡ f i → x.status ≢ status → left-of status f n i ≡ left-of status f n (i + 1)
  unfolding count_of rows_from
  count_none i h x q t = let s : (f i).status ≢ status = rw q at t in let e : n - i ≡ suc (n - (i + 1)) = omega arith in rw (e, ne_eqb (f i).status status s)

-- ---- the chain's count held against that of the live chunks
same-count : (z : Sizes) (o : Option ℕ) (m : ℕ) → m ≤ z.chunks → option_eq eqb o (Some m) ≡ eqb (counted z o) m
same-count z (Some n) m h = refl
same-count z None m h = sym (ne_eqb (z.chunks + 1) m (λ e. absurd (omega arith)))

pub chained-is : (z : Sizes) (t : Tables) (d : Directory) (x : Chunk) (o : Option ℕ) (m : ℕ) (same : Bool) → length t.chunks ≡ z.chunks → d ≡ t.directory → x ≡ chunk_at t.chunks d.first → counted z o ≡ chain_count z t.chunks z.chunks d.first 0 0 → m ≡ count_of live t.chunks → same ≡ option_eq eqb o (Some m) → eqb x.min 0 && same ≡ chained z t
chained-is z t d x o m same long p q counts lives s =
    let fits : m ≤ z.chunks = omega (arith, long, lives, count-fits live t.chunks) in
    let here : x ≡ chunk_at t.chunks t.directory.first = rw (← p) q in
    let counts' : counted z o ≡ chain_count z t.chunks z.chunks t.directory.first 0 0 = rw (← p) counts in
    and_is (eqb x.min 0) same ∙ rw (s, same-count z o m fits, counts', lives, live-is t.chunks, here)
