-- One step of each walk, told by the row that the code has read.
use Prim.Native.Nat.{ℕ, zero, suc, ◌+◌, ◌*◌, ◌-◌, ◌≤◌, ◌<◌, zero-le}
use mathlib.Core.Path.{◌≡◌, refl, sym, ap, ◌∙◌}
use mathlib.Core.Bool.{Bool, true, false, true≢false}
use mathlib.Core.Logic.{◌≢◌}
use mathlib.Core.List.{List, [], ◌∷◌}
use native.Mathlib.Nat.{le_antisymm, zero-lt-suc, not-suc-le-zero, le_of_suc-le-suc, mul-le-mul_right}
use native.Mathlib.Numerals.{add-one, sub-one}
use native.Mathlib.Omega.{arith}
use borrow.Author.Tests.{lt-ltb, le-ltb, ltb-true, ltb-false, le-leb, lt-leb, eq-eqb, ne_eqb}
use lib.Dec.{eqb, ltb}
use lib.ListN.{length, get_or, drop}
use lib.Seq.{drop-cons, drop-nil}
use Rattle.rules.specs.declared.Sizes.{Sizes}
use Rattle.rules.specs.declared.Chunk.{Chunk}
use Rattle.rules.specs.declared.Entry.{Entry}
use Rattle.rules.specs.declared.ChunkNo.{ChunkNo}
use Rattle.rules.specs.declared.EntryNo.{EntryNo}
use Rattle.rules.specs.Words.{pick, NONE, chunk_no, no_chunk, no_entry, unused}
use Rattle.rules.specs.Tables.{chunk_at, entry_at}
use Rattle.rules.specs.Walks.{locate_from, before_from, find_from, place_from, lies, within_from, depth, top}
use Rattle.rules.specs.Rebalance.{unused_from, published_on, held_chunk}
use Rattle.rows.specs.Rows.{rows_from, stack_of, stack_rows}
use Rattle.walks.specs.Found.{publishes_on}
use Rattle.rows.proofs.Laws.{length-rows, row_read, rows_step, rows-done}

-- a walk with a step left takes it, and has the rest left
pub fuelled : {A : Type 0} (f : ℕ → A) (g : ℕ → A) → ((n : ℕ) → f (suc n) ≡ g n) → (left rest : ℕ) → left ≡ rest + 1 → f left ≡ g rest
fuelled f g step left rest p = ap f (p ∙ add-one rest) ∙ step rest

-- ---- along the live chunks: c, the number of its next, and that one's row
module _ (z : Sizes) (cs : List Chunk) (c d : ChunkNo) (next : d ≡ (chunk_at cs c).next) where
  pub locate-spent : (k left : ℕ) → left ≤ 0 → locate_from z cs left c k ≡ c
  unfolding locate_from
  locate-spent k left h = rw (le_antisymm h zero-le)

  pub locate-out : (k left : ℕ) → z.chunks ≤ d.0 → locate_from z cs left c k ≡ c
  unfolding locate_from
  locate-out k zero h = refl
  locate-out k (suc n) h = rw (← next, le-ltb _ _ h)

  pub locate-above : (k left : ℕ) → d.0 < z.chunks → (x : Chunk) → x ≡ chunk_at cs d → k < x.min → locate_from z cs left c k ≡ c
  unfolding locate_from
  locate-above k zero h x q m = refl
  locate-above k (suc n) h x q m = rw (← next, ← q, lt-ltb _ _ h, lt-leb _ _ m)

  pub locate-next : (k left rest : ℕ) → left ≡ rest + 1 → d.0 < z.chunks → (x : Chunk) → x ≡ chunk_at cs d → x.min ≤ k → locate_from z cs left c k ≡ locate_from z cs rest d k
  unfolding locate_from
  locate-next k left rest p h x q m = fuelled (λ n. locate_from z cs n c k) (λ n. locate_from z cs n d k) (λ n. rw (← next, ← q, lt-ltb _ _ h, le-leb _ _ m)) left rest p

  pub before-spent : (x : ChunkNo) (left : ℕ) → left ≤ 0 → before_from z cs left c x ≡ no_chunk
  unfolding before_from
  before-spent x left h = rw (le_antisymm h zero-le)

  pub before_here : (x : ChunkNo) (left : ℕ) → 0 < left → eqb d.0 x.0 ≡ true → before_from z cs left c x ≡ c
  unfolding before_from
  before_here x left p h = fuelled (λ n. before_from z cs n c x) (λ n. c) (λ n. rw (← next, h)) left (left - 1) (omega (arith, p))

  pub before-out : (x : ChunkNo) (left : ℕ) → eqb d.0 x.0 ≡ false → z.chunks ≤ d.0 → before_from z cs left c x ≡ no_chunk
  unfolding before_from
  before-out x zero h m = refl
  before-out x (suc n) h m = rw (← next, h, le-ltb _ _ m)

  pub before-next : (x : ChunkNo) (left rest : ℕ) → left ≡ rest + 1 → eqb d.0 x.0 ≡ false → d.0 < z.chunks → before_from z cs left c x ≡ before_from z cs rest d x
  unfolding before_from
  before-next x left rest p h m = fuelled (λ n. before_from z cs n c x) (λ n. before_from z cs n d x) (λ n. rw (← next, h, lt-ltb _ _ m)) left rest p

-- ---- along a chunk's list: entry e
module _ (z : Sizes) (es : List Entry) (c : ChunkNo) (e : EntryNo) where
  pub find-spent : (k left : ℕ) → left ≤ 0 → find_from z es c left e k ≡ no_entry
  unfolding find_from
  find-spent k left h = rw (le_antisymm h zero-le)

  pub find-out : (k left : ℕ) → z.entries ≤ e.0 → find_from z es c left e k ≡ no_entry
  unfolding find_from
  find-out k zero h = refl
  find-out k (suc n) h = rw (le-ltb _ _ h)

  pub find-here : (k left : ℕ) → 0 < left → e.0 < z.entries → (x : Entry) → x ≡ entry_at z es c e → x.key ≡ k → find_from z es c left e k ≡ e
  unfolding find_from
  find-here k left p h x q m = fuelled (λ n. find_from z es c n e k) (λ n. e) (λ n. rw (lt-ltb _ _ h, eq-eqb _ _ (ap (λ (x : Entry). x.key) (sym q) ∙ m))) left (left - 1) (omega (arith, p))

  pub find-next : (k left rest : ℕ) → left ≡ rest + 1 → e.0 < z.entries → (x : Entry) → x ≡ entry_at z es c e → (x.key ≡ k → ⊥) → find_from z es c left e k ≡ find_from z es c rest x.next k
  unfolding find_from
  find-next k left rest p h x q m = fuelled (λ n. find_from z es c n e k) (λ n. find_from z es c n x.next k) (λ n. rw (lt-ltb _ _ h, ne_eqb _ _ (λ e. m (ap (λ (x : Entry). x.key) q ∙ e)), q)) left rest p

  pub place-spent : (below : EntryNo) (k left : ℕ) → left ≤ 0 → place_from z es c left below e k ≡ below
  unfolding place_from
  place-spent below k left h = rw (le_antisymm h zero-le)

  pub place_out : (below : EntryNo) (k left : ℕ) → z.entries ≤ e.0 → place_from z es c left below e k ≡ below
  unfolding place_from
  place_out below k zero h = refl
  place_out below k (suc n) h = rw (le-ltb _ _ h)

  pub place_here : (below : EntryNo) (k left : ℕ) → e.0 < z.entries → (x : Entry) → x ≡ entry_at z es c e → k ≤ x.key → place_from z es c left below e k ≡ below
  unfolding place_from
  place_here below k zero h x q m = refl
  place_here below k (suc n) h x q m = rw (lt-ltb _ _ h, ← q, le-ltb _ _ m)

  pub place-next : (below : EntryNo) (k left rest : ℕ) → left ≡ rest + 1 → e.0 < z.entries → (x : Entry) → x ≡ entry_at z es c e → x.key < k → place_from z es c left below e k ≡ place_from z es c rest e x.next k
  unfolding place_from
  place-next below k left rest p h x q m = fuelled (λ n. place_from z es c n below e k) (λ n. place_from z es c n e x.next k) (λ n. rw (lt-ltb _ _ h, ← q, lt-ltb _ _ m)) left rest p

-- an entry of a chunk past the table
pub row-above : (m n c e : ℕ) → m ≤ c → m * n ≤ c * n + e
row-above m n c e h = omega (arith, mul-le-mul_right n h)

-- the entries in range
module _ (z : Sizes) (es : List Entry) (c : ChunkNo) (from to : ℕ) (e : EntryNo) where
  pub within-spent : (left : ℕ) → left ≤ 0 → within_from z es c from to left e ≡ []
  unfolding within_from
  within-spent left h = rw (le_antisymm h zero-le)

  pub within-out : (left : ℕ) → z.entries ≤ e.0 → within_from z es c from to left e ≡ []
  unfolding within_from
  within-out zero h = refl
  within-out (suc n) h = rw (le-ltb _ _ h)

  pub within-next : (left rest : ℕ) → left ≡ rest + 1 → e.0 < z.entries → (x : Entry) → x ≡ entry_at z es c e → (b : Bool) → b ≡ lies from to x.key → within_from z es c from to left e ≡ pick b (e ∷ within_from z es c from to rest x.next) (within_from z es c from to rest x.next)
  unfolding within_from
  within-next left rest p h x q b t = fuelled (λ n. within_from z es c from to n e) (λ n. pick b (e ∷ within_from z es c from to n x.next) (within_from z es c from to n x.next)) (λ n. rw (lt-ltb _ _ h, ← q, ← t)) left rest p

-- ---- up a stack
module _ (z : Sizes) (ws : List ℕ) (n : ℕ) (task : n < z.tasks) where
  abbrev pub stack_in : List EntryNo
  stack_in = get_or (stack_rows z ws) n []

  pub stack-length : length stack_in ≡ z.entries
  stack-length = rw (row_read (stack_of z ws) z.tasks n [] task) (length-rows _ 0 z.entries)

  pub depth-here : (i : ℕ) → i < z.entries → (e : EntryNo) → e ≡ get_or stack_in i no_entry → z.entries ≤ e.0 → depth z (drop i stack_in) ≡ 0
  unfolding depth
  depth-here i h e q l = rw (drop-cons stack_in i no_entry (rw stack-length h), ← q, le-ltb _ _ l)

  pub depth-next : (i : ℕ) → i < z.entries → (e : EntryNo) → e ≡ get_or stack_in i no_entry → e.0 < z.entries → depth z (drop i stack_in) ≡ depth z (drop (i + 1) stack_in) + 1
  unfolding depth
  depth-next i h e q l = rw (add-one i, drop-cons stack_in i no_entry (rw stack-length h), ← q, lt-ltb _ _ l)

  pub depth-done : (i : ℕ) → z.entries ≤ i → depth z (drop i stack_in) ≡ 0
  unfolding depth
  depth-done i h = rw (drop_all stack_in i (rw stack-length h))
    where
      drop_all : (w : List EntryNo) (i : ℕ) → length w ≤ i → drop i w ≡ []
      drop_all [] i h = drop-nil i
      drop_all (x ∷ w) zero h = absurd (not-suc-le-zero h)
      drop_all (x ∷ w) (suc i) h = drop_all w i (le_of_suc-le-suc h)

module _ (z : Sizes) where
  -- the one on top is an entry where the stack has one, and else is none
  pub top-on : (w : List EntryNo) → 0 < depth z w → (top z w).0 < z.entries
  unfolding depth
  top-on [] h = absurd (not-suc-le-zero h)
  top-on (e ∷ w) h = go (ltb e.0 z.entries) (depth z w) refl refl (top-on w) h
    where
      go : (b : Bool) (d : ℕ) → ltb e.0 z.entries ≡ b → depth z w ≡ d → (0 < depth z w → (top z w).0 < z.entries) → 0 < pick b (d + 1) 0 → (get_or (e ∷ w) (pick b (d + 1) 0 - 1) no_entry).0 < z.entries
      go false d p q on h = absurd (not-suc-le-zero h)
      go true zero p q on h = ltb-true _ _ p
      go true (suc d) p q on h = rw (add-one, sub-one) (rw (q, sub-one) at (on (rw q (zero-lt-suc d))))

  pub top-off : (w : List EntryNo) → z.entries ≤ NONE → depth z w ≡ 0 → z.entries ≤ (top z w).0
  unfolding depth
  top-off [] fits h = fits
  top-off (e ∷ w) fits h = go (ltb e.0 z.entries) refl h
    where
      go : (b : Bool) → ltb e.0 z.entries ≡ b → pick b (depth z w + 1) 0 ≡ 0 → z.entries ≤ (get_or (e ∷ w) (pick b (depth z w + 1) 0 - 1) no_entry).0
      go false p h = ltb-false _ _ p
      go true p h = absurd (omega arith)

-- ---- through the rows of a table: some row passes the test
pub record Some {A : Type 0} (some : List A → Bool) (test : A → Bool) : Type 0 where
  pub nil : some [] ≡ false
  pub cons : (x : A) (l : List A) → some (x ∷ l) ≡ pick (test x) true (some l)

module _ {A : Type 0} {some : List A → Bool} {test : A → Bool} (law : Some some test) (f : ℕ → A) where
  some_from : (a m i : ℕ) → a ≤ i → i < a + m → test (f i) ≡ true → some (rows_from f a m) ≡ true
  unfolding rows_from
  some_from a zero i h l t = absurd (omega arith)
  some_from a (suc m) i h l t = law.cons (f a) (rows_from f (a + 1) m) ∙ go (test (f a)) refl (λ g. some_from (a + 1) m i g (omega arith) t)
    where
      go : (b : Bool) → test (f a) ≡ b → (a + 1 ≤ i → some (rows_from f (a + 1) m) ≡ true) → pick b true (some (rows_from f (a + 1) m)) ≡ true
      go true q on = refl
      go false q on =
          let other : a ≢ i = λ e. true≢false (sym t ∙ ap (λ k. test (f k)) (sym e) ∙ q) in
          on (omega arith)

  none_from : (a m : ℕ) → ((i : ℕ) → a ≤ i → i < a + m → test (f i) ≡ false) → some (rows_from f a m) ≡ false
  unfolding rows_from
  none_from a zero q = law.nil
  none_from a (suc m) q = rw (law.cons, q a (omega arith) (omega arith)) (none_from (a + 1) m (λ i h l. q i (omega arith) (omega arith)))

  -- a search through the first n rows has told whether one passes; of a range it knows the numbers at which a list is read, so one is read at each
  module _ (n : ℕ) where
    pub some-told : (r : Bool) → (r ≡ true → (i : ℕ) × (i < n) × (test (f i) ≡ true)) → (r ≡ false → (i : ℕ) → i < n → (w : List ℕ) → get_or w i 0 ≡ 0 → test (f i) ≡ false) → r ≡ some (rows_from f 0 n)
    some-told true one none = let w = one refl in sym (some_from 0 n w.0 (omega arith) (omega (arith, w.1)) w.2)
    some-told false one none = sym (none_from 0 n (λ i h l. none refl i (omega arith) [] refl))

pub published-some : (c : ChunkNo) → Some (λ l. published_on l c) (publishes_on c)
unfolding published_on publishes_on
published-some c = record { nil = refl; cons = λ x l. refl }

pub held-chunk-some : (c : ChunkNo) → Some (λ l. held_chunk l c) (λ t. eqb t.chunk.0 c.0)
unfolding held_chunk
held-chunk-some c = record { nil = refl; cons = λ x l. refl }

-- the unused chunks
module _ (f : ℕ → Chunk) (n i : ℕ) where
  pub unused-done : n ≤ i → unused_from (rows_from f i (n - i)) i ≡ no_chunk
  unfolding unused_from
  unused-done h = rw (rows-done f n i h)

  pub unused-here : i < n → (x : Chunk) → x ≡ f i → x.status ≡ unused → unused_from (rows_from f i (n - i)) i ≡ chunk_no i
  unfolding unused_from
  unused-here h x q t = rw (rows_step f n i h, ← q, eq-eqb _ _ t)

  pub unused-next : i < n → (x : Chunk) → x ≡ f i → (x.status ≡ unused → ⊥) → unused_from (rows_from f i (n - i)) i ≡ unused_from (rows_from f (i + 1) (n - (i + 1))) (i + 1)
  unfolding unused_from
  unused-next h x q t = rw (rows_step f n i h, ← q, ne_eqb _ _ t)
