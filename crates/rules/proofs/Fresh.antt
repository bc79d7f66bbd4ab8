-- Fresh tables have the shape.
use Prim.Native.Nat.{ℕ, zero, suc, ◌+◌, ◌*◌, ◌-◌, ◌≤◌, ◌<◌, min}
use mathlib.Core.Path.{◌≡◌, refl, ◌∙◌}
use mathlib.Core.Bool.{true}
use mathlib.Core.List.{List, []}
use native.Mathlib.Nat.{zero-min, min-zero, suc-min-suc, sub-zero, zero-sub, suc-sub-suc, not-suc-le-zero, le_of_suc-le-suc}
use native.Mathlib.Omega.{arith}
use lib.Dec.{eqb, leb, leb-zero}
use lib.ListN.{length, get_or, set, take, drop, replicate, length-replicate, length-set}
use borrow.Author.Tests.{lt-ltb, le-ltb, eq-eqb, ne_eqb}
use Rattle.rules.specs.declared.Sizes.{Sizes}
use Rattle.rules.specs.declared.Chunk.{Chunk}
use Rattle.rules.specs.Words.{◌and◌, NONE, chunk_no, no_entry, live}
use Rattle.rules.specs.Tables.{empty_chunk, empty_entry, empty_stack, empty_row, empty_index, idle_task, chunk_at, stack}
use Rattle.rules.specs.Rebalance.{with_status}
use Rattle.rules.specs.Shape.{each, shape, slot_right, slots_of, chunk_right, chunk_fits, task_right, stack_right, is_none, all_none, ascends_from, chain_count, live_count, sized, chained, index_right, rows_ascend}
use Rattle.rules.specs.Calls.{fresh}
use Rattle.rules.proofs.Tests.{both, pick_same}
use Rattle.rules.proofs.Each.{each-replicate, each_set}
use Rattle.rules.proofs.Shaped.{parts-shape}

-- ---- a part of a table of one row's copies
pub take-replicate {ℓ} : {A : Type ℓ} (n m : ℕ) (a : A) → take n (replicate m a) ≡ replicate (min n m) a
take-replicate zero m a = rw zero-min
take-replicate (suc n) zero a = rw min-zero
take-replicate (suc n) (suc m) a = rw (suc-min-suc, take-replicate n m a)

pub drop-replicate {ℓ} : {A : Type ℓ} (n m : ℕ) (a : A) → drop n (replicate m a) ≡ replicate (m - n) a
drop-replicate zero m a = rw sub-zero
drop-replicate (suc n) zero a = rw zero-sub
drop-replicate (suc n) (suc m) a = rw (suc-sub-suc, drop-replicate n m a)

pub get_d_replicate {ℓ} : {A : Type ℓ} (m n : ℕ) (a d : A) → n < m → get_or (replicate m a) n d ≡ a
get_d_replicate zero n a d b = absurd (not-suc-le-zero b)
get_d_replicate (suc m) zero a d b = refl
get_d_replicate (suc m) (suc n) a d b = get_d_replicate m n a d (le_of_suc-le-suc b)

-- ---- chunks
module _ (z : Sizes) where
  empty-list : (c : ℕ) (used : ℕ) (fuel : ℕ) → ascends_from z (fresh z).entries (chunk_no c) used fuel no_entry 0 ≡ true
  unfolding ascends_from
  empty-list c used zero = refl
  empty-list c used (suc fuel) = refl

  empty-slots : (c : ℕ) → each (slot_right z (fresh z) 0) 0 (slots_of z (fresh z).entries (chunk_no c)) ≡ true
  empty-slots c =
      rw (drop-replicate (c * z.entries) (z.chunks * z.entries) empty_entry, take-replicate z.entries (z.chunks * z.entries - c * z.entries) empty_entry)
      (each-replicate (slot_right z (fresh z) 0) 0 (min z.entries (z.chunks * z.entries - c * z.entries)) empty_entry (λ i b. rw (le-ltb (0 + i) 0 (omega arith))))

  -- an empty chunk, whatever its number, and the live one
  fresh-chunks : each (chunk_right z (fresh z)) 0 (fresh z).chunks ≡ true
  fresh-chunks =
      each_set (chunk_right z (fresh z)) 0 (replicate z.chunks empty_chunk) 0 (with_status empty_chunk live)
      (each-replicate (chunk_right z (fresh z)) 0 z.chunks empty_chunk (λ i b. rw (empty-slots (0 + i), empty-list (0 + i) 0 z.entries)))
      (λ b. simp (pick_same, leb-zero, empty-slots 0, empty-list 0 0 z.entries))

  no-live : (n : ℕ) → live_count (replicate n empty_chunk) ≡ 0
  unfolding live_count
  no-live zero = refl
  no-live (suc n) = no-live n

  fresh-chain : 1 ≤ z.chunks → chained z (fresh z) ≡ true
  unfolding chain_count live_count
  fresh-chain one = go z.chunks one
    where
      go :
          (n : ℕ) → 1 ≤ n
          → (eqb (chunk_at (set (replicate n empty_chunk) 0 (with_status empty_chunk live)) (chunk_no 0)).min 0
          and eqb (chain_count z (set (replicate n empty_chunk) 0 (with_status empty_chunk live)) n (chunk_no 0) 0 0) (live_count (set (replicate n empty_chunk) 0 (with_status empty_chunk live))))
          ≡ true
      go zero h = absurd (not-suc-le-zero h)
      go (suc n) h = rw (lt-ltb 0 z.chunks one, no-live n)

  -- no chunk's number is none
  fresh-fits : z.chunks ≤ NONE → each (chunk_fits z (fresh z) (fresh z).directory) 0 (fresh z).chunks ≡ true
  fresh-fits le =
      each_set (chunk_fits z (fresh z) (fresh z).directory) 0 (replicate z.chunks empty_chunk) 0 (with_status empty_chunk live)
      (each-replicate (chunk_fits z (fresh z) (fresh z).directory) 0 z.chunks empty_chunk (λ i b. rw (ne_eqb NONE (0 + i) (omega arith)))) (λ b. refl)

  fresh-sized : sized z (fresh z) ≡ true
  fresh-sized =
      both _ _ (eq-eqb _ _ (length-replicate z.tasks idle_task))
      (both _ _ (eq-eqb _ _ (length-set (replicate z.chunks empty_chunk) 0 (with_status empty_chunk live) ∙ length-replicate z.chunks empty_chunk))
      (both _ _ (eq-eqb _ _ (length-replicate (z.chunks * z.entries) empty_entry))
      (both _ _ (eq-eqb _ _ (length-replicate {A = ℕ} z.handles 0))
      (both _ _ (eq-eqb _ _ (length-replicate {A = ℕ} z.handles 0))
      (both _ _ (eq-eqb _ _ (length-replicate z.tasks (empty_stack z)))
      (both _ _ (each-replicate (λ n w. eqb (length w) z.entries) 0 z.tasks (empty_stack z) (λ i b. eq-eqb _ _ (length-replicate z.entries no_entry)))
      (eq-eqb _ _ (length-set (empty_index z) 0 (record { min = 0; chunk = chunk_no 0 }) ∙ length-replicate z.chunks empty_row))))))))

  -- nothing is on a stack
  fresh-stack : (n : ℕ) → n < z.tasks → all_none (stack (fresh z) n) ≡ true
  fresh-stack n b = rw (get_d_replicate z.tasks n (empty_stack z) [] b) (each-replicate (λ n e. is_none e.0) 0 z.entries no_entry (λ i b. refl))

  -- past the row of chunk 0 the index is empty
  pub empty-rows : (cs : List Chunk) (k n : ℕ) → rows_ascend z cs 0 k (replicate n empty_row) ≡ true
  unfolding rows_ascend
  empty-rows cs k zero = refl
  empty-rows cs k (suc n) = empty-rows cs k n

  fresh-index : 1 ≤ z.chunks → index_right z (fresh z) ≡ true
  unfolding rows_ascend
  fresh-index one = go z.chunks one
    where
      go : (n : ℕ) → 1 ≤ n → rows_ascend z (set (replicate n empty_chunk) 0 (with_status empty_chunk live)) 1 0 (set (replicate n empty_row) 0 (record { min = 0; chunk = chunk_no 0 })) ≡ true
      go zero h = absurd (not-suc-le-zero h)
      go (suc n) h = rw (lt-ltb 0 z.chunks one, empty-rows (set (replicate (suc n) empty_chunk) 0 (with_status empty_chunk live)) 1 n)

  pub fresh-shape : 1 ≤ z.chunks → z.chunks ≤ NONE → shape z (fresh z) ≡ true
  fresh-shape one le =
      parts-shape z (fresh z) (record {
        is-sized = fresh-sized;
        marks = each-replicate (λ n m. leb m 1) 0 z.handles 0 (λ i b. refl);
        first = one;
        chunks = fresh-chunks;
        chain = fresh-chain one;
        tasks = each-replicate (task_right z (fresh z)) 0 z.tasks idle_task (λ i b. refl);
        stacks = each-replicate (stack_right z (fresh z)) 0 z.tasks idle_task (λ i b. fresh-stack (0 + i) (omega (arith, b)));
        rebalance = fresh-fits le;
        index = fresh-index one;
      })
