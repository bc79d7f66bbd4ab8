-- The parts of the shape, by name.
use Prim.Native.Nat.{ℕ, ◌≤◌, ◌<◌}
use mathlib.Core.Path.{◌≡◌}
use mathlib.Core.Logic.{⊎_elim}
use mathlib.Core.Bool.{true, false≢true}
use native.Mathlib.Nat.{le_trans}
use native.Mathlib.Omega.{arith}
use native.Mathlib.Decide.{dec_lt}
use lib.Dec.{eqb, ltb, leb}
use lib.ListN.{length, get_or-eq_default}
use borrow.Author.Tests.{lt-ltb, ltb-true, leb-true, eqb-true}
use Rattle.rules.specs.declared.Sizes.{Sizes}
use Rattle.rules.specs.Words.{◌and◌, ◌or◌, get, put, put_if_absent, upsert, compute, remove, scan, scan_down, idle, to_drain, to_copy, to_swap, to_release}
use Rattle.rules.specs.Tables.{Tables, task, idle_task}
use Rattle.rules.specs.Shape.{each, shape, sized, chunk_right, chained, task_right, stack_right, rebalance_fits, index_right, fits_operation}
use Rattle.rules.proofs.Tests.{and_left, and_right, both, or_cases, from-picked}
use Rattle.rules.proofs.Each.{each_at}

pub record Shaped (z : Sizes) (s : Tables) : Type 0 where
  pub is-sized : sized z s ≡ true
  pub marks : each (λ n m. leb m 1) 0 s.marks ≡ true
  pub first : s.directory.first.0 < z.chunks
  pub chunks : each (chunk_right z s) 0 s.chunks ≡ true
  pub chain : chained z s ≡ true
  pub tasks : each (task_right z s) 0 s.tasks ≡ true
  pub stacks : each (stack_right z s) 0 s.tasks ≡ true
  pub rebalance : rebalance_fits z s ≡ true
  pub index : index_right z s ≡ true

module _ (z : Sizes) (s : Tables) where
  pub shape-parts : shape z s ≡ true → Shaped z s
  unfolding shape
  shape-parts h =
      let h1 = and_right (sized z s) _ h in
      let h2 = and_right (each (λ n m. leb m 1) 0 s.marks) _ h1 in
      let h3 = and_right (ltb s.directory.first.0 z.chunks) _ h2 in
      let h4 = and_right (each (chunk_right z s) 0 s.chunks) _ h3 in
      let h5 = and_right (chained z s) _ h4 in
      let h6 = and_right (each (task_right z s) 0 s.tasks) _ h5 in
      let h7 = and_right (each (stack_right z s) 0 s.tasks) _ h6 in
      record {
        is-sized = and_left (sized z s) _ h;
        marks = and_left (each (λ n m. leb m 1) 0 s.marks) _ h1;
        first = ltb-true _ _ (and_left (ltb s.directory.first.0 z.chunks) _ h2);
        chunks = and_left (each (chunk_right z s) 0 s.chunks) _ h3;
        chain = and_left (chained z s) _ h4;
        tasks = and_left (each (task_right z s) 0 s.tasks) _ h5;
        stacks = and_left (each (stack_right z s) 0 s.tasks) _ h6;
        rebalance = and_left (rebalance_fits z s) _ h7;
        index = and_right (rebalance_fits z s) _ h7;
      }

  pub parts-shape : Shaped z s → shape z s ≡ true
  unfolding shape
  parts-shape h =
      both (sized z s) _ h.is-sized
      (both (each (λ n m. leb m 1) 0 s.marks) _ h.marks
      (both (ltb s.directory.first.0 z.chunks) _ (lt-ltb _ _ h.first)
      (both (each (chunk_right z s) 0 s.chunks) _ h.chunks
      (both (chained z s) _ h.chain
      (both (each (task_right z s) 0 s.tasks) _ h.tasks
      (both (each (stack_right z s) 0 s.tasks) _ h.stacks
      (both (rebalance_fits z s) _ h.rebalance
      h.index)))))))

-- ---- "each stage is known"
module _ (n : ℕ) where
  up_to : (a b : ℕ) → b ≤ 23 → (leb a n and leb n b) ≡ true → n ≤ 23
  up_to a b le h = le_trans (leb-true n b (and_right (leb a n) _ h)) le

  up-to-either : (a b c d : ℕ) → b ≤ 23 → d ≤ 23 → ((leb a n and leb n b) or (leb c n and leb n d)) ≡ true → n ≤ 23
  up-to-either a b c d le le' h = ⊎_elim (up_to a b le) (up_to c d le') (or_cases _ _ h)

  pub fits-known : (op : ℕ) → fits_operation op n ≡ true → n ≤ 23
  fits-known op =
      from-picked (eqb op get) _ _ (λ e. up_to 1 4 (omega arith)) λ e.
      from-picked (eqb op put_if_absent) _ _ (λ e. up-to-either 1 4 6 12 (omega arith) (omega arith)) λ e.
      from-picked (eqb op put or eqb op upsert) _ _ (λ e. up_to 1 12 (omega arith)) λ e.
      from-picked (eqb op compute) _ _ (λ e. up-to-either 1 5 13 15 (omega arith) (omega arith)) λ e.
      from-picked (eqb op remove) _ _ (λ e. up-to-either 1 5 13 21 (omega arith) (omega arith)) λ e.
      from-picked (eqb op scan) _ _ (λ e h. omega (arith, eqb-true)) λ e.
      from-picked (eqb op scan_down) _ _ (λ e h. omega (arith, eqb-true)) (λ e h. absurd (false≢true h))

module _ (z : Sizes) (s : Tables) (h : shape z s ≡ true) where
  pub task-right : (n : ℕ) → n < length s.tasks → task_right z s n (task s n) ≡ true
  task-right n b = each_at (task_right z s) 0 s.tasks n idle_task (shape-parts z s h).tasks b

  -- whatever the number, a task's stage is one of the 24
  pub stage-known : (n : ℕ) → (task s n).stage ≤ 23
  stage-known n = elim (dec_lt n (length s.tasks)) [ yes b ↦ inside b | no ne ↦ outside (omega arith) ]
    where
      inside : n < length s.tasks → (task s n).stage ≤ 23
      inside b =
          from-picked (eqb (task s n).stage 0) _ _ (λ e i. omega (arith, eqb-true))
          (λ e i. fits-known (task s n).stage (task s n).operation (and_left _ _ i)) (task-right n b)

      outside : length s.tasks ≤ n → (task s n).stage ≤ 23
      outside b = rw (get_or-eq_default s.tasks idle_task b) (omega arith)

  -- the rebalance is idle, or at one of its five stages
  pub rebalance-known : s.directory.stage ≤ to_release
  rebalance-known =
      (from-picked (eqb s.directory.stage idle) _ _ (λ e i. omega (arith, eqb-true)) λ e.
      from-picked (eqb s.directory.stage to_drain or eqb s.directory.stage to_copy) _ _
      (λ e i. early e) λ e.
      from-picked (leb to_swap s.directory.stage and leb s.directory.stage to_release) _ _
      (λ e i. leb-true _ _ (and_right (leb to_swap s.directory.stage) _ e)) λ e i. absurd (false≢true i))
      (and_left _ _ (shape-parts z s h).rebalance)
    where
      early : (eqb s.directory.stage to_drain or eqb s.directory.stage to_copy) ≡ true → s.directory.stage ≤ to_release
      early e = ⊎_elim (λ (x : eqb s.directory.stage to_drain ≡ true). omega (arith, eqb-true)) (λ (x : eqb s.directory.stage to_copy ≡ true). omega (arith, eqb-true)) (or_cases _ _ e)
