-- A list laid over a stack, entry by entry.
use Prim.Native.Nat.{ℕ, suc, ◌+◌, ◌≤◌, ◌<◌}
use mathlib.Core.Path.{◌≡◌, refl, sym, ap, ◌∙◌}
use mathlib.Core.List.{List, [], ◌∷◌}
use native.Mathlib.Omega.{arith}
use native.Mathlib.Numerals.{add-one}
use lib.ListN.{length, get_or, set}
use lib.Seq.{get_or-set_same, set-get_or, set-set}
use Rattle.rules.specs.declared.Sizes.{Sizes}
use Rattle.rules.specs.declared.EntryNo.{EntryNo}
use Rattle.rules.specs.Walks.{over}
use Rattle.rows.specs.Rows.{stack_rows, task_rows, StackPut}
use Rattle.rows.proofs.Laws.{length-rows}
use Rattle.stacking.specs.Stacked.{Stacked}

-- the list laid over the words from place i on
pub laid : ℕ → List EntryNo → List EntryNo → List EntryNo
laid i [] w = w
laid i (e ∷ l) w = laid (i + 1) l (set w i e)

laid-behind : (i : ℕ) (l w : List EntryNo) (x : EntryNo) → laid (suc i) l (x ∷ w) ≡ x ∷ laid i l w
unfolding laid
laid-behind i [] w x = refl
laid-behind i (e ∷ l) w x = rw (add-one (suc i), add-one i) (laid-behind (suc i) l (set w i e) x)

laid-nowhere : (i : ℕ) (l : List EntryNo) → laid i l [] ≡ []
unfolding laid
laid-nowhere i [] = refl
laid-nowhere i (e ∷ l) = laid-nowhere (i + 1) l

laid-over : (l w : List EntryNo) → laid 0 l w ≡ over l w
unfolding laid over
laid-over [] w = refl
laid-over (e ∷ l) [] = laid-nowhere (0 + 1) l
laid-over (e ∷ l) (x ∷ w) = laid-behind 0 l w e ∙ ap (λ (w : List EntryNo). e ∷ w) (laid-over l w)

-- so far laid: laying the whole list over the stack before is laying the rest over the stack now, from place i on
pub record Filling (z : Sizes) (before now : List ℕ) (n i left : ℕ) (all rest : List EntryNo) : Type 0 where
  pub stacks : set (stack_rows z before) n (laid 0 all (get_or (stack_rows z before) n [])) ≡ set (stack_rows z now) n (laid i rest (get_or (stack_rows z now) n []))
  pub rows : task_rows z.tasks now ≡ task_rows z.tasks before
  pub room : i + left ≤ z.entries
  pub long : length now ≡ length before

module _ (z : Sizes) (before : List ℕ) (n : ℕ) (all : List EntryNo) where
  pub filling-starts : Filling z before before n 0 z.entries all all
  filling-starts = record { stacks = refl; rows = refl; room = omega arith; long = refl }

  pub filling-done : (now : List ℕ) (i left : ℕ) (rest : List EntryNo) → Filling z before now n i left all rest → rest ≡ [] → Stacked z before now n (over all (get_or (stack_rows z before) n []))
  unfolding laid
  filling-done now i left rest f e =
      let done = rw e at f.stacks in
      record { stacks = sym (rw (laid-over all (get_or (stack_rows z before) n [])) at done ∙ set-get_or (stack_rows z now) n []); rows = f.rows }

  -- an entry that is passed over, and one that is laid
  pub filling-passes : (now : List ℕ) (i left : ℕ) (rest more : List EntryNo) → Filling z before now n i left all rest → rest ≡ more → (fewer : ℕ) → left ≡ fewer + 1 → Filling z before now n i fewer all more
  filling-passes now i left rest more f e fewer h = record { stacks = rw e at f.stacks; rows = f.rows; room = omega (arith, f.room); long = f.long }

  pub filling-lays : (now then : List ℕ) (i left : ℕ) (rest more : List EntryNo) (e : EntryNo) → Filling z before now n i left all rest → rest ≡ e ∷ more → (fewer : ℕ) → left ≡ fewer + 1 → n < z.tasks → StackPut z now then n i e → length then ≡ length now → Filling z before then n (i + 1) fewer all more
  unfolding laid
  filling-lays now then i left rest more e f q fewer h task put same =
      let w = get_or (stack_rows z now) n [] in
      let own : get_or (stack_rows z then) n [] ≡ set w i e = rw put.stacks (get_or-set_same (stack_rows z now) n (set w i e) [] (rw length-rows task)) in
      let here : set (stack_rows z before) n (laid 0 all (get_or (stack_rows z before) n [])) ≡ set (stack_rows z now) n (laid (i + 1) more (set w i e)) = rw q at f.stacks in
      let there : set (stack_rows z then) n (laid (i + 1) more (set w i e)) ≡ set (stack_rows z now) n (laid (i + 1) more (set w i e)) = rw put.stacks (set-set (stack_rows z now) n (set w i e) (laid (i + 1) more (set w i e))) in
      record { stacks = rw own (here ∙ sym there); rows = put.rows ∙ f.rows; room = omega (arith, f.room); long = same ∙ f.long }
