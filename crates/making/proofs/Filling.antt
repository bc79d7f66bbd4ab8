-- A loop that fills a table from the front with one row, and the stacks emptied so.
use Prim.Native.Nat.{ℕ, zero, suc, ◌+◌, ◌*◌, ◌-◌, ◌<◌, ◌≤◌}
use mathlib.Core.Path.{◌≡◌, refl, sym, ap, ◌∙◌}
use mathlib.Core.List.{List, [], ◌∷◌, ◌++◌}
use native.Mathlib.Nat.{le_antisymm}
use native.Mathlib.Numerals.{add-one}
use native.Mathlib.Omega.{arith}
use lib.ListN.{length, get_or, set, take, replicate, get_or-append, get_or-replicate, replicate-append-replicate}
use lib.Seq.{take-suc-set, take-length, length-take-le, get_or-append-add, get_or-take}
use Rattle.rules.specs.declared.Sizes.{Sizes}
use Rattle.rules.specs.Words.{NONE, entry_no, no_entry}
use Rattle.rules.specs.Tables.{empty_stack}
use Rattle.rows.specs.Rows.{rows_from, task_of, stack_of, task_rows, stack_rows}
use Rattle.rows.proofs.Laws.{row-alike, row_below}

module _ {A : Type 0} (x : A) where
  pub filled_more : (l : List A) (i : ℕ) → i < length l → take i l ≡ replicate i x → take (i + 1) (set l i x) ≡ replicate (i + 1) x
  filled_more l i h e =
      ap (λ (n : ℕ). take n (set l i x)) (add-one i)
      ∙ take-suc-set l i x h
      ∙ ap (λ (k : List A). k ++ (x ∷ [])) e
      ∙ replicate-append-replicate i 1 x

  pub filled-all : (l : List A) (n i : ℕ) → length l ≡ n → n ≤ i → i ≤ n → take i l ≡ replicate i x → l ≡ replicate n x
  filled-all l n i h a b e =
      sym (take-length l) ∙ ap (λ (k : ℕ). take k l) (h ∙ le_antisymm a b) ∙ e ∙ ap (λ (k : ℕ). replicate k x) (le_antisymm b a)

  same_rows : (i n : ℕ) → rows_from (λ j. x) i n ≡ replicate n x
  unfolding rows_from
  same_rows i zero = refl
  same_rows i (suc n) = ap (λ (l : List A). x ∷ l) (same_rows (i + 1) n)

  -- rows that are all the one
  pub rows_all : (f : ℕ → A) (n : ℕ) → ((i : ℕ) → i < n → f i ≡ x) → rows_from f 0 n ≡ replicate n x
  rows_all f n h = row-alike f (λ j. x) n h ∙ same_rows 0 n

-- the stacks are empty where every word after the tasks' rows is none
pub stacks-empty : (z : Sizes) (ws vs : List ℕ) → length ws ≡ z.tasks * 11 + z.tasks * z.entries → vs ≡ take (z.tasks * 11) ws ++ replicate (length ws - z.tasks * 11) NONE → stack_rows z vs ≡ replicate z.tasks (empty_stack z)
stacks-empty z ws vs long q = rows_all (empty_stack z) (stack_of z vs) z.tasks (λ i h. rows_all no_entry _ z.entries (λ e l. ap entry_no (word (i * z.entries + e) (row_below z.tasks z.entries i e h l))))
  where
    first : length (take (z.tasks * 11) ws) ≡ z.tasks * 11
    first = length-take-le (z.tasks * 11) ws (omega (arith, long))

    word : (r : ℕ) → r < z.tasks * z.entries → get_or vs (z.tasks * 11 + r) 0 ≡ NONE
    word r h =
        ap (λ (l : List ℕ). get_or l (z.tasks * 11 + r) 0) q
        ∙ ap (λ (n : ℕ). get_or (take (z.tasks * 11) ws ++ replicate (length ws - z.tasks * 11) NONE) (n + r) 0) (sym first)
        ∙ get_or-append-add (take (z.tasks * 11) ws) (replicate (length ws - z.tasks * 11) NONE) r 0
        ∙ get_or-replicate (length ws - z.tasks * 11) r NONE 0 (omega (arith, long))

-- the tasks' rows stay where the words of the rows do
pub tasks-kept : (n : ℕ) (ws vs us : List ℕ) → n * 11 ≤ length ws → vs ≡ take (n * 11) ws ++ us → task_rows n vs ≡ task_rows n ws
tasks-kept n ws vs us long q = row-alike (task_of vs) (task_of ws) n (λ i h. row i (omega arith))
  where
    word : (r : ℕ) → r < n * 11 → get_or vs r 0 ≡ get_or ws r 0
    word r h =
        ap (λ (l : List ℕ). get_or l r 0) q
        ∙ get_or-append (take (n * 11) ws) us 0 r (rw (length-take-le (n * 11) ws long) h)
        ∙ get_or-take (n * 11) ws r 0 h

    row : (i : ℕ) → i * 11 + 11 ≤ n * 11 → task_of vs i ≡ task_of ws i
    row i h = rw (word (i * 11) (omega arith), word (i * 11 + 1) (omega arith), word (i * 11 + 2) (omega arith), word (i * 11 + 3) (omega arith), word (i * 11 + 4) (omega arith), word (i * 11 + 5) (omega arith), word (i * 11 + 6) (omega arith), word (i * 11 + 7) (omega arith), word (i * 11 + 8) (omega arith), word (i * 11 + 9) (omega arith), word (i * 11 + 10) (omega arith))
