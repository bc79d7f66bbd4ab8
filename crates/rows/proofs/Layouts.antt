-- The words of each table's row: writing them is `set` of the row, and different words never give equal rows.
use Prim.Native.Nat.{ℕ, zero, suc, ◌+◌, ◌*◌, ◌-◌, ◌/◌, ◌%◌, ◌≤◌, ◌<◌}
use mathlib.Core.Path.{◌≡◌, refl, sym, ap, ◌∙◌}
use mathlib.Core.List.{List, [], ◌∷◌}
use mathlib.Core.Logic.{◌≢◌, ◌⊎◌, inl, inr}
use native.Mathlib.Nat.{add-zero, zero-add, mul-zero, zero-lt-suc, not-suc-le-zero, mod-lt, div-add-mod', div-lt_iff_lt-mul}
use native.Mathlib.Omega.{arith}
use native.Mathlib.Decide.{dec_lt}
use lib.ListN.{length, get_or, set, length-set}
use lib.Seq.{sets, ext_get_or, get_or-set_same, get_or-set_other}
use Rattle.rules.specs.declared.Sizes.{Sizes}
use Rattle.rules.specs.declared.EntryNo.{EntryNo}
use Rattle.rules.specs.declared.Directory.{Directory}
use Rattle.rules.specs.declared.IndexRow.{IndexRow}
use Rattle.rules.specs.declared.Task.{Task}
use Rattle.rules.specs.declared.Chunk.{Chunk}
use Rattle.rules.specs.declared.Entry.{Entry}
use Rattle.rules.specs.Words.{chunk_no, entry_no, handle_no, no_entry}
use Rattle.rules.specs.Tables.{empty_row}
use Rattle.rows.specs.Rows.{rows_from, directory_of, index_of, task_of, chunk_of, entry_of, index_rows, task_rows, chunk_rows, entry_rows, stack_of, stack_rows, DirectoryPut, IndexPut, TaskPut, StackWord, StackPut}
use Rattle.rows.proofs.Laws.{row_read, row_below, row_same, row-alike, row-set, rows-differ, stored, kept, behind}

-- a row of w words: made from them, and its words again
record Layout (A : Type 0) (w : ℕ) : Type 0 where
  made : (ℕ → ℕ) → A
  words : A → List ℕ
  back : (x : A) → made (λ o. get_or (words x) o 0) ≡ x
  forth : (f : ℕ → ℕ) → words (made f) ≡ rows_from f 0 w
  wide : (x : A) → length (words x) ≡ w

module _ {A : Type 0} {w : ℕ} (L : Layout A w) where
  -- rows made from the same words are the same
  alike : (f g : ℕ → ℕ) → ((o : ℕ) → o < w → f o ≡ g o) → L.made f ≡ L.made g
  alike f g h =
      sym (L.back (L.made f))
      ∙ ap (λ (l : List ℕ). L.made (λ o. get_or l o 0)) (L.forth f ∙ row-alike f g w h ∙ sym (L.forth g))
      ∙ L.back (L.made g)

  -- the same rows are made from the same words
  apart : (f g : ℕ → ℕ) → L.made f ≡ L.made g → (o : ℕ) → o < w → f o ≡ g o
  apart f g e o h =
      row_same f g w o 0 h (sym (L.forth f) ∙ ap (λ (x : A). L.words x) e ∙ L.forth g)

  module _ (of : List ℕ → ℕ → A) (reads : (ws : List ℕ) (i : ℕ) → of ws i ≡ L.made (λ o. get_or ws (i * w + o) 0)) where
    put : (ws : List ℕ) (i : ℕ) (x : A) → i * w + w ≤ length ws → (n : ℕ) → rows_from (of (sets ws (i * w) (L.words x))) 0 n ≡ set (rows_from (of ws) 0 n) i x
    put ws i x fits n =
        row-set (of ws) (of (sets ws (i * w) (L.words x))) n i x
        (reads _ i ∙ alike _ _ (stored w ws (L.words x) i (L.wide x) fits) ∙ L.back x)
        (λ k h. reads _ k ∙ alike _ _ (λ o l. kept w ws (L.words x) i (L.wide x) fits k o h l) ∙ sym (reads ws k))

    -- words of rows that are the same
    alike-words : 0 < w → (n : ℕ) (ws vs : List ℕ) (d : A) → rows_from (of ws) 0 n ≡ rows_from (of vs) 0 n → (j : ℕ) → j < n * w → get_or ws j 0 ≡ get_or vs j 0
    alike-words p n ws vs d e j h =
        let i : j / w < n = (div-lt_iff_lt-mul p).1 h in
        let rows : of ws (j / w) ≡ of vs (j / w) = row_same (of ws) (of vs) n (j / w) d i e in
        let one = apart (λ o. get_or ws (j / w * w + o) 0) (λ o. get_or vs (j / w * w + o) 0) (sym (reads ws (j / w)) ∙ rows ∙ reads vs (j / w)) (j % w) (mod-lt j p) in
        rw (div-add-mod' j w) at one

    same : 0 < w → (n : ℕ) (ws vs : List ℕ) → length ws ≡ n * w → length vs ≡ n * w → (d : A) → rows_from (of ws) 0 n ≡ rows_from (of vs) 0 n → ws ≡ vs
    same p n ws vs a b d e = ext_get_or 0 ws vs (a ∙ sym b) (λ j h. alike-words p n ws vs d e j (rw a at h))

entry_layout : Layout Entry 3
unfolding rows_from
entry_layout = record { made = λ f. record { key = f 0; handle = handle_no (f 1); next = entry_no (f 2) }; words = λ x. x.key ∷ x.handle.0 ∷ x.next.0 ∷ []; back = λ x. refl; forth = λ f. refl; wide = λ x. refl }

pub entry-put : (ws : List ℕ) (i : ℕ) (x : Entry) → i * 3 + 3 ≤ length ws → (n : ℕ) → entry_rows n (sets ws (i * 3) (x.key ∷ x.handle.0 ∷ x.next.0 ∷ [])) ≡ set (entry_rows n ws) i x
unfolding entry_layout
entry-put = put entry_layout entry_of (λ ws i. simp add-zero)

pub entry-same : (n : ℕ) (ws vs : List ℕ) → length ws ≡ n * 3 → length vs ≡ n * 3 → entry_rows n ws ≡ entry_rows n vs → ws ≡ vs
unfolding entry_layout
entry-same n ws vs a b = same entry_layout entry_of (λ ws i. simp add-zero) (omega arith) n ws vs a b (entry_of [] 0)

chunk_layout : Layout Chunk 6
unfolding rows_from
chunk_layout = record { made = λ f. record { status = f 0; frozen = f 1; min = f 2; next = chunk_no (f 3); head = entry_no (f 4); used = f 5 }; words = λ x. x.status ∷ x.frozen ∷ x.min ∷ x.next.0 ∷ x.head.0 ∷ x.used ∷ []; back = λ x. refl; forth = λ f. refl; wide = λ x. refl }

pub chunk-put : (ws : List ℕ) (i : ℕ) (x : Chunk) → i * 6 + 6 ≤ length ws → (n : ℕ) → chunk_rows n (sets ws (i * 6) (x.status ∷ x.frozen ∷ x.min ∷ x.next.0 ∷ x.head.0 ∷ x.used ∷ [])) ≡ set (chunk_rows n ws) i x
unfolding chunk_layout
chunk-put = put chunk_layout chunk_of (λ ws i. simp add-zero)

pub chunk-same : (n : ℕ) (ws vs : List ℕ) → length ws ≡ n * 6 → length vs ≡ n * 6 → chunk_rows n ws ≡ chunk_rows n vs → ws ≡ vs
unfolding chunk_layout
chunk-same n ws vs a b = same chunk_layout chunk_of (λ ws i. simp add-zero) (omega arith) n ws vs a b (chunk_of [] 0)

abbrev pub task_words : Task → List ℕ
task_words x = x.stage ∷ x.operation ∷ x.function ∷ x.key ∷ x.argument ∷ x.chunk.0 ∷ x.entry.0 ∷ x.old.0 ∷ x.new.0 ∷ x.published ∷ x.swapped ∷ []

task_layout : Layout Task 11
unfolding rows_from
task_layout = record { made = λ f. record { stage = f 0; operation = f 1; function = f 2; key = f 3; argument = f 4; chunk = chunk_no (f 5); entry = entry_no (f 6); old = handle_no (f 7); new = handle_no (f 8); published = f 9; swapped = f 10 }; words = task_words; back = λ x. refl; forth = λ f. refl; wide = λ x. refl }

task-rows : (ws : List ℕ) (i : ℕ) (x : Task) → i * 11 + 11 ≤ length ws → (n : ℕ) → task_rows n (sets ws (i * 11) (task_words x)) ≡ set (task_rows n ws) i x
unfolding task_layout
task-rows = put task_layout task_of (λ ws i. simp add-zero)

task-alike : (ws vs : List ℕ) (n : ℕ) → ((j : ℕ) → j < n * 11 → get_or ws j 0 ≡ get_or vs j 0) → task_rows n ws ≡ task_rows n vs
unfolding task_layout
task-alike ws vs n h = row-alike (task_of ws) (task_of vs) n (λ i l. reads ws i ∙ alike task_layout _ _ (λ o p. h (i * 11 + o) (omega arith)) ∙ sym (reads vs i))
  where
    reads : (ws : List ℕ) (i : ℕ) → task_of ws i ≡ task_layout.made (λ o. get_or ws (i * 11 + o) 0)
    reads ws i = simp add-zero

task-words : (n : ℕ) (ws vs : List ℕ) → task_rows n ws ≡ task_rows n vs → (j : ℕ) → j < n * 11 → get_or ws j 0 ≡ get_or vs j 0
unfolding task_layout
task-words n ws vs = alike-words task_layout task_of (λ ws i. simp add-zero) (omega arith) n ws vs (task_of [] 0)

-- ---- the stacks' words, after every task's row
module _ (z : Sizes) where
  stacks-alike : (ws vs : List ℕ) → ((r : ℕ) → get_or ws (z.tasks * 11 + r) 0 ≡ get_or vs (z.tasks * 11 + r) 0) → stack_rows z ws ≡ stack_rows z vs
  stacks-alike ws vs h = row-alike (stack_of z ws) (stack_of z vs) z.tasks (λ n _. row-alike _ _ z.entries (λ e _. ap entry_no (h (n * z.entries + e))))

  stack-words : (ws vs : List ℕ) → stack_rows z ws ≡ stack_rows z vs → (r : ℕ) → r < z.tasks * z.entries → get_or ws (z.tasks * 11 + r) 0 ≡ get_or vs (z.tasks * 11 + r) 0
  stack-words ws vs e r h =
      let p : 0 < z.entries = factor z.tasks z.entries r h in
      let n : r / z.entries < z.tasks = (div-lt_iff_lt-mul p).1 h in
      let rows : stack_of z ws (r / z.entries) ≡ stack_of z vs (r / z.entries) = row_same (stack_of z ws) (stack_of z vs) z.tasks (r / z.entries) [] n e in
      let one = row_same (λ e. entry_no (get_or ws (z.tasks * 11 + (r / z.entries * z.entries + e)) 0)) (λ e. entry_no (get_or vs (z.tasks * 11 + (r / z.entries * z.entries + e)) 0)) z.entries (r % z.entries) no_entry (mod-lt r p) rows in
      rw (div-add-mod' r z.entries) at (ap (λ (e : EntryNo). e.0) one)
    where
      factor : (a b r : ℕ) → r < a * b → 0 < b
      factor a zero r h = absurd (not-suc-le-zero (rw mul-zero at h))
      factor a (suc b) r h = zero-lt-suc b

  -- words lent as asked are told apart by the tasks' rows and the stacks
  pub task-same : (ws vs : List ℕ) → length ws ≡ z.tasks * 11 + z.tasks * z.entries → length vs ≡ z.tasks * 11 + z.tasks * z.entries → task_rows z.tasks ws ≡ task_rows z.tasks vs → stack_rows z ws ≡ stack_rows z vs → ws ≡ vs
  task-same ws vs a b e f = ext_get_or 0 ws vs (a ∙ sym b) (λ j h. word j h (dec_lt j (z.tasks * 11)))
    where
      word : (j : ℕ) → j < length ws → Dec (j < z.tasks * 11) → get_or ws j 0 ≡ get_or vs j 0
      word j h (yes l) = task-words z.tasks ws vs e j l
      word j h (no l) =
          let r : ℕ = j - z.tasks * 11 in
          let q : z.tasks * 11 + r ≡ j = omega arith in
          rw q at (stack-words ws vs f r (omega (arith, a)))

  -- a stack's word that is read
  pub stack-read : (ws : List ℕ) (n i : ℕ) → n < z.tasks → i < z.entries → get_or (get_or (stack_rows z ws) n []) i no_entry ≡ entry_no (get_or ws (z.tasks * 11 + (n * z.entries + i)) 0)
  stack-read ws n i h l = rw (row_read (stack_of z ws) z.tasks n [] h) (row_read (λ e. entry_no (get_or ws (z.tasks * 11 + (n * z.entries + e)) 0)) z.entries i no_entry l)

  -- and written
  pub stack-put : (ws : List ℕ) (n i : ℕ) (e : EntryNo) → StackWord z ws n i → StackPut z ws (set ws (z.tasks * 11 + (n * z.entries + i)) e.0) n i e
  stack-put ws n i e w = record { stacks = stacks; rows = task-alike (set ws place e.0) ws z.tasks (λ j h. get_or-set_other ws place j e.0 0 (λ q. absurd (omega arith))) }
    where
      place : ℕ
      place = z.tasks * 11 + (n * z.entries + i)

      word : List ℕ → ℕ → ℕ → EntryNo
      word ws n e = entry_no (get_or ws (z.tasks * 11 + (n * z.entries + e)) 0)

      own : stack_of z (set ws place e.0) n ≡ set (get_or (stack_rows z ws) n []) i e
      own =
          row-set (word ws n) (word (set ws place e.0) n) z.entries i e
          (ap entry_no (get_or-set_same ws place e.0 0 (omega (arith, w.long, row_below z.tasks z.entries n i w.task w.entry))))
          (λ k h. ap entry_no (get_or-set_other ws place _ e.0 0 (λ q. h (omega arith))))
          ∙ rw (row_read (stack_of z ws) z.tasks n [] w.task)

      stacks : stack_rows z (set ws place e.0) ≡ set (stack_rows z ws) n (set (get_or (stack_rows z ws) n []) i e)
      stacks =
          row-set (stack_of z ws) (stack_of z (set ws place e.0)) z.tasks n _ own
          (λ k h. row-alike _ _ z.entries (λ j l. ap entry_no (get_or-set_other ws place _ e.0 0 (λ q. rows-differ z.entries k n j i h l w.entry (omega arith)))))

pub task-put : (ws : List ℕ) (i : ℕ) (x : Task) → i * 11 + 11 ≤ length ws → TaskPut ws (sets ws (i * 11) (task_words x)) i x
task-put ws i x fits = record { rows = task-rows ws i x fits; stacks = λ z h. stacks-alike z (sets ws (i * 11) (task_words x)) ws (past z h) }
  where
    past : (z : Sizes) → i < z.tasks → (r : ℕ) → get_or (sets ws (i * 11) (task_words x)) (z.tasks * 11 + r) 0 ≡ get_or ws (z.tasks * 11 + r) 0
    past z h r =
        let j : ℕ = z.tasks * 11 - (i * 11 + 11) + r in
        let p : i * 11 + (11 + j) ≡ z.tasks * 11 + r = omega arith in
        let q : i * 11 + 11 + j ≡ z.tasks * 11 + r = omega arith in
        rw (p, q) at (behind 11 ws (task_words x) i refl fits j)

-- ---- the directory's one row, and the index after it
abbrev pub directory_words : Directory → List ℕ
directory_words x = x.first.0 ∷ x.stage ∷ x.old.0 ∷ x.new.0 ∷ x.second.0 ∷ x.indexed ∷ []

directory_layout : Layout Directory 6
unfolding rows_from
directory_layout = record { made = λ f. record { first = chunk_no (f 0); stage = f 1; old = chunk_no (f 2); new = chunk_no (f 3); second = chunk_no (f 4); indexed = f 5 }; words = directory_words; back = λ x. refl; forth = λ f. refl; wide = λ x. refl }

directory-alike : (ws vs : List ℕ) → ((o : ℕ) → o < 6 → get_or ws o 0 ≡ get_or vs o 0) → directory_of ws ≡ directory_of vs
unfolding directory_layout
directory-alike ws vs h = alike directory_layout (λ o. get_or ws o 0) (λ o. get_or vs o 0) h

index-alike : (ws vs : List ℕ) → ((r : ℕ) → get_or ws (6 + r) 0 ≡ get_or vs (6 + r) 0) → (n : ℕ) → index_rows n ws ≡ index_rows n vs
index-alike ws vs h n = row-alike (index_of ws) (index_of vs) n (λ i l. row i)
  where
    row : (i : ℕ) → index_of ws i ≡ index_of vs i
    row i =
        let e : 6 + (i * 2 + 1) ≡ 6 + i * 2 + 1 = omega arith in
        rw (h (i * 2), rw e at (h (i * 2 + 1)))

pub directory-put : (ws : List ℕ) (x : Directory) → 6 ≤ length ws → DirectoryPut ws (sets ws 0 (directory_words x)) x
unfolding directory_layout
directory-put ws x fits = record { row = row; index = index-alike (sets ws 0 (directory_words x)) ws (λ r. rw zero-add at (behind 6 ws (directory_words x) 0 refl fits r)) }
  where
    row : directory_of (sets ws 0 (directory_words x)) ≡ x
    row = alike directory_layout _ _ (λ o h. rw zero-add at (stored 6 ws (directory_words x) 0 refl fits o h)) ∙ directory_layout.back x

pub index-put : (ws : List ℕ) (i : ℕ) (x : IndexRow) → 6 + i * 2 + 2 ≤ length ws → IndexPut ws (set (set ws (6 + i * 2) x.min) (6 + i * 2 + 1) x.chunk.0) i x
index-put ws i x fits = record { rows = λ n. row-set (index_of ws) (index_of after) n i x own others; row = directory-alike after ws (λ o h. other o (λ q. absurd (omega arith)) (λ q. absurd (omega arith))) }
  where
    first : List ℕ
    first = set ws (6 + i * 2) x.min

    after : List ℕ
    after = set first (6 + i * 2 + 1) x.chunk.0

    other : (j : ℕ) → j ≢ 6 + i * 2 → j ≢ 6 + i * 2 + 1 → get_or after j 0 ≡ get_or ws j 0
    other j h l = get_or-set_other first (6 + i * 2 + 1) j x.chunk.0 0 l ∙ get_or-set_other ws (6 + i * 2) j x.min 0 h

    own : index_of after i ≡ x
    own =
        let min : get_or after (6 + i * 2) 0 ≡ x.min = get_or-set_other first (6 + i * 2 + 1) (6 + i * 2) x.chunk.0 0 (λ q. absurd (omega arith)) ∙ get_or-set_same ws (6 + i * 2) x.min 0 (omega arith) in
        let chunk : get_or after (6 + i * 2 + 1) 0 ≡ x.chunk.0 = get_or-set_same first (6 + i * 2 + 1) x.chunk.0 0 (rw length-set (omega arith)) in
        rw (min, chunk)

    others : (k : ℕ) → k ≢ i → index_of after k ≡ index_of ws k
    others k h = rw (other (6 + k * 2) (λ q. h (omega arith)) (λ q. absurd (omega arith)), other (6 + k * 2 + 1) (λ q. absurd (omega arith)) (λ q. h (omega arith)))

-- words lent as asked are told apart by the directory's row and the index
pub directory-same : (n : ℕ) (ws vs : List ℕ) → length ws ≡ 6 + n * 2 → length vs ≡ 6 + n * 2 → directory_of ws ≡ directory_of vs → index_rows n ws ≡ index_rows n vs → ws ≡ vs
unfolding directory_layout
directory-same n ws vs a b e f = ext_get_or 0 ws vs (a ∙ sym b) (λ j h. word j h (dec_lt j 6))
  where
    indexed : (i : ℕ) → i < n → (j : ℕ) → (j ≡ 6 + i * 2) ⊎ (j ≡ 6 + i * 2 + 1) → get_or ws j 0 ≡ get_or vs j 0
    indexed i h j (inl q) = rw q (ap (λ (x : IndexRow). x.min) (row_same (index_of ws) (index_of vs) n i empty_row h f))
    indexed i h j (inr q) = rw q (ap (λ (x : IndexRow). x.chunk.0) (row_same (index_of ws) (index_of vs) n i empty_row h f))

    which : (i j : ℕ) → 6 + i * 2 ≤ j → j ≤ 6 + i * 2 + 1 → (j ≡ 6 + i * 2) ⊎ (j ≡ 6 + i * 2 + 1)
    which i j h l = go (dec_lt (6 + i * 2) j)
      where
        go : Dec (6 + i * 2 < j) → (j ≡ 6 + i * 2) ⊎ (j ≡ 6 + i * 2 + 1)
        go (yes p) = inr (omega arith)
        go (no p) = inl (omega arith)

    word : (j : ℕ) → j < length ws → Dec (j < 6) → get_or ws j 0 ≡ get_or vs j 0
    word j h (yes l) = apart directory_layout (λ o. get_or ws o 0) (λ o. get_or vs o 0) e j l
    word j h (no l) = indexed ((j - 6) / 2) (omega (arith, a)) j (which ((j - 6) / 2) j (omega arith) (omega arith))

-- `towards_suc` ends at 8
pub nine : (n : ℕ) → n + 9 ≡ suc (n + 8)
nine n = omega arith

pub ten : (n : ℕ) → n + 10 ≡ suc (suc (n + 8))
ten n = omega arith
