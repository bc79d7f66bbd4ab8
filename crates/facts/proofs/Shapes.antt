-- Tables of which the facts hold, and in which a remove past its mark holds a deleted handle, have document 01's shape.
use Prim.Native.Nat.{ℕ, zero, suc, ◌+◌, ◌*◌, ◌≤◌, ◌<◌}
use mathlib.Core.Path.{◌≡◌, refl, sym, ap, ◌∙◌}
use mathlib.Core.Logic.{◌⊎◌, ⊎_elim, ⊎_map, ◌≢◌}
use mathlib.Core.Bool.{Bool, true, false, false≢true}
use mathlib.Core.List.{List, [], ◌∷◌, Memᴰ, map}
use native.Mathlib.Nat.{zero-add, le_trans, not-suc-le-zero, le_of_suc-le-suc}
use native.Mathlib.Omega.{arith}
use lib.Dec.{eqb, ltb, leb}
use lib.ListN.{length, get_or, drop, replicate, length-take, length-replicate}
use lib.Seq.{get_or-take, get_or-drop}
use borrow.Author.Tests.{lt-ltb, le-leb, eq-eqb, ne_eqb, ltb-true, ltb-false, leb-true, eqb-true, eqb-false}
use Rattle.rules.specs.declared.Sizes.{Sizes}
use Rattle.rules.specs.declared.Directory.{Directory}
use Rattle.rules.specs.declared.Task.{Task}
use Rattle.rules.specs.declared.ChunkNo.{ChunkNo}
use Rattle.rules.specs.declared.EntryNo.{EntryNo}
use Rattle.rules.specs.Words.{pick, ◌and◌, ◌or◌, NONE, chunk_no, entry_no, no_entry, unused, live, new, retired, uses_function, idle, to_drain, to_copy, to_swap, to_index, to_release}
use Rattle.rules.specs.Tables.{Tables, idle_task, empty_chunk, empty_entry, empty_stack, empty_row, empty_index, chunk, entry_at, entry, mark, task, stack}
use Rattle.rules.specs.Walks.{over, row_of}
use Rattle.rules.specs.Map.{Ascends}
use Rattle.rules.specs.Rebalance.{unused_count}
use Rattle.rules.specs.Shape.{each, slots_of, is_none, is_empty_chunk, fits_operation, Hold, hold, stage_list, live_count, mark_as, shape, sized, chunk_right, slot_right, chunk_numbers, chained, task_right, rises_from, stack_right, holds_right, holds_entry, chunk_fits, rebalance_fits, ascends_from, before_copy, after_copy, names_chunk, rows_ascend, index_right}
use Rattle.rules.proofs.Tests.{from-picked}
use Rattle.rules.proofs.Fresh.{empty-rows}
use Rattle.laws.specs.Counts.{Every, all}
use Rattle.laws.proofs.Tests.{picked, by-test, both, and_right, or_cases, or_left, or_right}
use Rattle.laws.proofs.Lists.{each-by, all-at}
use Rattle.views.specs.Views.{Links, Chained}
use Rattle.views.proofs.Entries.{links-below, links-length, links-ascends, links-linked}
use Rattle.views.proofs.Stacks.{all_none, over-length}
use Rattle.views.proofs.Chunks.{chain-count, chain-live}
use Rattle.views.proofs.Chained.{chain-short}
use Rattle.facts.proofs.Numbers.{number-cases, held-always, head-right}
use Rattle.statements.specs.Sound.{Limited}
use Rattle.facts.specs.Facts.{RowRight, SlotRight, listed, Roles, Rebalancing, Tabled, Holds, hold_at, EntryHeld, Stacked, MarksHeld, Indexed, Kept}

-- an entry is held always or never
always-or-never : all (λ h. leb h.entry 1) stage_list ≡ true
unfolding all
always-or-never = refl

empty-by : (l : List EntryNo) → (l ≢ [] → ⊥) → l ≡ []
empty-by [] h = refl
empty-by (x ∷ l) h = absurd (h (λ e. omega (arith, ap length e)))

module _ (z : Sizes) (lim : Limited z) (s : Tables) (kept : Kept z s) (deleted : MarksHeld z s) (indexed : Indexed z s) where
  tables : Tabled z s.directory s.chunks s.entries
  tables = kept.tables

  sized-right : sized z s ≡ true
  sized-right = rw (ap length indexed.rows, over-length (map (row_of s.chunks) indexed.chunks) (empty_index z), length-replicate z.chunks empty_row, kept.stacks-sized, kept.tasks-sized, tables.chunks-sized, tables.entries-sized, kept.values-sized, kept.marks-sized, eq-eqb z.tasks z.tasks refl, eq-eqb z.chunks z.chunks refl, eq-eqb (z.chunks * z.entries) (z.chunks * z.entries) refl, eq-eqb z.handles z.handles refl)
      (both _ _ (each-by (λ n (w : List EntryNo). eqb (length w) z.entries) 0 s.stacks [] (λ n b. let k = kept.stacks n (rw kept.stacks-sized at b) in eq-eqb _ _ (ap length k.words ∙ over-length k.on (empty_stack z) ∙ length-replicate z.entries no_entry))) refl)

  marks-right : each (λ n m. leb m 1) 0 s.marks ≡ true
  marks-right = each-by (λ n m. leb m 1) 0 s.marks 0 (λ i b. le-leb _ _ (kept.marks i))

  slot-right : (c : ChunkNo) → c.0 < z.chunks → (e : ℕ) → e < z.entries → slot_right z s (chunk s c).used e (entry z s c (entry_no e)) ≡ true
  slot-right c b e d =
      picked (λ (r : Bool). r ≡ true) (ltb e (chunk s c).used)
      (λ t. both _ _ (slot.handle (ltb-true _ _ t)) (slot.next (ltb-true _ _ t)))
      (λ t. rw (slot.empty (ltb-false _ _ t)))
    where
      slot : SlotRight z (chunk s c).used e (entry z s c (entry_no e))
      slot = (tables.lists c b).slot (entry_no e) d

  slots-right : (c : ChunkNo) → c.0 < z.chunks → each (slot_right z s (chunk s c).used) 0 (slots_of z s.entries c) ≡ true
  slots-right c b = each-by (slot_right z s (chunk s c).used) 0 (slots_of z s.entries c) empty_entry at
    where
      many : length (slots_of z s.entries c) ≤ z.entries
      many = rw length-take (omega arith)

      at : (i : ℕ) → i < length (slots_of z s.entries c) → slot_right z s (chunk s c).used (0 + i) (get_or (slots_of z s.entries c) i empty_entry) ≡ true
      at i d = rw (zero-add i, get_or-take z.entries (drop (c.0 * z.entries) s.entries) i empty_entry (le_trans d many), get_or-drop (c.0 * z.entries) s.entries i empty_entry) (slot-right c b i (le_trans d many))

  list_right : (c : ChunkNo) → c.0 < z.chunks → ascends_from z s.entries c (chunk s c).used z.entries (chunk s c).head 0 ≡ true
  list_right c b = links-ascends z s.entries c (chunk s c).used small lim.entries z.entries 0 (chunk s c).head (listed z s.chunks s.entries c) (le_trans (links-length z s.entries c (chunk s c).used 0 _ _ links) small) links
    where
      links : Links z s.entries c (chunk s c).used 0 (chunk s c).head (listed z s.chunks s.entries c)
      links = (tables.lists c b).links

      small : (chunk s c).used ≤ z.entries
      small = (tables.lists c b).row.used

  row-right : (c : ChunkNo) → c.0 < z.chunks → pick (eqb (chunk s c).status unused) (is_empty_chunk (chunk s c)) (chunk_numbers z s (chunk s c)) ≡ true
  row-right c b =
      picked (λ (r : Bool). r ≡ true) (eqb (chunk s c).status unused)
      (λ t. rw (row.empty (eqb-true _ _ t)))
      (λ t. rw (le-leb (chunk s c).status retired row.status, le-leb (chunk s c).frozen 1 row.frozen, row.next, head-right z s.entries c (chunk s c).used row.used 0 (chunk s c).head (listed z s.chunks s.entries c) (tables.lists c b).links, le-leb (chunk s c).used z.entries row.used))
    where
      row : RowRight z (chunk s c)
      row = (tables.lists c b).row

  chunks-right : each (chunk_right z s) 0 s.chunks ≡ true
  chunks-right = each-by (chunk_right z s) 0 s.chunks empty_chunk at
    where
      at : (i : ℕ) → i < length s.chunks → chunk_right z s (0 + i) (get_or s.chunks i empty_chunk) ≡ true
      at i b = rw zero-add (both _ _ (row-right (chunk_no i) inside) (both _ _ (slots-right (chunk_no i) inside) (list_right (chunk_no i) inside)))
        where
          inside : i < z.chunks
          inside = rw tables.chunks-sized at b

  chain-right : chained z s ≡ true
  chain-right = rw (c.from, chain-count z s.chunks lim.chunks z.chunks 0 0 s.directory.first s.directory.first c.rest short c.chain, zero-add, c.counted, eq-eqb (live_count s.chunks) (live_count s.chunks) refl)
    where
      c : Chained z s.directory.first s.chunks
      c = tables.chained

      short : length (s.directory.first ∷ c.rest) ≤ z.chunks
      short = chain-short z s.chunks s.directory.first tables.chunks-sized c

  roles-right : (i : ℕ) → i < z.chunks → chunk_fits z s s.directory i (chunk s (chunk_no i)) ≡ true
  roles-right i b =
      by-test (eqb s.directory.old.0 i)
      (λ t. rw (t, (roles.old (eqb-true _ _ t)).0, (roles.old (eqb-true _ _ t)).1) (eq-eqb (pick (leb to_index s.directory.stage) retired live) (pick (leb to_index s.directory.stage) retired live) refl))
      (λ t. rw t (by-test (eqb s.directory.new.0 i or eqb s.directory.second.0 i) (is-new (eqb-false _ _ t)) (is-other (eqb-false _ _ t))))
    where
      roles : Roles s.directory i (chunk s (chunk_no i))
      roles = tables.rebalancing.roles (chunk_no i) b

      Fits : Type 0
      Fits = (eqb (chunk s (chunk_no i)).frozen 0 and pick (eqb s.directory.new.0 i or eqb s.directory.second.0 i) (eqb (chunk s (chunk_no i)).status (pick (leb to_index s.directory.stage) live new)) (eqb (chunk s (chunk_no i)).status unused or eqb (chunk s (chunk_no i)).status live)) ≡ true

      is-new : s.directory.old.0 ≢ i → (eqb s.directory.new.0 i or eqb s.directory.second.0 i) ≡ true → Fits
      is-new ne t = rw (t, role.0, role.1) (eq-eqb (pick (leb to_index s.directory.stage) live new) (pick (leb to_index s.directory.stage) live new) refl)
        where
          role : ((chunk s (chunk_no i)).frozen ≡ 0) × ((chunk s (chunk_no i)).status ≡ pick (leb to_index s.directory.stage) live new)
          role = roles.new ne (⊎_map (eqb-true s.directory.new.0 i) (eqb-true s.directory.second.0 i) (or_cases (eqb s.directory.new.0 i) (eqb s.directory.second.0 i) t))

      is-other : s.directory.old.0 ≢ i → (eqb s.directory.new.0 i or eqb s.directory.second.0 i) ≡ false → Fits
      is-other ne t = rw (t, role.0) (⊎_elim (λ q. rw q) (λ q. rw q) role.1)
        where
          role : ((chunk s (chunk_no i)).frozen ≡ 0) × (((chunk s (chunk_no i)).status ≡ unused) ⊎ ((chunk s (chunk_no i)).status ≡ live))
          role = roles.other ne (eqb-false s.directory.new.0 i (or_left (eqb s.directory.new.0 i) (eqb s.directory.second.0 i) t)) (eqb-false s.directory.second.0 i (or_right (eqb s.directory.new.0 i) (eqb s.directory.second.0 i) t))

  rebalance-right : rebalance_fits z s ≡ true
  rebalance-right = both _ _ stages (each-by (chunk_fits z s s.directory) 0 s.chunks empty_chunk (λ i b. rw zero-add (roles-right i (rw tables.chunks-sized at b))))
    where
      d : Directory
      d = s.directory

      r : Rebalancing z d s.chunks
      r = tables.rebalancing

      Stages : ℕ → Type 0
      Stages n = pick (eqb n idle) (is_none d.old.0 and is_none d.new.0 and is_none d.second.0)
          (pick (eqb n to_drain or eqb n to_copy) (before_copy z s)
          (pick (leb to_swap n and leb n to_release) (after_copy z s) false)) ≡ true

      before : 1 ≤ d.stage → d.stage ≤ 2 → before_copy z s ≡ true
      before a b = rw ((r.unmade b).0, (r.unmade b).1, lt-ltb d.old.0 z.chunks (r.old a), le-leb 2 (unused_count s.chunks) (r.room a b))

      after : 3 ≤ d.stage → after_copy z s ≡ true
      after a = rw (lt-ltb d.old.0 z.chunks (r.old (omega arith)), lt-ltb d.new.0 z.chunks (r.new a), r.second a, ne_eqb d.new.0 d.second.0 (r.apart a), ne_eqb d.old.0 d.new.0 (r.old-new a), ne_eqb d.old.0 d.second.0 (r.old-second a))

      at : (n : ℕ) → d.stage ≡ n → n ≤ 5 → Stages n
      at zero e b = rw (r.none e, (r.unmade (omega arith)).0, (r.unmade (omega arith)).1)
      at (suc zero) e b = before (omega arith) (omega arith)
      at (suc (suc zero)) e b = before (omega arith) (omega arith)
      at (suc (suc (suc zero))) e b = after (omega arith)
      at (suc (suc (suc (suc zero)))) e b = after (omega arith)
      at (suc (suc (suc (suc (suc zero))))) e b = after (omega arith)
      at (suc (suc (suc (suc (suc (suc n)))))) e b = absurd (over n b)
        where
          over : (n : ℕ) → suc (suc (suc (suc (suc (suc n))))) ≤ 5 → ⊥
          over n b = omega arith

      stages : Stages d.stage
      stages = at d.stage refl r.known

  holds-entry : (n : ℕ) → EntryHeld z s.chunks s.entries (task s n).chunk (task s n).entry (task s n).key (task s n).stage → holds_entry z s (task s n) ≡ true
  holds-entry n held = both _ _ (lt-ltb _ _ held.used) (both _ _ (eq-eqb _ _ held.keyed) (picked (λ (b : Bool). b ≡ true) (eqb t.stage 7) (λ _. refl) (λ ne. links-linked z s.entries t.chunk (chunk s t.chunk).used small lim.entries z.entries 0 (chunk s t.chunk).head t.entry (listed z s.chunks s.entries t.chunk) (le_trans (links-length z s.entries t.chunk (chunk s t.chunk).used 0 _ _ links) small) links (held.linked (eqb-false _ _ ne)))))
    where
      t : Task
      t = task s n

      links : Links z s.entries t.chunk (chunk s t.chunk).used 0 (chunk s t.chunk).head (listed z s.chunks s.entries t.chunk)
      links = (tables.lists t.chunk held.inside).links

      small : (chunk s t.chunk).used ≤ z.entries
      small = (tables.lists t.chunk held.inside).row.used

  task-right : (n : ℕ) → task_right z s n (task s n) ≡ true
  task-right n =
      picked (λ (b : Bool). b ≡ true) (eqb t.stage 0)
      (λ e. rw ((kept.tasks n).idle (eqb-true _ _ e)))
      (λ e. busy ((kept.tasks n).holds (eqb-false _ _ e)))
    where
      t : Task
      t = task s n

      h : Hold
      h = hold_at t.stage

      row : leb h.entry 1 ≡ true
      row = all-at (λ h. leb h.entry 1) stage_list t.stage (hold 0 0 0 0 0 0) always-or-never refl

      not-two : eqb h.entry 2 ≡ false
      not-two = ne_eqb h.entry 2 (λ e. omega (arith, leb-true h.entry 1 row))

      -- a held chunk's number is of the table, whether it is held always or perhaps
      at-chunk : Holds z t h → is_none t.chunk.0 ≡ false → t.chunk.0 < z.chunks
      at-chunk w some =
          from-picked (eqb h.chunk 0) _ _ (λ _ i. absurd (false≢true (sym some ∙ i))) (λ _.
          from-picked (eqb h.chunk 2) _ _ (λ _ i. ⊎_elim (λ b. b) (λ e. absurd (false≢true (sym some ∙ eq-eqb _ _ e))) (number-cases z.chunks t.chunk.0 i)) (λ _. ltb-true _ _)) w.chunk

      lives : t.chunk.0 < z.chunks → 0 < (chunk s t.chunk).status
      lives b = ⊎_elim (λ q. rw q (omega arith)) (λ q. rw q.0 (omega arith)) ((kept.tasks n).chunk-of-key b)

      in_use : Holds z t h → pick (is_none t.chunk.0) true (ltb 0 (chunk s t.chunk).status) ≡ true
      in_use w = picked (λ (b : Bool). b ≡ true) (is_none t.chunk.0) (λ _. refl) (λ e. lt-ltb 0 (chunk s t.chunk).status (lives (at-chunk w e)))

      there : Holds z t h → pick (eqb h.entry 0) true (holds_entry z s t) ≡ true
      there w = picked (λ (b : Bool). b ≡ true) (eqb h.entry 0) (λ _. refl) (λ e. holds-entry n (held e))
        where
          held : eqb h.entry 0 ≡ false → EntryHeld z s.chunks s.entries t.chunk t.entry t.key t.stage
          held e = (kept.tasks n).entry (held-always h.entry z.entries t.entry.0 e not-two w.entry)

      marked : Holds z t h → mark_as h.old (mark s t.old) ≡ true
      marked w = picked (λ (b : Bool). b ≡ true) (eqb h.old 3) (λ e. let three = eqb-true h.old 3 e in eq-eqb _ _ (deleted n e (held-always h.old z.handles t.old.0 (rw three) (rw three) w.old))) (λ _. refl)

      busy : Holds z t h → (fits_operation t.operation t.stage and pick (uses_function t.operation) (leb 1 t.function and leb t.function 3) true and holds_right z s t h) ≡ true
      busy w = both _ _ w.fits (both _ _ w.function (both _ _ w.chunk (both _ _ w.entry (both _ _ w.old (both _ _ w.new (both _ _ w.published (both _ _ w.swapped (both _ _ (marked w) (both _ _ (in_use w) (there w))))))))))

  -- a stack's words, by the entries on it
  stack-rises : (c : ChunkNo) → c.0 < z.chunks → (l : List EntryNo) (m k : ℕ) → Every (λ e. Memᴰ e (listed z s.chunks s.entries c)) l → Ascends (λ e. (entry_at z s.entries c e).key) k l →
      rises_from z s.entries c (chunk s c).head k (over l (replicate m no_entry)) ≡ true
  unfolding over rises_from Ascends each
  stack-rises c b [] zero k links rises = refl
  stack-rises c b [] (suc m) k links rises = each-by (λ n (e : EntryNo). is_none e.0) 0 (replicate m no_entry) no_entry (λ i _. rw (all_none m i))
  stack-rises c b (e ∷ l) zero k links rises = refl
  stack-rises c b (e ∷ l) (suc m) k links rises =
      rw (ne_eqb e.0 NONE (λ q. absurd (omega (arith, q, small, lim.entries))))
      (both _ _ (both _ _ (links-linked z s.entries c (chunk s c).used (tables.lists c b).row.used lim.entries z.entries 0 (chunk s c).head e (listed z s.chunks s.entries c) short links₀ (links e (Memᴰ.head refl))) (le-leb _ _ rises.0))
      (stack-rises c b l m _ (λ x n. links x (Memᴰ.tail n)) rises.1))
    where
      links₀ : Links z s.entries c (chunk s c).used 0 (chunk s c).head (listed z s.chunks s.entries c)
      links₀ = (tables.lists c b).links

      short : length (listed z s.chunks s.entries c) ≤ z.entries
      short = le_trans (links-length z s.entries c (chunk s c).used 0 (chunk s c).head (listed z s.chunks s.entries c) links₀) (tables.lists c b).row.used

      small : e.0 < z.entries
      small = le_trans (links-below z s.entries c (chunk s c).used 0 (chunk s c).head (listed z s.chunks s.entries c) links₀ e (links e (Memᴰ.head refl))) (tables.lists c b).row.used

  stack-right : (n : ℕ) → n < z.tasks → stack_right z s n (task s n) ≡ true
  unfolding over
  stack-right n b = rw k.words (picked (λ (b : Bool). b ≡ true) (eqb (task s n).stage 23 and ltb (task s n).chunk.0 z.chunks) (λ e. stack-rises (task s n).chunk (ltb-true _ _ (and_right (eqb (task s n).stage 23) _ e)) k.on z.entries 0 k.linked k.rises) (λ e. rw (nothing e) (each-by (λ n (e : EntryNo). is_none e.0) 0 (empty_stack z) no_entry (λ i _. rw (all_none z.entries i)))))
    where
      k : Stacked z s.chunks s.entries (task s n) (stack s n)
      k = kept.stacks n b

      nothing : (eqb (task s n).stage 23 and ltb (task s n).chunk.0 z.chunks) ≡ false → k.on ≡ []
      nothing e = empty-by k.on (λ ne. absurd (false≢true (sym e ∙ both _ _ (eq-eqb _ _ (k.held ne).0) (lt-ltb _ _ (k.held ne).1))))

  -- the rows of the index, by the chunks that they name
  rows_right : (l : List ChunkNo) (n k : ℕ) → length l ≤ n → Every (λ c. (c.0 < z.chunks) × (((chunk s c).status ≡ live) ⊎ ((chunk s c).status ≡ retired))) l → Ascends (λ c. (chunk s c).min) k l →
      rows_ascend z s.chunks (length l) k (over (map (row_of s.chunks) l) (replicate n empty_row)) ≡ true
  unfolding rows_ascend over Ascends
  rows_right [] n k b named rises = empty-rows z s.chunks k n
  rows_right (c ∷ l) zero k b named rises = absurd (not-suc-le-zero b)
  rows_right (c ∷ l) (suc n) k b named rises =
      let here = named c (Memᴰ.head refl) in
      both _ _ (le-leb _ _ rises.0)
      (both (names_chunk z s.chunks (row_of s.chunks c)) _ (both _ _ (lt-ltb _ _ here.0) (both (eqb (chunk s c).status live or eqb (chunk s c).status retired) _ (⊎_elim (λ q. rw q) (λ q. rw q) here.1) (eq-eqb (chunk s c).min (chunk s c).min refl)))
      (rows_right l n _ (le_of_suc-le-suc b) (λ x m. named x (Memᴰ.tail m)) rises.1))

  index-right : index_right z s ≡ true
  index-right = rw (indexed.rows, indexed.count) (rows_right indexed.chunks z.chunks 0 indexed.short indexed.named indexed.ascends)

  pub has-shape : shape z s ≡ true
  unfolding shape
  has-shape = both _ _ sized-right (both _ _ marks-right (both _ _ (lt-ltb _ _ first) (both _ _ chunks-right (both _ _ chain-right (both _ _ (each-by (task_right z s) 0 s.tasks idle_task (λ i b. task-right i)) (both _ _ (each-by (stack_right z s) 0 s.tasks idle_task (λ i b. rw (zero-add i) (stack-right i (rw kept.tasks-sized at b)))) (both _ _ rebalance-right index-right)))))))
    where
      first : s.directory.first.0 < z.chunks
      first = (chain-live z s.chunks 0 _ _ tables.chained.chain s.directory.first (Memᴰ.head refl)).0
