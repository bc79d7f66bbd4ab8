-- The shape holds of the tables of Unbroken.antt and fails of every one of Broken.antt; every call on one of these is refused by 10 and changes nothing.
use mathlib.Core.Path.{◌≡◌, refl}
use mathlib.Core.Logic.{⊎_elim}
use mathlib.Core.Bool.{Bool, true, false}
use mathlib.Core.List.Memᴰ
use mathlib.Core.List.{List, [], ◌∷◌, map, Memᴰ}
use Rattle.rules.specs.declared.Report.TheVariants as report
use Rattle.rules.specs.Words.{pick, ◌and◌, limits}
use Rattle.rules.specs.Tables.{Tables}
use Rattle.rules.specs.Walks.{locate_from, before_from, chain_from, list_from, find_from, place_from, present_from, within_from, depth, over, named_in, held_in, free_from}
use Rattle.rules.specs.Stages.{stage_does}
use Rattle.rules.specs.Rebalance.{gives, unused_count, unused_from, published_on, held_chunk, naming_from, fill, clears, rebalance_does}
use Rattle.rules.specs.Shape.{each, live_count, ascends_from, chain_count, linked_from, rises_from, rows_ascend, chained, task_right, stack_right, rebalance_fits, index_right, shape}
use Rattle.rules.specs.Calls.{Call, does, calls}
use Rattle.rules.specs.Unbroken.{after, steps, stores, stored, inserting, removing, mixed, scanning, rebalancing, live_chunks, sound_tables}
use Rattle.rules.specs.Broken.{broken_tables}
use Rattle.rules.proofs.Tests.{pick_same}

-- ---- the chain, the tasks, the rebalancer and the index are soon computed, so they are looked at first, and then the whole shape
abbrev last : Tables → Bool
last s =
    let tasks = each (task_right limits s) 0 s.tasks in
    let stacks = each (stack_right limits s) 0 s.tasks in
    let rebalance = rebalance_fits limits s in
    let index = index_right limits s in
    chained limits s and tasks and stacks and rebalance and index

abbrev last_then_all : Tables → Bool
last_then_all s = let all = shape limits s in pick (last s) all false

last-false : (s : Tables) → last s ≡ false → shape limits s ≡ false
unfolding shape
last-false s h = rw h (simp pick_same)

then-false : (s : Tables) → last_then_all s ≡ false → shape limits s ≡ false
then-false s h = go (last s) (last-false s) h
  where
    go : (t : Bool) → (t ≡ false → shape limits s ≡ false) → pick t (shape limits s) false ≡ false → shape limits s ≡ false
    go true f e = e
    go false f e = f refl

-- to unfold this is to unfold every rule that computes
unfoldable pub every_rule : Bool
unfolding does shape each live_count ascends_from chain_count linked_from rises_from rows_ascend stage_does rebalance_does locate_from before_from chain_from list_from find_from place_from present_from within_from depth over named_in held_in free_from unused_count unused_from published_on held_chunk naming_from fill clears
every_rule = true

-- ---- by computing: the broken ones first, so that a shape without one of its clauses fails there
pub judged : (map last_then_all broken_tables ≡ map (λ s. false) broken_tables) × (map (shape limits) sound_tables ≡ map (λ s. true) sound_tables)
unfolding broken_tables sound_tables after steps stores stored inserting removing mixed scanning rebalancing live_chunks every_rule
judged = (refl, refl)

-- ---- for each table of the list
member-false : (p : Tables → Bool) (l : List Tables) → map p l ≡ map (λ s. false) l → (s : Tables) → Memᴰ s l → p s ≡ false
member-false p [] e s m = absurd (Memᴰ.not-nil m)
member-false p (x ∷ l) e s m =
    let first : p x ≡ false = cc e in
    let others : map p l ≡ map (λ y. false) l = cc e in
    ⊎_elim (λ q. rw q first) (member-false p l others s) (Memᴰ.cases_cons m)

-- the shape holds of every sound table
pub sound : map (shape limits) sound_tables ≡ map (λ s. true) sound_tables
sound = judged.1

-- and is false of every broken one
pub broken : (s : Tables) → Memᴰ s broken_tables → shape limits s ≡ false
broken s m = then-false s (member-false last_then_all broken_tables judged.0 s m)

-- "10 tables fail the shape": whatever the call and its numbers
pub broken-refused : (s : Tables) → Memᴰ s broken_tables → (c : Call) → calls limits s c ≡ gives s (report.Refused 10)
unfolding calls
broken-refused s m c = rw (broken s m)
