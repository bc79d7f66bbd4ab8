-- What the rules make of a task's stack, told by its depth and the task's row afterwards.
use Prim.Native.Nat.{ℕ, ◌-◌, ◌≤◌, ◌<◌}
use mathlib.Core.Path.{◌≡◌, refl, sym, ap, ◌∙◌}
use mathlib.Core.Bool.{Bool, true, false}
use mathlib.Core.List.{List, []}
use native.Mathlib.Omega.{arith}
use lib.ListN.{set}
use lib.Seq.{set-get_or}
use borrow.Author.Tests.{lt-ltb, le-ltb, eq-eqb, ne_eqb}
use Rattle.rules.specs.declared.Sizes.{Sizes}
use Rattle.rules.specs.declared.Task.{Task}
use Rattle.rules.specs.declared.Chunk.{Chunk}
use Rattle.rules.specs.declared.EntryNo.{EntryNo}
use Rattle.rules.specs.declared.Report.TheVariants as report
use Rattle.rules.specs.declared.Write.TheVariants as write
use Rattle.rules.specs.Words.{pick, NONE, no_entry}
use Rattle.rules.specs.Tables.{Tables, stack, put_stack, chunk}
use Rattle.rules.specs.Walks.{depth, top, over, within, within_from}
use Rattle.rules.specs.Stages.{decide, stage_does, is_lowest, up_to, finishes, fills, stack_then}
use Rattle.rows.specs.Rows.{stack_rows, tables}
use Rattle.walks.proofs.Laws.{top-on, top-off}
use Rattle.stacking.specs.Stacked.{Stacked}

-- ---- the stack
module _ (z : Sizes) (s : Tables) (t u : Task) (n : ℕ) where
  pub then-other : (t.stage ≡ 23 → ⊥) → stack_then z s t n ≡ stack s n
  then-other ne = rw (ne_eqb _ _ ne)

  module _ (e : t.stage ≡ 23) (d : ℕ) (q : d ≡ depth z (stack s n)) where
    pub then-off : 0 < d → stack_then z s t n ≡ set (stack s n) (d - 1) no_entry
    then-off h = rw (eq-eqb _ _ e, lt-ltb _ _ (top-on z (stack s n) (rw q at h)), q)

    module _ (fits : z.entries ≤ NONE) (h : d ≤ 0) (r : u ≡ (decide z s n t).task) where
      none-on : z.entries ≤ (top z (stack s n)).0
      none-on = top-off z (stack s n) fits (sym q ∙ le-zero d h)
        where
          le-zero : (d : ℕ) → d ≤ 0 → d ≡ 0
          le-zero d h = omega arith

      -- the row afterwards is idle, or holds the chunk to fill from
      decided : u ≡ (pick (is_lowest z s t) (finishes write.Nothing report.Done) (fills z s t)).task
      unfolding stage_does
      decided = r ∙ rw (e, le-ltb _ _ none-on)

      -- where the row says so, the stack is filled from its chunk
      pub then-filled : u.stage ≡ 23 → (x : Chunk) → x ≡ chunk s u.chunk → (to : ℕ) → to ≡ up_to z s t → stack_then z s t n ≡ over (within_from z s.entries u.chunk t.key to z.entries x.head) (stack s n)
      then-filled p x c to b = rw (c, b) (go (is_lowest z s t) refl decided)
        where
          go : (b : Bool) → is_lowest z s t ≡ b → u ≡ (pick b (finishes write.Nothing report.Done) (fills z s t)).task → stack_then z s t n ≡ over (within z s u.chunk t.key (up_to z s t)) (stack s n)
          go true l k = absurd (omega (arith, ap (λ (x : Task). x.stage) k))
          go false l k = rw (eq-eqb _ _ e, le-ltb _ _ none-on, l, k)

      pub then-stays : (u.stage ≡ 23 → ⊥) → stack_then z s t n ≡ stack s n
      then-stays p = go (is_lowest z s t) refl decided
        where
          go : (b : Bool) → is_lowest z s t ≡ b → u ≡ (pick b (finishes write.Nothing report.Done) (fills z s t)).task → stack_then z s t n ≡ stack s n
          go true l k = rw (eq-eqb _ _ e, le-ltb _ _ none-on, l)
          go false l k = absurd (p (ap (λ (x : Task). x.stage) k))

-- the tables with that stack, from the words
module _ (z : Sizes) (d ts cs es vs ms : List ℕ) (n : ℕ) where
  abbrev s : Tables
  s = tables z d ts cs es vs ms

  pub restacked : (ts' : List ℕ) (w v : List EntryNo) → Stacked z ts ts' n w → v ≡ w → tables z d ts' cs es vs ms ≡ put_stack s n v
  restacked ts' w v k e = rw (k.stacks, k.rows, e)

  pub unstacked : (v : List EntryNo) → v ≡ stack s n → s ≡ put_stack s n v
  unstacked v e = rw (e, set-get_or (stack_rows z ts) n [])
