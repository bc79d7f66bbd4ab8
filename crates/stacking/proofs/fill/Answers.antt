use Prim.Native.Nat.{◌*◌, ◌-◌, ◌+◌}
use native.Mathlib.Omega.{arith}
use Rattle.rows.specs.Rows.{entry_rows}
use Rattle.walks.proofs.Laws.{within-spent, within-out, within-next}
use Rattle.stacking.proofs.Filling.{filling-done, filling-passes, filling-lays}
use Rattle.stacking.proofs.fill.Goals.{then-in_range, else-in_range}
use Rattle.stacking.proofs.fill.Goals as goal

pub returns-then-z-at : goal.returns-then-z-at
returns-then-z-at c = filling-done _ _ _ _ _ _ _ _ c.loop.invariant (within-out _ _ _ _ _ _ _ c.if-z-at.true)

pub loop-preserved : goal.loop-preserved
loop-preserved c =
    let f = c.loop.invariant in
    let a = c.args in
    let next = within-next a.z (entry_rows (a.z.chunks * a.z.entries) a.entries.now) a.c a.from a.to c.loop.at (a.z.entries - c.loop.counter) (a.z.entries - (c.loop.counter + 1)) (omega arith) c.if-z-at.false _ c.entry_in-x.ensures _ c.in_range.ensures in
    elim c.if-in_range.branch [
      | then-in_range w ↦ rw (w.tasks-is, w.i-is) (filling-lays _ _ _ _ _ _ _ _ _ _ _ f (rw w.if-in_range.true at next) _ (omega arith) c.requires.task w.put_stack_at.ensures w.put_stack_at.auto.tasks)
      | else-in_range w ↦ rw (w.tasks-is, w.i-is) (filling-passes _ _ _ _ _ _ _ _ _ f (rw w.if-in_range.false at next) _ (omega arith))
    ]

pub returns : goal.returns
returns c = filling-done _ _ _ _ _ _ _ _ c.loop.invariant (within-spent _ _ _ _ _ _ _ (omega arith))
