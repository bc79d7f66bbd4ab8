use Prim.Native.Nat.{ℕ, suc-le-suc}
use mathlib.Core.Path.{refl, ap}
use mathlib.Core.List.{List}
use borrow.Author.Tests.{lt-leb, eq-eqb}
use Rattle.rules.specs.Tables.{Tables}
use Rattle.rules.specs.Rebalance.{Outcome}
use Rattle.rules.proofs.Shaped.{stage-known}
use Rattle.rows.specs.Rows.{tables}
use Rattle.rows.proofs.Laws.{length-rows}
use Rattle.locating.proofs.Laws.{shape-charted}
use Rattle.taking.proofs.Shape.{shape-slotted}
use Rattle.stepping.proofs.Held.{task-held}
use Rattle.stepping.proofs.Stepped.{task-read, down-decided, stepped}
use Rattle.stepping.proofs.step.Goals as goal

pub returns-then-t-eq0 : goal.returns-then-t-eq0
returns-then-t-eq0 c =
    let a = c.args in
    let own = task-read a.z a.directory.now a.tasks.now a.chunks.now a.entries.now a.values.now a.marks.now a.n c.if-z-i.false _ c.task_row-t.ensures in
    rw (lt-leb _ _ c.if-z-i.false, ← own, eq-eqb _ _ c.if-t-eq0.true)

pub lend-x-requires : goal.lend-x-requires
lend-x-requires c =
    let a = c.args in
    let s = tables a.z a.directory.now a.tasks.now a.chunks.now a.entries.now a.values.now a.marks.now in
    let own = task-read a.z a.directory.now a.tasks.now a.chunks.now a.entries.now a.values.now a.marks.now a.n c.if-z-i.false _ c.task_row-t.ensures in
    let pre = c.requires in (
      pre.0,
      rw own (task-held a.z s pre.1 (length-rows _ _ _) a.n c.if-z-i.false),
      rw own (suc-le-suc (stage-known a.z s pre.1 a.n)),
      shape-charted a.z a.directory.now a.tasks.now a.chunks.now a.entries.now a.values.now a.marks.now pre.0 pre.1,
      c.if-z-i.false,
      shape-slotted a.z a.directory.now a.tasks.now a.chunks.now a.entries.now a.values.now a.marks.now pre.0 pre.1 pre.2,
    )

pub returns : goal.returns
returns c =
    let a = c.args in
    let s = tables a.z a.directory.now a.tasks.now a.chunks.now a.entries.now a.values.now a.marks.now in
    let own = task-read a.z a.directory.now a.tasks.now a.chunks.now a.entries.now a.values.now a.marks.now a.n c.if-z-i.false _ c.task_row-t.ensures in
    let moved = c.lend-x in
    let with : List ℕ → Tables = λ ts. tables a.z a.directory.now ts moved.new.chunks moved.new.entries moved.new.values moved.new.marks in
    let w = ap (λ (o : Outcome). o.tables) moved.ensures.1 in
    let r = c.restack.ensures a.directory.now moved.new.values moved.new.marks (down-decided a.z s a.n c.task_row-t.result (with a.tasks.now) w refl moved.result.task moved.ensures.0) in
    let put = c.put_task_row in
    stepped a.z s a.n c.task_row-t.result (with a.tasks.now) w refl own c.if-z-i.false c.if-t-eq0.false moved.result moved.ensures.0 (ap (λ (o : Outcome). o.report) moved.ensures.1) (with put.new.words)
    (rw (put.ensures.rows a.z.tasks, put.ensures.stacks a.z c.if-z-i.false, ap (λ (s : Tables). s.tasks) r, ap (λ (s : Tables). s.stacks) r))
