use Rattle.std.proofs.Common.{rules}
use mathlib.Core.Path.{sym, ap, ◌∙◌}
use Rattle.rules.specs.Tables.{idle_task}
use Rattle.rows.specs.Rows.{task_of, tables}
use Rattle.rows.proofs.Laws.{row_read}
use Rattle.starting.proofs.Starts.{placed, starts-at_work, starts-idle}
use Rattle.starting.proofs.start.Goals as goal

pub returns-then-t-ne0 : goal.returns-then-t-ne0
returns-then-t-ne0 c = λ d cs es vs ms.
    let a = c.args in
    sym (starts-at_work a.z (tables a.z d a.tasks.now cs es vs ms) a.n a.op a.k a.a a.f _ c.if-z-i.false (c.task_row-t.ensures ∙ sym (row_read (task_of a.tasks.now) _ _ idle_task c.if-z-i.false)) c.if-t-ne0.true)

pub returns-in_err-row : goal.returns-in_err-row
returns-in_err-row c = λ d cs es vs ms.
    let a = c.args in
    let s = tables a.z d a.tasks.now cs es vs ms in
    let e = starts-idle a.z s a.n a.op a.k a.a a.f _ c.if-z-i.false (c.task_row-t.ensures ∙ sym (row_read (task_of a.tasks.now) _ _ idle_task c.if-z-i.false)) c.if-t-ne0.false _ (c.asked.ensures a.z s) in
    rw (e, c.in_err-row.was) (search rules)

pub returns : goal.returns
returns c = λ d cs es vs ms.
    let a = c.args in
    let s = tables a.z d a.tasks.now cs es vs ms in
    let e = starts-idle a.z s a.n a.op a.k a.a a.f _ c.if-z-i.false (c.task_row-t.ensures ∙ sym (row_read (task_of a.tasks.now) _ _ idle_task c.if-z-i.false)) c.if-t-ne0.false _ (c.asked.ensures a.z s) ∙ ap (placed s a.n) c.in_ok-row.was in
    rw (c.put_task_row.ensures.rows a.z.tasks, c.put_task_row.ensures.stacks a.z c.if-z-i.false) (sym e)
