use mathlib.Core.Path.{sym}
use borrow.Author.Tests.{lt-ltb, le-ltb}
use Rattle.taking.specs.Left.{room}
use Rattle.taking.proofs.Laws.{lowest-free-is}
use Rattle.taking.proofs.lowest_free.Goals as goal

pub returns-in-Some : goal.returns-in-Some
returns-in-Some c = (sym (rw (lt-ltb _ _ c.if-n-z.true) at (lowest-free-is _ _ _ _ _ c.all-left.ensures c.strike_named.ensures c.strike_held.ensures _ _ c.requires.0.handles (rw c.in-Some.is at c.lowest.ensures))), c.if-n-z.true)

pub returns-in_default : goal.returns-in_default
returns-in_default c = (sym (rw (le-ltb _ _ c.if-n-z.false) at (lowest-free-is _ _ _ _ _ c.all-left.ensures c.strike_named.ensures c.strike_held.ensures _ _ c.requires.0.handles (rw c.in-Some.is at c.lowest.ensures))), tt)

pub returns-in_default-2 : goal.returns-in_default-2
returns-in_default-2 c = (sym (rw (le-ltb room _ c.requires.0.handles) at (lowest-free-is _ _ _ _ _ c.all-left.ensures c.strike_named.ensures c.strike_held.ensures _ _ c.requires.0.handles (rw c.in_default.is at c.lowest.ensures))), tt)
