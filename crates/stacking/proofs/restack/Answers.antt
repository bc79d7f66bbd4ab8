use native.Mathlib.Omega.{arith}
use Rattle.rows.specs.Rows.{tables}
use Rattle.stacking.proofs.Then.{then-off, then-filled, then-stays, restacked, unstacked}
use Rattle.stacking.proofs.restack.Goals as goal

pub returns-then-depth-gt0 : goal.returns-then-depth-gt0
returns-then-depth-gt0 c d vs ms r = let put = c.put_stack_at in restacked c.args.z d c.args.tasks.now c.args.chunks.now c.args.entries.now vs ms c.args.n put.new.tasks _ _ (record { stacks = put.ensures.stacks; rows = put.ensures.rows }) (then-off c.args.z (tables c.args.z d c.args.tasks.now c.args.chunks.now c.args.entries.now vs ms) c.args.before c.args.after c.args.n c.if-before-ne23.false _ c.stack_depth-depth.ensures.0 c.if-depth-gt0.true)

pub returns-then-after-ne23 : goal.returns-then-after-ne23
returns-then-after-ne23 c d vs ms r = let e = c.if-before-ne23.false in unstacked c.args.z d c.args.tasks.now c.args.chunks.now c.args.entries.now vs ms c.args.n _ (then-stays c.args.z (tables c.args.z d c.args.tasks.now c.args.chunks.now c.args.entries.now vs ms) c.args.before c.args.after c.args.n e _ c.stack_depth-depth.ensures.0 (omega (arith, c.well_formed)) c.if-depth-gt0.false (r e) c.if-after-ne23.true)

pub returns : goal.returns
returns c d vs ms r = let e = c.if-before-ne23.false in let f = c.fill in restacked c.args.z d c.args.tasks.now c.args.chunks.now c.args.entries.now vs ms c.args.n f.new.tasks _ _ f.ensures (then-filled c.args.z (tables c.args.z d c.args.tasks.now c.args.chunks.now c.args.entries.now vs ms) c.args.before c.args.after c.args.n e _ c.stack_depth-depth.ensures.0 (omega (arith, c.well_formed)) c.if-depth-gt0.false (r e) c.if-after-ne23.false _ c.chunk_at-x.ensures _ (c.upper_end-to.ensures d c.args.tasks.now c.args.entries.now vs ms))
