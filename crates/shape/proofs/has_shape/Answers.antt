use Rattle.std.proofs.Common.{rules}
use mathlib.Core.Path.{sym, ◌∙◌}
use Rattle.shape.proofs.Whole.{shape_is}
use Rattle.shape.proofs.has_shape.Goals as goal

pub returns-then-rebalance_fits : goal.returns-then-rebalance_fits
returns-then-rebalance_fits c = c.index_right.ensures ∙ sym (shape_is c.args.s.now _ c.directory_row-d.ensures c.if-marks_right.value c.if-d-s.value c.if-chunks_right.value c.if-chain_right.value c.if-tasks_right.value c.if-stacks_right.value (search rules) (search rules) (search rules) (search rules) (search rules) (search rules) ∙ rw c.if-rebalance_fits.true)

pub returns-else-rebalance_fits : goal.returns-else-rebalance_fits
returns-else-rebalance_fits c = c.if-rebalance_fits.false ∙ sym (shape_is c.args.s.now _ c.directory_row-d.ensures c.if-marks_right.value c.if-d-s.value c.if-chunks_right.value c.if-chain_right.value c.if-tasks_right.value c.if-stacks_right.value (search rules) (search rules) (search rules) (search rules) (search rules) (search rules) ∙ rw c.if-rebalance_fits.false)
