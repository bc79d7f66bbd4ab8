use mathlib.Core.Path.{sym, ◌∙◌}
use Rattle.rows.specs.Seen.{seen}
use Rattle.shape.proofs.Fits.{stage-fails, stage-holds}
use Rattle.shape.proofs.rebalance.rebalance_fits.Goals as goal

pub returns-then-stage_fits : goal.returns-then-stage_fits
returns-then-stage_fits c = let s = c.args.s.now in c.chunks_fit.ensures ∙ sym (stage-holds s.z (seen s) _ c.directory_row-d.ensures _ c.stage_fits.result c.stage_fits.ensures c.status_count-unused.ensures.count c.if-stage_fits.true)

pub returns-else-stage_fits : goal.returns-else-stage_fits
returns-else-stage_fits c = let s = c.args.s.now in c.if-stage_fits.false ∙ sym (stage-fails s.z (seen s) _ c.directory_row-d.ensures _ c.stage_fits.result c.stage_fits.ensures c.status_count-unused.ensures.count c.if-stage_fits.false)
