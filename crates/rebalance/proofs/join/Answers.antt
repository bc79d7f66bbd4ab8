use mathlib.Core.Path.{sym, ◌∙◌}
use native.Mathlib.Omega.{arith}
use Rattle.rows.specs.Rows.{chunk_of}
use Rattle.rows.proofs.Laws.{length-rows}
use Rattle.rebalance.proofs.Laws.{join-none}
use Rattle.rebalance.proofs.join.Goals as goal

pub returns-in_default : goal.returns-in_default
returns-in_default c = join-none _ _ c.args.d (sym c.eq.ensures ∙ c.if-eq.false) c.in_default.ensures.0 (omega (arith, c.requires, c.well_formed, length-rows (chunk_of c.args.chunks.now) 0 c.args.z.chunks))
