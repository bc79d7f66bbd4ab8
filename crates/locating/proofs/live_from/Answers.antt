use mathlib.Core.Path.{sym, ap, ◌∙◌}
use native.Mathlib.Omega.{arith}
use Rattle.rules.specs.declared.Directory.{Directory}
use Rattle.locating.proofs.Laws.{live-none, live_here, live-next}
use Rattle.locating.proofs.live_from.Goals as goal

pub returns-then-chunk_at-eq-LIVE : goal.returns-then-chunk_at-eq-LIVE
returns-then-chunk_at-eq-LIVE c = sym (c.loop-i.invariant ∙ live_here _ _ _ _ (omega arith) _ c.index_row.ensures _ c.chunk_at.ensures c.if-chunk_at-eq-LIVE.true)

pub loop-i-preserved : goal.loop-i-preserved
loop-i-preserved c = c.loop-i.invariant ∙ live-next _ _ _ _ (omega arith) _ c.index_row.ensures _ c.chunk_at.ensures c.if-chunk_at-eq-LIVE.false

pub returns : goal.returns
returns c = ap (λ (d : Directory). d.first) c.directory_row.ensures ∙ sym (c.loop-i.invariant ∙ live-none _ _ _ (omega arith))
