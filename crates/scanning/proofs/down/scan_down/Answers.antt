use mathlib.Core.Path.{sym, ◌∙◌}
use native.Mathlib.Omega.{arith}
use Rattle.rows.specs.Seen.{seen}
use Rattle.scanning.proofs.Descent.{read-top, down-off, down-first, down-lowest, down-next}
use Rattle.scanning.proofs.down.scan_down.Goals as goal

pub take_off-requires : goal.take_off-requires
take_off-requires c = let s = c.args.s.now.lent in read-top s.z (seen s) c.args.t c.args.n _ c.stack_depth-depth.ensures.0 c.if-depth-gt0.true _ c.stack_at-e.ensures

pub returns-then-depth-gt0 : goal.returns-then-depth-gt0
returns-then-depth-gt0 c = let s = c.args.s.now.lent in c.take_off.ensures s.directory.now s.tasks.now s.chunks.now ∙ sym (down-off s.z (seen s) c.args.t c.args.n _ c.stack_depth-depth.ensures.0 c.if-depth-gt0.true _ c.stack_at-e.ensures)

pub returns-then-z-t : goal.returns-then-z-t
returns-then-z-t c = let s = c.args.s.now.lent in c.fill_from.ensures s.tasks.now s.entries.now s.values.now s.marks.now ∙ sym (down-first s.z (seen s) c.args.t c.args.n _ c.stack_depth-depth.ensures.0 (omega (arith, c.well_formed)) c.if-depth-gt0.false c.if-z-t.true)

pub returns-then-x-t : goal.returns-then-x-t
returns-then-x-t c = let s = c.args.s.now.lent in c.finishes.ensures ∙ sym (down-lowest s.z (seen s) c.args.t c.args.n _ c.stack_depth-depth.ensures.0 (omega (arith, c.well_formed)) c.if-depth-gt0.false c.if-z-t.false _ c.chunk_at-x.ensures c.if-x-t.true)

pub returns : goal.returns
returns c = let s = c.args.s.now.lent in c.fill_from-2.ensures s.tasks.now s.entries.now s.values.now s.marks.now ∙ sym (down-next s.z (seen s) c.args.t c.args.n _ c.stack_depth-depth.ensures.0 (omega (arith, c.well_formed)) c.if-depth-gt0.false c.if-z-t.false _ c.chunk_at-x.ensures c.if-x-t.false)
