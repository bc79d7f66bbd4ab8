use mathlib.Core.Path.{sym, ◌∙◌}
use borrow.Author.Tests.{ne_eqb, lt-ltb, le-ltb}
use native.Mathlib.Omega.{arith}
use Rattle.rules.specs.Words.{NONE}
use Rattle.rows.specs.Seen.{seen}
use Rattle.shape.specs.Parts.{hold_of}
use Rattle.shape.proofs.Holds.{holds-fails, holds_on, holding}
use Rattle.shape.proofs.tasks.holds_right.Goals as goal

pub returns-then-not-numbers_right-marked : goal.returns-then-not-numbers_right-marked
returns-then-not-numbers_right-marked c = let s = c.args.s.now in
    sym (holds-fails s.z (seen s) c.args.t (hold_of c.args.h) _ _ c.numbers_right.ensures c.marked.ensures (c.if-not-numbers_right-marked.true))

pub returns-then-row-eq-UNUSED : goal.returns-then-row-eq-UNUSED
returns-then-row-eq-UNUSED c = let s = c.args.s.now in
    sym (holds_on s.z (seen s) c.args.t (hold_of c.args.h) _ _ c.numbers_right.ensures c.marked.ensures (c.if-not-numbers_right-marked.false) ∙ rw (ne_eqb c.args.t.chunk.0 NONE (λ e. absurd (omega arith)), ← c.chunk_at-row.ensures, le-ltb 0 c.chunk_at-row.result.status (omega arith)))

pub returns-in-Never : goal.returns-in-Never
returns-in-Never c = let s = c.args.s.now in
    sym (holds_on s.z (seen s) c.args.t (hold_of c.args.h) _ _ c.numbers_right.ensures c.marked.ensures (c.if-not-numbers_right-marked.false) ∙ rw (ne_eqb c.args.t.chunk.0 NONE (λ e. absurd (omega arith)), ← c.chunk_at-row.ensures, lt-ltb 0 c.chunk_at-row.result.status (omega arith), c.in-Never.is))

pub returns-in-Always : goal.returns-in-Always
returns-in-Always c = let s = c.args.s.now in
    c.holds_entry.ensures ∙ sym (holds_on s.z (seen s) c.args.t (hold_of c.args.h) _ _ c.numbers_right.ensures c.marked.ensures (c.if-not-numbers_right-marked.false) ∙ rw (ne_eqb c.args.t.chunk.0 NONE (λ e. absurd (omega arith)), ← c.chunk_at-row.ensures, lt-ltb 0 c.chunk_at-row.result.status (omega arith), holding c.args.h.entry c.in-Always.is))
