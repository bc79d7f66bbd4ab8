use native.Mathlib.Omega.{arith}
use borrow.Author.Tests.{lt-ltb, le-ltb}
use Rattle.rules.specs.Words.{NONE}
use Rattle.scanning.proofs.up.scan.Goals as goal

pub entry_at-x-requires : goal.entry_at-x-requires
entry_at-x-requires c =
    let s = c.args.s.now.lent in
    let w = rw (c.chart.ensures.0, c.chart.ensures.1, c.chart.ensures.2) at (c.walk-seen.ensures s.tasks.now s.values.now) in
    record { chunk = w.numbered; entry = (rw c.in-Some.is at w.entry).1; long = s.lends.entries }

pub returns-in-Some : goal.returns-in-Some
returns-in-Some c = λ ts.
    let s = c.args.s.now.lent in
    let w = rw (c.chart.ensures.0, c.chart.ensures.1, c.chart.ensures.2) at (c.walk-seen.ensures ts s.values.now) in
    let found = rw c.in-Some.is at w.entry in
    rw (le-ltb _ _ c.if-t.false, ← found.0, ← w.chunk, lt-ltb _ _ found.1, ← c.entry_at-x.ensures, ← c.word_at-v.ensures) c.goes_past.ensures

pub returns-then-next-z : goal.returns-then-next-z
returns-then-next-z c = λ ts.
    let s = c.args.s.now.lent in
    let w = rw (c.chart.ensures.0, c.chart.ensures.1, c.chart.ensures.2) at (c.walk-seen.ensures ts s.values.now) in
    let none = rw c.in_default.is at w.entry in
    rw (le-ltb _ _ c.if-t.false, ← none.0, ← w.chunk, le-ltb NONE s.z.entries (omega (arith, c.well_formed)), ← c.chunk_at.ensures, lt-ltb _ _ c.if-next-z.true, ← c.chunk_at-key.ensures) c.tells.ensures

pub returns : goal.returns
returns c = λ ts.
    let s = c.args.s.now.lent in
    let w = rw (c.chart.ensures.0, c.chart.ensures.1, c.chart.ensures.2) at (c.walk-seen.ensures ts s.values.now) in
    let none = rw c.in_default.is at w.entry in
    rw (le-ltb _ _ c.if-t.false, ← none.0, ← w.chunk, le-ltb NONE s.z.entries (omega (arith, c.well_formed)), ← c.chunk_at.ensures, le-ltb _ _ c.if-next-z.false) c.finishes-2.ensures
