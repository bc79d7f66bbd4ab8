use mathlib.Core.Path.{ap}
use native.Mathlib.Omega.{arith}
use Rattle.rules.specs.declared.Directory.{Directory}
use Rattle.locating.proofs.Laws.{many-short, index-rises, live-starts}
use Rattle.locating.proofs.chart.Chart.start.Goals as goal

pub halve-many-requires : goal.halve-many-requires
halve-many-requires c =
    let s = c.args.self.now in
    let count = ap (λ (d : Directory). d.indexed) c.directory_row-indexed.ensures in
    rw count (omega (arith, many-short s.z s.directory.now s.chunks.now s.charted, s.charted.directory), index-rises s.z s.directory.now s.chunks.now s.charted)

pub live_from-requires : goal.live_from-requires
live_from-requires c =
    let s = c.args.self.now in
    let count = ap (λ (d : Directory). d.indexed) c.directory_row-indexed.ensures in
    let under = c.halve-many.ensures in
    (omega (arith, many-short s.z s.directory.now s.chunks.now s.charted, count, s.charted.directory), s.charted.chunks)

pub returns : goal.returns
returns c =
    let s = c.args.self.now in
    let count = ap (λ (d : Directory). d.indexed) c.directory_row-indexed.ensures in
    let under = c.halve-many.ensures in
    live-starts s.z s.directory.now s.chunks.now s.charted (omega (arith, c.well_formed)) c.args.k _
    (record { within = omega arith; below = λ i b. under.below i (omega arith); above = λ b. omega (arith, under.above (omega arith)) }) _ c.live_from.ensures
