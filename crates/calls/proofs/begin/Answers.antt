use Rattle.std.proofs.Common.{rules}
use mathlib.Core.Path.{refl}
use Rattle.rules.specs.Calls.{Call, does}
use Rattle.calls.proofs.Laws.{ready-words, refused, done}
use Rattle.locating.specs.Charted.{Charted}
use Rattle.locating.proofs.Laws.{shape-charted}
use Rattle.calls.proofs.begin.Goals as goal

pub returns-in_err-ready : goal.returns-in_err-ready
returns-in_err-ready c = refused c.args.z (Call.begin c.args.k) _ c.in_err-ready.field-0.0 c.in_err-ready.ensures c.from_residual.result (search rules)

pub begin-requires : goal.begin-requires
begin-requires c =
    let s = c.in_ok-ready.field-0 in
    let l = s.lent in
    ready-words c.args.z _ s c.in_ok-ready.ensures (λ z w. Charted z w.directory w.chunks) (shape-charted l.z l.directory.now l.tasks.now l.chunks.now l.entries.now l.values.now l.marks.now l.lends s.shaped)

pub returns : goal.returns
unfolding does
returns c = let a = c.args in done a.z (Call.begin c.args.k) _ c.in_ok-ready.field-0 c.in_ok-ready.ensures _ _ (c.begin.ensures a.tasks.now a.entries.now a.values.now a.marks.now) (record { directory = c.begin.auto.directory; tasks = refl; chunks = c.begin.auto.chunks; entries = refl; values = refl; marks = refl })
