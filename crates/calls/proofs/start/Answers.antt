use Rattle.std.proofs.Common.{rules}
use mathlib.Core.Path.{refl}
use Rattle.rules.specs.Calls.{Call, does}
use Rattle.calls.proofs.Laws.{refused, done}
use Rattle.calls.proofs.start.Goals as goal

pub returns-in_err-ready : goal.returns-in_err-ready
returns-in_err-ready c = refused c.args.z (Call.start c.args.n c.args.op c.args.k c.args.a c.args.f) _ c.in_err-ready.field-0.0 c.in_err-ready.ensures c.from_residual.result (search rules)

pub returns : goal.returns
unfolding does
returns c = let a = c.args in done a.z (Call.start c.args.n c.args.op c.args.k c.args.a c.args.f) _ c.in_ok-ready.field-0 c.in_ok-ready.ensures _ _ (c.start.ensures a.directory.now a.chunks.now a.entries.now a.values.now a.marks.now) (record { directory = refl; tasks = c.start.auto.tasks; chunks = refl; entries = refl; values = refl; marks = refl })
