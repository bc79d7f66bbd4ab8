use Rattle.std.proofs.Common.{rules}
use mathlib.Core.Path.{refl}
use Rattle.rules.specs.Calls.{Call, does}
use Rattle.calls.proofs.Laws.{refused, done}
use Rattle.calls.proofs.step.Goals as goal

pub returns-in_err-ready : goal.returns-in_err-ready
returns-in_err-ready c = refused c.args.z (Call.step c.args.n) _ c.in_err-ready.field-0.0 c.in_err-ready.ensures c.from_residual.result (search rules)

pub returns : goal.returns
unfolding does
returns c = let a = c.args in done a.z (Call.step c.args.n) _ c.in_ok-ready.field-0 c.in_ok-ready.ensures _ _ c.step.ensures (record { directory = refl; tasks = c.step.auto.tasks; chunks = c.step.auto.chunks; entries = c.step.auto.entries; values = c.step.auto.values; marks = c.step.auto.marks })
