use Rattle.std.proofs.Common.{rules}
use mathlib.Core.Path.{refl}
use Rattle.rules.specs.Calls.{Call, does}
use Rattle.calls.proofs.Laws.{ready-words, refused, done}
use Rattle.rebalance.proofs.Readied.{shape-ready}
use Rattle.rows.specs.Seen.{seen}
use Rattle.rows.specs.Rows.{directory_of, chunk_rows}
use Rattle.rebalance.specs.Ready.{Ready}
use Rattle.calls.proofs.go_on.Goals as goal

pub returns-in_err-ready : goal.returns-in_err-ready
returns-in_err-ready c = refused c.args.z Call.rebalance _ c.in_err-ready.field-0.0 c.in_err-ready.ensures c.from_residual.result (search rules)

pub rebalance-requires-clause-ready : goal.rebalance-requires-clause-ready
rebalance-requires-clause-ready c =
    let s = c.in_ok-ready.field-0 in
    ready-words c.args.z _ s c.in_ok-ready.ensures (λ z w. Ready z (directory_of w.directory) (chunk_rows z.chunks w.chunks)) (shape-ready s.lent.z (seen s.lent) s.shaped)

pub returns : goal.returns
unfolding does
returns c = let a = c.args in done a.z Call.rebalance _ c.in_ok-ready.field-0 c.in_ok-ready.ensures _ _ (c.rebalance.ensures a.values.now a.marks.now) (record { directory = c.rebalance.auto.directory; tasks = refl; chunks = c.rebalance.auto.chunks; entries = c.rebalance.auto.entries; values = refl; marks = refl })
