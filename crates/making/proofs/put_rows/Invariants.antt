use mathlib.Core.Path.{◌≡◌}
use lib.ListN.{take, replicate}
use Rattle.making.proofs.put_rows.Given as goal

abbrev pub invariant-loop-i : goal.invariant-loop-i
invariant-loop-i g l = (take l.i (g.R.Row.rows l.n l.words) ≡ replicate l.i g.R.Row.fresh) × g.R.Row.past l.i l.initial.words l.words
