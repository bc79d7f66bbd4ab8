use Prim.Native.Nat.{◌+◌, ◌*◌, ◌-◌}
use Rattle.rules.specs.Words.{handle_no}
use Rattle.rules.specs.Walks.{named_in}
use Rattle.rows.specs.Rows.{rows_from, entry_of}
use Rattle.taking.proofs.Rows.{Striking}
use Rattle.taking.proofs.Left.strike_rows.Given as goal

abbrev pub invariant-loop-pair : goal.invariant-loop-pair
invariant-loop-pair l = Striking l.initial.self.words l.self.words (λ h. named_in (rows_from (entry_of l.entries) l.from (l.to - l.from)) (handle_no h)) (λ h. named_in (rows_from (entry_of l.entries) (l.from + l.pair * 2) (l.to - (l.from + l.pair * 2))) (handle_no h))
