use Prim.Native.Nat.{◌+◌, ◌*◌, ◌-◌}
use mathlib.Core.Path.{◌≡◌}
use native.Mathlib.Omega.{arith}
use Rattle.taking.proofs.Rows.{striking-more, striking-done, named-next, named-done}
use Rattle.taking.proofs.Left.strike_rows.Goals as goal

pub loop-pair-preserved : goal.loop-pair-preserved
loop-pair-preserved c =
    let turn = c.loop-pair in
    let first = striking-more _ _ _ _ _ _ _ turn.invariant c.strike.ensures (λ h b. named-next _ _ _ (omega arith) _ c.entry_row-x.ensures h) in
    let second = striking-more _ _ _ _ _ _ _ first c.strike-in-loop-pair.ensures (λ h b. named-next _ _ _ (omega arith) _ c.entry_row-y.ensures h) in
    let on : c.args.from + (turn.pair + 1) * 2 ≡ c.args.from + turn.pair * 2 + 1 + 1 = omega arith in
    rw on second

pub returns-then-to-from-eq1 : goal.returns-then-to-from-eq1
returns-then-to-from-eq1 c =
    let at : c.args.to - 1 ≡ c.args.from + c.loop-pair.pair * 2 = omega arith in
    let last = striking-more _ _ _ _ _ _ _ c.loop-pair.invariant c.strike-then-to-from-eq1.ensures (λ h b. named-next _ _ _ (omega arith) _ (rw at at c.entry_row-x-then-to-from-eq1.ensures) h) in
    striking-done _ _ _ _ last (named-done _ _ _ (omega arith))

pub returns-else-to-from-eq1 : goal.returns-else-to-from-eq1
returns-else-to-from-eq1 c = striking-done _ _ _ _ c.loop-pair.invariant (named-done _ _ _ (omega arith))
