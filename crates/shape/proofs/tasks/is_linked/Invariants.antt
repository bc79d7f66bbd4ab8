use Prim.Native.Nat.{◌-◌}
use mathlib.Core.Path.{◌≡◌}
use Rattle.rules.specs.Shape.{linked_from}
use Rattle.rows.specs.Seen.{seen}
use Rattle.shape.proofs.tasks.is_linked.Given as goal

abbrev pub invariant-loop : goal.invariant-loop
invariant-loop l = let s = l.s in
    linked_from s.z (seen s).entries l.c s.z.entries l.fn.head l.x ≡ linked_from s.z (seen s).entries l.c (s.z.entries - l.counter) l.at l.x
