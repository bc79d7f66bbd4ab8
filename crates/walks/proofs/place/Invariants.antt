use Prim.Native.Nat.{◌*◌, ◌-◌}
use Rattle.std.proofs.Common.{◌≡◌, ◌<◌, IfSome}
use Rattle.rules.specs.Words.{no_entry}
use Rattle.rules.specs.Walks.{place_from}
use Rattle.rows.specs.Rows.{entry_rows}
use Rattle.walks.specs.Found.{named}
use Rattle.walks.proofs.place.Given as goal

abbrev pub invariant-loop : goal.invariant-loop
invariant-loop l = (place_from l.z (entry_rows (l.z.chunks * l.z.entries) l.entries) l.c l.z.entries no_entry l.fn.head l.k ≡ place_from l.z (entry_rows (l.z.chunks * l.z.entries) l.entries) l.c (l.z.entries - l.counter) (named l.below) l.at l.k) × IfSome l.below (λ x. x.0 < l.z.entries)
