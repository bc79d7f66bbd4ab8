use Rattle.rows.specs.Rows.{tables}
use Rattle.writes.proofs.Placed.{placed}
use Rattle.turn.proofs.move_on.Goals as goal

pub apply-requires : goal.apply-requires
apply-requires c =
    let a = c.args in
    record { chunks = c.requires.0.chunks; entries = c.requires.0.entries; placed = rw c.decide-x.ensures (placed a.z (tables a.z a.directory.now a.tasks.now a.chunks.now a.entries.now a.values.now a.marks.now) a.n a.t c.requires.1 c.requires.2) }
