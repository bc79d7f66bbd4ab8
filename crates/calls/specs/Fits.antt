-- What the calls over open sizes ask of the sizes: the lengths are numbers of the machine, and stage 8 has room for the handles.
use Rattle.std.specs.Prelude.{◌+◌, ◌*◌, ◌^◌, ◌<◌, ◌≤◌}
use Rattle.rules.specs.declared.Sizes.{Sizes}
use Rattle.taking.specs.Left.{room}

pub record Fits (z : Sizes) : Type 0 where
  pub tasks : z.tasks * 11 + z.tasks * z.entries < 2 ^ 64
  pub chunks : z.chunks * 6 < 2 ^ 64
  pub entries : z.chunks * z.entries * 3 < 2 ^ 64
  pub handles : z.handles ≤ room
