-- The limits' tables have lengths that the machine counts, and stage 8 has room for their handles.
use lib.Dec.{lit<, lit≤}
use Rattle.rules.specs.Words.{limits}
use Rattle.calls.specs.Fits.{Fits}

pub limits-fit : Fits limits
limits-fit = record { tasks = lit< tt; chunks = lit< tt; entries = lit< tt; handles = lit≤ tt }
