-- The tables that some order of calls, with any numbers in them, makes of fresh ones.
use Rattle.rules.specs.declared.Sizes.{Sizes}
use Rattle.rules.specs.Tables.{Tables}
use Rattle.rules.specs.Calls.{Call, fresh, calls}

pub data Reached (z : Sizes) : Tables → Type 0 where
  started : Reached z (fresh z)
  called : {s : Tables} → Reached z s → (c : Call) → Reached z (calls z s c).tables
