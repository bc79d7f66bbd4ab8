-- The numbers of the operations.
use Rattle.std.specs.Prelude.{ℕ}
use Rattle.rules.specs.declared.Operation.{Operation}
use Rattle.rules.specs.declared.Operation.TheVariants.{Get, Put, PutIfAbsent, Upsert, Compute, Remove, Scan, ScanDown}
use Rattle.rules.specs.Words.{get, put, put_if_absent, upsert, compute, remove, scan, scan_down}

abbrev pub kind_of : Operation → ℕ
kind_of Get = get
kind_of Put = put
kind_of PutIfAbsent = put_if_absent
kind_of Upsert = upsert
kind_of Compute = compute
kind_of Remove = remove
kind_of Scan = scan
kind_of ScanDown = scan_down
