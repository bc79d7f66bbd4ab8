-- The handle table as a list of records, and the tables that it stands for (document 01, "What the tables hold").
use Rattle.std.specs.Prelude.{ℕ, List, map, get_or, set}
use Rattle.rules.specs.declared.HandleNo.{HandleNo}
use Rattle.rules.specs.Tables.{Tables, with_values, with_marks}
use Rattle.records.specs.declared.Record.{Record}

-- value 0, undeleted: what a number past the last record reads as, and a fresh handle's record
abbrev pub no_record : Record
no_record = record { value = 0; deleted = 0 }

abbrev pub record_at : List Record → HandleNo → Record
record_at rs h = get_or rs h.0 no_record

-- ---- a record, written anew
abbrev pub with_value : Record → ℕ → Record
with_value r v = record { value = v; deleted = r.deleted }

abbrev pub with_deleted : Record → ℕ → Record
with_deleted r m = record { value = r.value; deleted = m }

-- ---- the records after a handle is made fresh, after a store and after a mark: the one row is another, and no other
abbrev pub freshened : List Record → HandleNo → List Record
freshened rs h = set rs h.0 no_record

abbrev pub stored : List Record → HandleNo → ℕ → List Record
stored rs h v = set rs h.0 (with_value (record_at rs h) v)

abbrev pub marked : List Record → HandleNo → List Record
marked rs h = set rs h.0 (with_deleted (record_at rs h) 1)

-- ---- the tables' values and marks are those of the records
abbrev pub value_of : Record → ℕ
value_of r = r.value

abbrev pub deleted_of : Record → ℕ
deleted_of r = r.deleted

abbrev pub with_records : Tables → List Record → Tables
with_records s rs = with_marks (with_values s (map value_of rs)) (map deleted_of rs)
