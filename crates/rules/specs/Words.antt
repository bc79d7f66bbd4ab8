-- The numbers of document 01, and how a definition goes by cases.
use Rattle.std.specs.Prelude.{ℕ, zero, suc, Bool, true, false, eqb, ltb, leb}
use Rattle.rules.specs.declared.Sizes.{Sizes}
use Rattle.rules.specs.declared.ChunkNo.{ChunkNo}
use Rattle.rules.specs.declared.EntryNo.{EntryNo}
use Rattle.rules.specs.declared.HandleNo.{HandleNo}

-- the one case or the other. Both are computed, so what is long is bound by a `let` first
abbrev pub pick {ℓ} : {A : Type ℓ} → Bool → A → A → A
pick true a b = a
pick false a b = b

abbrev pub ◌and◌ : Bool → Bool → Bool
◌and◌ a b = pick a b false

abbrev pub ◌or◌ : Bool → Bool → Bool
◌or◌ a b = pick a true b

infixr 30 ◌and◌
infixr 25 ◌or◌
-- ---- "The limits belong to the directory and are written once"
abbrev pub limits : Sizes
limits = record { tasks = 8; chunks = 32; entries = 32; handles = 560 }

-- ---- numbers of rows, and the one that stands for no chunk, no entry or no handle
abbrev pub NONE : ℕ
NONE = 18446744073709551615

abbrev pub chunk_no : ℕ → ChunkNo
chunk_no n = record { 0 = n }

abbrev pub entry_no : ℕ → EntryNo
entry_no n = record { 0 = n }

abbrev pub handle_no : ℕ → HandleNo
handle_no n = record { 0 = n }

abbrev pub no_chunk : ChunkNo
no_chunk = chunk_no NONE

abbrev pub no_entry : EntryNo
no_entry = entry_no NONE

abbrev pub no_handle : HandleNo
no_handle = handle_no NONE

-- ---- "Keys and values take every value 0 to 2^64-1"
abbrev pub largest : ℕ
largest = 18446744073709551615

-- ---- "A chunk: unused, live, new or retired"
abbrev pub unused : ℕ
unused = 0

abbrev pub live : ℕ
live = 1

abbrev pub new : ℕ
new = 2

abbrev pub retired : ℕ
retired = 3

-- ---- "operation 1 to 7", and 8 (document 02, E1)
abbrev pub get : ℕ
get = 1

abbrev pub put : ℕ
put = 2

abbrev pub put_if_absent : ℕ
put_if_absent = 3

abbrev pub upsert : ℕ
upsert = 4

abbrev pub compute : ℕ
compute = 5

abbrev pub remove : ℕ
remove = 6

abbrev pub scan : ℕ
scan = 7

abbrev pub scan_down : ℕ
scan_down = 8

-- upward and down
abbrev pub is_scan : ℕ → Bool
is_scan op = eqb op scan or eqb op scan_down

-- put, putIfAbsent, upsert
abbrev pub inserts : ℕ → Bool
inserts op = leb put op and leb op upsert

-- upsert, compute
abbrev pub uses_function : ℕ → Bool
uses_function op = eqb op upsert or eqb op compute

-- ---- "The rebalancer: idle, or its stage": the stage that its next call does
abbrev pub idle : ℕ
idle = 0

abbrev pub to_drain : ℕ
to_drain = 1

abbrev pub to_copy : ℕ
to_copy = 2

abbrev pub to_swap : ℕ
to_swap = 3

abbrev pub to_index : ℕ
to_index = 4

abbrev pub to_release : ℕ
to_release = 5
