-- Tables that have the shape, fresh or after some calls: those that fail it are made from them by one change (Broken.antt).
use Rattle.std.specs.Prelude.{ℕ, zero, suc, ◌+◌, ◌-◌, List, [], ◌∷◌, ◌++◌, eqb, replicate}
use Rattle.rules.specs.declared.Chunk.{Chunk}
use Rattle.rules.specs.declared.IndexRow.{IndexRow}
use Rattle.rules.specs.Words.{pick, limits, chunk_no, no_chunk, no_entry, live, new, put, upsert, compute, remove, scan, scan_down}
use Rattle.rules.specs.Tables.{Tables, empty_chunk, empty_index, with_directory, with_chunks, with_index, put_chunk}
use Rattle.rules.specs.Walks.{over, live_rows}
use Rattle.rules.specs.Rebalance.{with_indexed}
use Rattle.rules.specs.Calls.{fresh, does, Call}
use Rattle.rules.specs.Calls.Call.{start, step, begin, rebalance}

-- the tables after calls
unfoldable pub after : Tables → List Call → Tables
after s [] = s
after s (c ∷ l) = after (does limits s c).tables l

unfoldable pub steps : ℕ → ℕ → List Call
steps t zero = []
steps t (suc n) = step t ∷ steps t n

-- the task starts the operation on the key and does so many steps
abbrev pub works : ℕ → ℕ → ℕ → ℕ → List Call
works t op k n = start t op k 50 1 ∷ steps t n

-- puts of so many keys, from 0 on: key k stands in entry k of chunk 0, under handle k
unfoldable pub stores : ℕ → List Call
stores zero = []
stores (suc n) = stores n ++ works 0 put n 9

unfoldable pub stored : Tables
stored = after (fresh limits) (stores 8)

-- tasks 0 to 7 put the keys 0 to 7, absent before, and stand at 7, 1, 2, 6, 8, 9, 10 and 11
unfoldable pub inserting : Tables
inserting = after (fresh limits) (works 0 put 0 3 ++ works 1 put 1 0 ++ works 2 put 2 1 ++ works 3 put 3 2 ++ works 4 put 4 4 ++ works 5 put 5 5 ++ works 6 put 6 6 ++ works 7 put 7 7)

-- tasks 0 to 7 remove the keys 0 to 7, present before, and stand at 3, 4 and 16 to 21
unfoldable pub removing : Tables
removing = after stored (works 0 remove 0 2 ++ works 1 remove 1 3 ++ works 2 remove 2 5 ++ works 3 remove 3 6 ++ works 4 remove 4 7 ++ works 5 remove 5 8 ++ works 6 remove 6 9 ++ works 7 remove 7 10)

-- tasks 0 to 4: a put of a present key at 5, one of an absent key at 12, a compute and an upsert at 1, a scan at 22
unfoldable pub mixed : Tables
mixed = after stored (works 0 put 0 4 ++ works 1 put 9 8 ++ works 2 compute 2 0 ++ works 3 upsert 3 0 ++ works 4 scan 4 0)

-- tasks 0 to 2: a scan down with the entries 0 to 5 on its stack, a put of an absent key at 7 with entry 8, a scan down that holds nothing
unfoldable pub scanning : Tables
scanning = after stored (works 0 scan_down 0 3 ++ works 1 put 9 3 ++ works 2 scan_down 0 0)

-- a rebalance of the empty chunk 0: at drain, and after more calls at copy, swap in, index and release, with chunk 1 new
unfoldable pub rebalancing : List Call → Tables
rebalancing l = after (fresh limits) (begin 0 ∷ l)

abbrev pub draining : Tables
draining = rebalancing []

abbrev pub swapping : Tables
swapping = rebalancing (rebalance ∷ rebalance ∷ [])

abbrev pub indexing : Tables
indexing = rebalancing (rebalance ∷ rebalance ∷ rebalance ∷ [])

abbrev pub releasing : Tables
releasing = rebalancing (rebalance ∷ rebalance ∷ rebalance ∷ rebalance ∷ [])

-- a new chunk may have any minimum key until it is swapped in
abbrev pub apart : Tables
apart = put_chunk swapping (chunk_no 1) (record { status = new; frozen = 0; min = 9; next = no_chunk; head = no_entry; used = 0 })

-- so many empty live chunks, from number and minimum key c on
unfoldable pub live_chunks : ℕ → ℕ → List Chunk
live_chunks c zero = []
live_chunks c (suc n) = record { status = live; frozen = 0; min = c; next = pick (eqb n 0) no_chunk (chunk_no (c + 1)); head = no_entry; used = 0 } ∷ live_chunks (c + 1) n

-- their index has a row for chunk 0 alone
abbrev pub chain_of : ℕ → Tables
chain_of n = with_chunks (fresh limits) (live_chunks 0 n ++ replicate (32 - n) empty_chunk)

-- the index has these rows, and its count is that number
abbrev pub index_is : Tables → ℕ → List IndexRow → Tables
index_is s many l = with_index (with_directory s (with_indexed s.directory s.directory.stage many)) (over l (empty_index limits))

abbrev pub index_row : ℕ → ℕ → IndexRow
index_row k c = record { min = k; chunk = chunk_no c }

-- every live chunk is indexed, and the count is that number
abbrev pub all_indexed : Tables → ℕ → Tables
all_indexed s many = index_is s many (live_rows limits s)

unfoldable pub sound_tables : List Tables
sound_tables =
    fresh limits
    ∷ stored
    ∷ inserting
    ∷ removing
    ∷ mixed
    ∷ scanning
    ∷ draining
    ∷ rebalancing (rebalance ∷ [])
    ∷ swapping
    ∷ apart
    ∷ indexing
    ∷ releasing
    ∷ index_is releasing 1 (index_row 0 0 ∷ [])
    ∷ index_is (fresh limits) 0 []
    ∷ chain_of 3
    ∷ index_is (chain_of 3) 1 (index_row 2 2 ∷ [])
    ∷ chain_of 31
    ∷ all_indexed (chain_of 32) 32
    ∷ []
