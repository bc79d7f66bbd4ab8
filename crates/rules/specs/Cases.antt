-- The marked cases M1 to M12, three more, three of scans down (document 02, E1), three of former values (E2), one of the index (E3) and two of a scan's upper end (E5): each is its calls from fresh tables, every report of them, and what the tables then show (document 01, "Marked cases").
use Rattle.std.specs.Prelude.{ℕ, ◌+◌, ◌-◌, ◌^◌, List, [], ◌∷◌, ◌++◌}
use Rattle.rules.specs.declared.Report.{Report}
use Rattle.rules.specs.declared.Report.TheVariants as report
use Rattle.rules.specs.Words.{largest, get, put, put_if_absent, upsert, compute, remove, scan, scan_down}
use Rattle.rules.specs.Tables.{task}
use Rattle.rules.specs.Calls.Call.{start, step, begin, rebalance}
use Rattle.rules.specs.Lines.{Line, shaped, moves, finishes, takes, puts, swaps, swapped, splits, stepping, scans, falls, climbs, used, links, naming, min_key, first_key, lives, cursor, upper_end, row_chunk, row_key, indexed_rows}
use Rattle.rules.specs.Lines.Line.{reports, shows}

-- ---- the cases
abbrev pub m1 : List Line
m1 = finishes 0 get 5 0 0 2 report.Absent

abbrev pub m2 : List Line
m2 = takes 0 put_if_absent 5 50 0 report.True

abbrev pub m3 : List Line
m3 = m2 ++ finishes 0 put 5 60 0 5 (report.Value 50) ++ finishes 0 get 5 0 0 4 (report.Value 60)

abbrev pub m4 : List Line
m4 = m2 ++ finishes 0 remove 5 0 0 11 (report.Value 50) ++ finishes 0 remove 5 0 0 3 report.Absent

abbrev pub m5 : List Line
m5 = finishes 0 put 5 (2 ^ 64 - 1) 0 9 report.Absent ++ finishes 0 compute 5 1 1 5 report.True ++ finishes 0 get 5 0 0 4 (report.Value 0)

abbrev pub m6 : List Line
m6 =
    m2
    ++ reports (start 0 get 5 0 0) report.Moved
    ∷ moves 0 3
    ++ finishes 1 remove 5 0 0 11 (report.Value 50)
    ++ takes 2 put 9 90 1 report.Absent
    ++ reports (step 0) report.Absent
    ∷ takes 3 put 11 110 0 report.Absent

abbrev pub m7 : List Line
m7 =
    reports (start 0 put_if_absent 7 70 0) report.Moved
    ∷ reports (start 1 put_if_absent 7 71 0) report.Moved
    ∷ moves 0 2
    ++ moves 1 8
    ++ reports (step 1) report.True
    ∷ moves 0 6
    ++ reports (step 0) report.Lost
    ∷ moves 0 3
    ++ reports (step 0) report.False
    ∷ shows (used 0) 2
    ∷ shows (links 0) 1
    ∷ shaped
    ∷ []

abbrev pub m8 : List Line
m8 =
    reports (start 0 put 5 50 0) report.Moved
    ∷ moves 0 7
    ++ reports (begin 5) report.Moved
    ∷ reports rebalance report.Waiting
    ∷ moves 0 1
    ++ reports (step 0) report.Absent
    ∷ reports rebalance report.Moved
    ∷ reports rebalance report.Moved
    ∷ shows (naming 1) 1
    ∷ shows (first_key 1) 5
    ∷ shaped
    ∷ []

abbrev pub m9 : List Line
m9 =
    reports (start 0 get 5 0 0) report.Moved
    ∷ moves 0 1
    ++ swapped
    ++ finishes 1 put 5 50 0 9 report.Absent
    ++ reports rebalance report.Moved
    ∷ reports rebalance report.Waiting
    ∷ reports (step 0) report.Absent
    ∷ reports rebalance report.Finished
    ∷ shaped
    ∷ []

abbrev pub m10 : List Line
m10 = puts 16 ++ swapped ++ shows lives 1 ∷ shows (naming 1) 16 ∷ shows (min_key 1) 0 ∷ []

abbrev pub m10two : List Line
m10two =
    puts 17
    ++ swapped
    ++ shows lives 2
    ∷ shows (naming 1) 9
    ∷ shows (naming 2) 8
    ∷ shows (min_key 1) 0
    ∷ shows (min_key 2) 10
    ∷ []

abbrev pub m11 : List Line
m11 = puts 32 ++ shows (used 0) 32 ∷ finishes 1 put 99 1 0 3 report.Full

abbrev pub m12 : List Line
m12 =
    m2
    ++ scans scan 0 10 (report.Pair 5 50 ∷ [])
    ++ scans scan 5 5 (report.Pair 5 50 ∷ [])
    ++ reports (start 0 scan 6 5 0) (report.Refused 4)
    ∷ []

-- one more, of "Errors a good builder makes": after M2 a remove sets its mark before a compute applies, and the compute goes on to make sure that the key is gone
abbrev pub lost : List Line
lost =
    m2
    ++ reports (start 0 compute 5 1 1) report.Moved
    ∷ moves 0 4
    ++ reports (start 1 remove 5 0 0) report.Moved
    ∷ moves 1 5
    ++ moves 0 3
    ++ shows (naming 0) 0
    ∷ reports (step 0) report.False
    ∷ moves 1 2
    ++ reports (step 1) (report.Value 50)
    ∷ shaped
    ∷ []

-- and one for each function of compute beside M5's: the larger of value and amount, either way round, and bitwise or (12 with 10 is 14)
abbrev pub functions : List Line
functions =
    m2
    ++ finishes 0 compute 5 60 2 5 report.True
    ++ finishes 0 get 5 0 0 4 (report.Value 60)
    ++ finishes 0 compute 5 40 2 5 report.True
    ++ finishes 0 get 5 0 0 4 (report.Value 60)
    ++ finishes 0 put 5 12 0 5 (report.Value 60)
    ++ finishes 0 compute 5 10 3 5 report.True
    ++ finishes 0 get 5 0 0 4 (report.Value 14)

-- upsert on an absent key stores its argument, whatever its function; on a present one it applies the function to the value and that argument
abbrev pub upserts : List Line
upserts =
    finishes 0 upsert 5 12 3 9 report.Done
    ++ finishes 0 get 5 0 0 4 (report.Value 12)
    ++ finishes 0 upsert 5 10 3 5 report.Done
    ++ finishes 0 get 5 0 0 4 (report.Value 14)
    ++ finishes 0 upsert 5 3 2 5 report.Done
    ++ finishes 0 get 5 0 0 4 (report.Value 14)
    ++ finishes 0 upsert 5 (2 ^ 64 - 1) 1 5 report.Done
    ++ finishes 0 get 5 0 0 4 (report.Value 13)

-- ---- scans down (document 02, E1)
-- the keys 1 to 9 in one chunk
abbrev pub in_one : List Line
in_one = puts 9

-- then those to 17, in two chunks, from 0 and 10 on
abbrev pub in_two : List Line
in_two = splits 9 8

-- then those to 26, in three chunks, from 0, 10 and 19 on
abbrev pub in_three : List Line
in_three = splits 17 9

-- a scan of all of them: each chunk's fill moves on, and each key of it is a pair
abbrev pub scans_all : List Line
scans_all =
    shows lives 3
    ∷ reports (start 0 scan_down 0 100 0) report.Moved
    ∷ stepping (report.Moved ∷ falls 18 8 ++ report.Moved ∷ falls 9 9 ++ report.Moved ∷ [])
    ++ shaped
    ∷ stepping (falls 0 9 ++ report.Done ∷ [])
    ++ shaped
    ∷ []

abbrev pub whole_down : List Line
whole_down = in_one ++ (in_two ++ (in_three ++ scans_all))

-- a range without a present key takes two steps in one chunk, also where its ends are the chunk's minimum key; 6 to 5 is refused by 4, and operation 9 by 5
abbrev pub empty_down : List Line
empty_down =
    m2
    ++ scans scan_down 4 4 (report.Moved ∷ [])
    ++ scans scan_down 0 0 (report.Moved ∷ [])
    ++ scans scan_down 6 10 (report.Moved ∷ [])
    ++ reports (start 0 scan_down 6 5 0) (report.Refused 4)
    ∷ reports (start 0 9 5 6 0) (report.Refused 5)
    ∷ []

-- the held chunk is retired half way: a put above and one of a key on the stack, a remove of another in between; release waits for the scan
abbrev pub retired_down : List Line
retired_down =
    puts 4
    ++ reports (start 0 scan_down 0 10 0) report.Moved
    ∷ moves 0 1
    ++ reports (step 0) (report.Pair 4 7)
    ∷ swapped
    ++ finishes 1 put 9 90 0 9 report.Absent
    ++ finishes 1 put 2 20 0 5 (report.Value 7)
    ++ finishes 1 remove 3 0 0 11 (report.Value 7)
    ++ reports rebalance report.Moved
    ∷ reports rebalance report.Waiting
    ∷ moves 0 1
    ++ reports (step 0) (report.Pair 2 20)
    ∷ reports (step 0) (report.Pair 1 7)
    ∷ reports rebalance report.Waiting
    ∷ reports (step 0) report.Done
    ∷ reports rebalance report.Finished
    ∷ shaped
    ∷ []

-- ---- former values (document 02, E2)
-- after M2 an upsert comes between a put's check and its apply: the put answers what the upsert has left, not what it has seen
abbrev pub upsert_between : List Line
upsert_between =
    m2
    ++ reports (start 0 put 5 60 0) report.Moved
    ∷ moves 0 4
    ++ finishes 1 upsert 5 1 1 5 report.Done
    ++ reports (step 0) (report.Value 51)
    ∷ finishes 0 get 5 0 0 4 (report.Value 60)

-- after M2 a remove has set its mark; so many steps later a put swaps its handle out of the entry, and some more later it ends: it answers the value that it has removed, and not the one that the entry then names
abbrev pub swapped_out : ℕ → ℕ → List Line
swapped_out sooner later =
    m2
    ++ reports (start 0 remove 5 0 0) report.Moved
    ∷ moves 0 (5 + sooner)
    ++ takes 1 put 5 70 1 report.Absent
    ++ moves 0 later
    ++ reports (step 0) (report.Value 50)
    ∷ finishes 0 get 5 0 0 4 (report.Value 70)

-- ---- the index (document 02, E3)
-- the keys 1 to 17 are in chunks 1 and 2, from 0 and 10 on, and chunk 0 takes the place of 2: until the index step the last row at or under 12 names chunk 2, which is retired, and a get of 12 locates chunk 0
abbrev pub locates_between : List Line
locates_between =
    swaps 12
    ++ shows indexed_rows 2
    ∷ shows (row_key 1) 10
    ∷ shows (row_chunk 1) 2
    ∷ reports (start 0 get 12 0 0) report.Moved
    ∷ moves 0 1
    ++ shows (λ s. (task s 0).chunk.0) 0
    ∷ moves 0 2
    ++ reports (step 0) (report.Value 7)
    ∷ reports rebalance report.Moved
    ∷ shows indexed_rows 2
    ∷ shows (row_key 1) 10
    ∷ shows (row_chunk 1) 0
    ∷ reports rebalance report.Finished
    ∷ shaped
    ∷ []

abbrev pub between : List Line
between = in_one ++ (in_two ++ locates_between)

-- ---- a scan's upper end (document 02, E5)
abbrev pub top_pair : Report
top_pair = report.Pair largest 70

-- the key 2^64-1 alone: a scan of it by itself and one of all keys give it once, up and down, and one up to the key below it does not; past it an upward scan's cursor stays and its upper end lies below
abbrev pub top_key : List Line
top_key =
    finishes 0 put largest 70 0 9 report.Absent
    ++ reports (start 0 scan largest largest 0) report.Moved
    ∷ reports (step 0) top_pair
    ∷ shows cursor largest
    ∷ shows upper_end (largest - 1)
    ∷ shaped
    ∷ reports (step 0) report.Done
    ∷ scans scan 0 largest (top_pair ∷ [])
    ++ scans scan_down largest largest (report.Moved ∷ top_pair ∷ [])
    ++ scans scan_down 0 largest (report.Moved ∷ top_pair ∷ [])
    ++ scans scan 0 (largest - 1) []
    ++ scans scan_down 0 (largest - 1) (report.Moved ∷ [])

-- of the keys 1 to 17 in chunks from 0 and 10 on a range that ends at 10, up and down; 10 alone; and 0 alone, which is absent: upward it takes a step to the next chunk, past its end
abbrev pub scans_to_minimum : List Line
scans_to_minimum =
    scans scan 5 10 (climbs 4 6)
    ++ scans scan_down 5 10 (report.Moved ∷ falls 9 1 ++ report.Moved ∷ falls 4 5)
    ++ scans scan 10 10 (climbs 9 1)
    ++ scans scan_down 10 10 (report.Moved ∷ falls 9 1)
    ++ scans scan 0 0 (report.Moved ∷ [])
    ++ scans scan_down 0 0 (report.Moved ∷ [])

abbrev pub to_minimum : List Line
to_minimum = in_one ++ (in_two ++ scans_to_minimum)

-- ---- all of them
abbrev pub base_cases : List (List Line)
base_cases = m1 ∷ m2 ∷ m3 ∷ m4 ∷ m5 ∷ m6 ∷ m7 ∷ m8 ∷ m9 ∷ m12 ∷ lost ∷ functions ∷ upserts ∷ []

-- those that fill a chunk
abbrev pub fill_cases : List (List Line)
fill_cases = m10 ∷ m10two ∷ m11 ∷ []

abbrev pub down_cases : List (List Line)
down_cases = empty_down ∷ retired_down ∷ whole_down ∷ []

-- a remove's entry is swapped out before it looks again, and after it has published, so that its own swap finds another handle
abbrev pub former_cases : List (List Line)
former_cases = upsert_between ∷ swapped_out 0 2 ∷ swapped_out 4 1 ∷ []

abbrev pub index_cases : List (List Line)
index_cases = between ∷ []

abbrev pub end_cases : List (List Line)
end_cases = top_key ∷ to_minimum ∷ []

abbrev pub marked_cases : List (List Line)
marked_cases = base_cases ++ fill_cases ++ down_cases ++ former_cases ++ index_cases ++ end_cases
