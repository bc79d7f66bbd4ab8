-- Tables that fail the shape, clause by clause (document 01, "Shape, checked by every call first"): each is a table of Unbroken.antt with one change.
-- A change is of one row, or of two where one alone would break another clause too; a number past its table is no live chunk or used entry either.
use Rattle.std.specs.Prelude.{List, [], ◌∷◌, ◌++◌, map, take, replicate}
use Rattle.rules.specs.Words.{limits, NONE, handle_no, no_entry, unused, new, retired, get, put, put_if_absent, upsert, compute, remove, scan, scan_down, idle, to_drain, to_swap, to_release}
use Rattle.rules.specs.Tables.{Tables, idle_task, empty_entry, with_tasks, with_chunks, with_entries, with_values, with_marks, with_stacks, with_index, empty_stack, empty_row, put_stack, put_mark}
use Rattle.rules.specs.Calls.{fresh}
use Rattle.rules.specs.Unbroken.{stored, inserting, removing, mixed, scanning, draining, swapping, releasing, apart, chain_of, index_is, index_row, all_indexed}
use Rattle.rules.specs.Changed.{chunk_is, status_is, frozen_is, min_is, next_is, head_is, used_is, entry_is, key_is, names_handle, names_next, task_is, stage_is, asks, argument_is, of_key, holds_chunk, holds_entry, holds_old, holds_new, published_is, swapped_is, stack_is, directory_is}

-- ---- the tables and their numbers
-- "560 handle records"
abbrev pub records_missing : List Tables
records_missing = with_values (fresh limits) (replicate 559 0) ∷ with_marks (fresh limits) (replicate 559 0) ∷ []

-- "8 tasks, 32 chunks, 32 entries in a chunk"
abbrev pub rows_missing : List Tables
rows_missing =
    with_tasks (fresh limits) (replicate 7 idle_task)
    ∷ with_chunks (fresh limits) (take 31 (fresh limits).chunks)
    ∷ with_entries (fresh limits) (replicate 1023 empty_entry)
    ∷ with_stacks (fresh limits) (replicate 7 (empty_stack limits))
    ∷ put_stack (fresh limits) 3 (replicate 31 no_entry)
    ∷ with_index (fresh limits) (take 31 (fresh limits).index)
    ∷ []

-- "each a value and a deleted mark"
abbrev pub mark_past : List Tables
mark_past = put_mark (fresh limits) (handle_no 3) 2 ∷ []

-- "each number lies in its table or is none where none is allowed": the first live chunk, a chunk's next and head
abbrev pub chunk_number_past : List Tables
chunk_number_past =
    directory_is (fresh limits) 32 idle NONE NONE NONE
    ∷ directory_is (fresh limits) NONE idle NONE NONE NONE
    ∷ chunk_is releasing 0 (next_is 32)
    ∷ chunk_is (fresh limits) 0 (head_is 32)
    ∷ []

-- "each number lies in its table or is none where none is allowed": an entry's handle and next
abbrev pub entry_number_past : List Tables
entry_number_past = entry_is stored 0 (names_handle 560) ∷ entry_is inserting 0 (names_next 32) ∷ []

-- "each number lies in its table or is none where none is allowed": what a task holds
abbrev pub held_number_past : List Tables
held_number_past =
    task_is inserting 2 (holds_chunk 32)
    ∷ task_is removing 0 (holds_entry 32)
    ∷ task_is removing 1 (holds_old 560)
    ∷ task_is inserting 4 (holds_old 560)
    ∷ task_is inserting 5 (holds_new 560)
    ∷ task_is scanning 2 (holds_chunk 32)
    ∷ stack_is scanning 0 6 32
    ∷ []

-- "each number lies in its table or is none where none is allowed": the rebalancer's chunks
abbrev pub rebalance_number_past : List Tables
rebalance_number_past =
    directory_is (fresh limits) 0 idle 32 NONE NONE
    ∷ directory_is (fresh limits) 0 idle NONE 32 NONE
    ∷ directory_is (fresh limits) 0 idle NONE NONE 32
    ∷ directory_is (fresh limits) 0 to_drain 32 NONE NONE
    ∷ directory_is draining 0 to_drain 0 32 NONE
    ∷ directory_is draining 0 to_drain 0 NONE 32
    ∷ directory_is (chunk_is swapping 0 (frozen_is 0)) 0 to_swap 32 1 NONE
    ∷ directory_is releasing 1 to_release 0 32 NONE
    ∷ directory_is releasing 1 to_release 0 1 32
    ∷ []

-- "A chunk: unused, live, new or retired; a frozen mark"
abbrev pub status_past : List Tables
status_past = chunk_is (fresh limits) 1 (status_is 4) ∷ chunk_is draining 0 (frozen_is 2) ∷ []

-- ---- the chunks
-- "used counts are at most 32"
abbrev pub used_past : List Tables
used_past = chunk_is (fresh limits) 0 (used_is 33) ∷ []

-- "linked entries are used ones"
abbrev pub linked_unused : List Tables
linked_unused = chunk_is (fresh limits) 0 (head_is 0) ∷ []

-- "unused chunks, unused slots and idle tasks hold only 0 and none": an unused chunk
abbrev pub unused_chunk_holds : List Tables
unused_chunk_holds = chunk_is (fresh limits) 1 (min_is 7) ∷ chunk_is (fresh limits) 1 (next_is 0) ∷ chunk_is (fresh limits) 1 (used_is 1) ∷ []

-- "unused chunks, unused slots and idle tasks hold only 0 and none": an unused slot
abbrev pub unused_slot_holds : List Tables
unused_slot_holds = entry_is (fresh limits) 0 (key_is 7) ∷ entry_is (fresh limits) 0 (names_handle 0) ∷ entry_is (fresh limits) 0 (names_next 0) ∷ []

-- "each chunk's list ends within 32 entries": a list that goes round, whose keys then cannot ascend either
abbrev pub endless : List Tables
endless = entry_is stored 7 (names_next 7) ∷ entry_is stored 7 (names_next 0) ∷ []

-- "keys strictly ascending": equal, and falling
abbrev pub keys_not_ascending : List Tables
keys_not_ascending = entry_is stored 7 (key_is 6) ∷ entry_is stored 7 (key_is 3) ∷ []

-- "the chain from the first live chunk holds every live chunk"
abbrev pub chain_misses : List Tables
chain_misses = chunk_is (chain_of 3) 1 (next_is NONE) ∷ []

-- "and no other"
abbrev pub chain_not_live : List Tables
chain_not_live = chunk_is apart 0 (next_is 1) ∷ []

-- "from key 0"
abbrev pub chain_not_from_zero : List Tables
chain_not_from_zero = index_is (chunk_is (fresh limits) 0 (min_is 1)) 1 (index_row 1 0 ∷ []) ∷ []

-- "minimum keys strictly ascending": equal, and falling
abbrev pub chain_not_ascending : List Tables
chain_not_ascending = chunk_is (chain_of 3) 1 (min_is 2) ∷ chunk_is (chain_of 3) 1 (min_is 5) ∷ []

-- ---- the tasks
-- "unused chunks, unused slots and idle tasks hold only 0 and none": an idle task
abbrev pub idle_task_holds : List Tables
idle_task_holds =
    task_is (fresh limits) 0 (asks get 0)
    ∷ task_is (fresh limits) 0 (asks 0 1)
    ∷ task_is (fresh limits) 0 (of_key 5)
    ∷ task_is (fresh limits) 0 (argument_is 5)
    ∷ task_is (fresh limits) 0 (holds_chunk 0)
    ∷ task_is (fresh limits) 0 (holds_entry 0)
    ∷ task_is (fresh limits) 0 (holds_old 0)
    ∷ task_is (fresh limits) 0 (holds_new 0)
    ∷ task_is (fresh limits) 0 (published_is 1)
    ∷ task_is (fresh limits) 0 (swapped_is 1)
    ∷ []

-- "each stage is known"
abbrev pub stage_unknown : List Tables
stage_unknown = task_is scanning 2 (stage_is 24) ∷ []

-- "holds what the stage list says": a chunk at 1, none at 2
abbrev pub chunk_not_as_listed : List Tables
chunk_not_as_listed = task_is inserting 1 (holds_chunk 0) ∷ task_is inserting 2 (holds_chunk NONE) ∷ []

-- "holds what the stage list says": an entry at 2, none at 3
abbrev pub entry_not_as_listed : List Tables
entry_not_as_listed = task_is inserting 2 (holds_entry 0) ∷ task_is removing 0 (holds_entry NONE) ∷ []

-- "holds what the stage list says": an old handle at 3, none at 4 and 16
abbrev pub old_not_as_listed : List Tables
old_not_as_listed = task_is removing 0 (holds_old 0) ∷ task_is removing 1 (holds_old NONE) ∷ task_is removing 2 (holds_old NONE) ∷ []

-- "holds what the stage list says": a new handle at 8, none at 9
abbrev pub new_not_as_listed : List Tables
new_not_as_listed = task_is inserting 4 (holds_new 0) ∷ task_is inserting 5 (holds_new NONE) ∷ []

-- "holds what the stage list says": published at 10, not published at 11 and 20, a mark of 2
abbrev pub published_not_as_listed : List Tables
published_not_as_listed = task_is inserting 6 (published_is 1) ∷ task_is inserting 7 (published_is 0) ∷ task_is removing 6 (published_is 0) ∷ task_is inserting 7 (published_is 2) ∷ []

-- "holds what the stage list says": an outcome at 11 and 21, one of 2 at 12
abbrev pub swapped_not_as_listed : List Tables
swapped_not_as_listed = task_is inserting 7 (swapped_is 1) ∷ task_is removing 7 (swapped_is 1) ∷ task_is mixed 1 (swapped_is 2) ∷ []

-- "holds what the stage list says": a deleted handle at 16 to 21
abbrev pub handle_undeleted : List Tables
handle_undeleted = map (λ h. put_mark removing (handle_no h) 0) (2 ∷ 3 ∷ 4 ∷ 5 ∷ 6 ∷ 7 ∷ [])

-- "fits its operation (get 1 to 4; putIfAbsent 1 to 4, 6 to 12; put, upsert 1 to 12; compute 1 to 5, 13 to 15; remove 1 to 5, 13 to 21; scan 22)", and a scan down 23
abbrev pub operation_not_of_stage : List Tables
operation_not_of_stage =
    task_is mixed 0 (asks get 0)
    ∷ task_is mixed 0 (asks put_if_absent 0)
    ∷ task_is removing 2 (asks put 0)
    ∷ task_is removing 2 (asks upsert 1)
    ∷ task_is removing 2 (asks compute 1)
    ∷ task_is inserting 3 (asks remove 0)
    ∷ task_is inserting 1 (asks scan 0)
    ∷ task_is mixed 4 (asks get 0)
    ∷ task_is inserting 1 (asks 0 0)
    ∷ task_is inserting 1 (asks scan_down 0)
    ∷ task_is mixed 4 (stage_is 23)
    ∷ task_is scanning 2 (stage_is 22)
    ∷ task_is inserting 1 (asks 9 0)
    ∷ []

-- "a function of 1 to 3 where one is used"
abbrev pub function_past : List Tables
function_past =
    task_is mixed 2 (asks compute 0)
    ∷ task_is mixed 2 (asks compute 4)
    ∷ task_is mixed 3 (asks upsert 0)
    ∷ task_is mixed 3 (asks upsert 4)
    ∷ []

-- "a held chunk is in use"
abbrev pub held_chunk_unused : List Tables
held_chunk_unused = task_is inserting 2 (holds_chunk 5) ∷ task_is scanning 2 (holds_chunk 5) ∷ []

-- "a held entry used": an unused slot has key 0
abbrev pub held_entry_unused : List Tables
held_entry_unused = task_is inserting 0 (holds_entry 6) ∷ []

-- "with the task's key"
abbrev pub held_entry_of_other : List Tables
held_entry_of_other = task_is removing 0 (of_key 6) ∷ []

-- "linked except at 7"
abbrev pub held_entry_unlinked : List Tables
held_entry_unlinked = task_is inserting 0 (stage_is 8) ∷ []

-- "its stack being linked entries of the held chunk": one that waits for its link, an unused slot
abbrev pub stack_unlinked : List Tables
stack_unlinked = stack_is scanning 0 6 8 ∷ stack_is scanning 0 6 20 ∷ []

-- "keys rising to the top": falling, and repeated
abbrev pub stack_not_rising : List Tables
stack_not_rising = stack_is (stack_is scanning 0 4 5) 0 5 4 ∷ stack_is scanning 0 6 5 ∷ []

-- and nothing past the top
abbrev pub stack_past_top : List Tables
stack_past_top = stack_is scanning 0 7 7 ∷ stack_is scanning 0 31 6 ∷ []

-- a stack is held at 23, and there with a chunk: one of an idle task, at 7, at 22, at 23 without a chunk
abbrev pub stack_not_held : List Tables
stack_not_held = stack_is scanning 3 0 0 ∷ stack_is scanning 1 0 0 ∷ stack_is mixed 4 0 0 ∷ stack_is scanning 2 0 0 ∷ []

-- ---- the rebalancer
-- "A rebalancer's chunks must fit its stage": which must be known
abbrev pub rebalance_unknown : List Tables
rebalance_unknown = directory_is releasing 1 6 0 1 NONE ∷ []

-- "A rebalancer's chunks must fit its stage": an old one from drain on, a new one from copy on
abbrev pub chunk_lacking : List Tables
chunk_lacking = directory_is (fresh limits) 0 to_drain NONE NONE NONE ∷ directory_is releasing 1 to_release 0 NONE NONE ∷ []

-- "old live and frozen until the swap, retired and frozen after it": not live, not retired
abbrev pub old_status_unfit : List Tables
old_status_unfit = directory_is releasing 1 to_drain 0 NONE NONE ∷ chunk_is releasing 0 (status_is new) ∷ []

-- "old live and frozen until the swap, retired and frozen after it": not frozen
abbrev pub old_not_frozen : List Tables
old_not_frozen = chunk_is draining 0 (frozen_is 0) ∷ chunk_is releasing 0 (frozen_is 0) ∷ []

-- "new ones new between copy and swap, live after"
abbrev pub new_status_unfit : List Tables
new_status_unfit = chunk_is swapping 1 (status_is unused) ∷ chunk_is swapping 1 (status_is retired) ∷ directory_is releasing 1 to_release 0 5 NONE ∷ directory_is releasing 1 to_release 0 1 5 ∷ []

-- "two unused before copy"
abbrev pub unused_lacking : List Tables
unused_lacking = directory_is (chunk_is (chain_of 31) 0 (frozen_is 1)) 0 to_drain 0 NONE NONE ∷ []

-- "No other is frozen, new or retired": frozen
abbrev pub other_frozen : List Tables
other_frozen = chunk_is (fresh limits) 0 (frozen_is 1) ∷ chunk_is releasing 1 (frozen_is 1) ∷ []

-- "No other is frozen, new or retired": new, and retired
abbrev pub other_new_or_retired : List Tables
other_new_or_retired = chunk_is (fresh limits) 1 (status_is new) ∷ chunk_is (fresh limits) 1 (status_is retired) ∷ []

-- "its old chunk and its new ones": no chunk is two of them
abbrev pub chunk_repeated : List Tables
chunk_repeated = directory_is releasing 1 to_release 0 1 1 ∷ directory_is releasing 1 to_release 0 0 NONE ∷ directory_is releasing 1 to_release 0 1 0 ∷ []

-- ---- the index (document 02, E3)
-- its count is of rows that there are
abbrev pub count_past : List Tables
count_past = all_indexed (chain_of 32) 33 ∷ []

-- words past the count are 0 and none
abbrev pub row_past_count : List Tables
row_past_count = index_is (fresh limits) 1 (index_row 0 0 ∷ index_row 7 NONE ∷ []) ∷ index_is (fresh limits) 1 (index_row 0 0 ∷ empty_row ∷ index_row 0 0 ∷ []) ∷ []

-- "rows ascend": equal, and falling
abbrev pub rows_not_ascending : List Tables
rows_not_ascending = index_is (chain_of 3) 2 (index_row 1 1 ∷ index_row 1 1 ∷ []) ∷ index_is (chain_of 3) 2 (index_row 1 1 ∷ index_row 0 0 ∷ []) ∷ []

-- "each names a live or retired chunk": past the table, none, an unused one, a new one
abbrev pub row_not_in_use : List Tables
row_not_in_use =
    index_is (fresh limits) 1 (index_row 0 32 ∷ [])
    ∷ index_is (fresh limits) 1 (empty_row ∷ [])
    ∷ index_is (fresh limits) 1 (index_row 0 5 ∷ [])
    ∷ index_is swapping 1 (index_row 0 1 ∷ [])
    ∷ []

-- "and has its minimum key"
abbrev pub row_of_other_key : List Tables
row_of_other_key = index_is (fresh limits) 1 (index_row 1 0 ∷ []) ∷ []

unfoldable pub broken_tables : List Tables
broken_tables =
    records_missing
    ++ rows_missing
    ++ mark_past
    ++ chunk_number_past
    ++ entry_number_past
    ++ held_number_past
    ++ rebalance_number_past
    ++ status_past
    ++ used_past
    ++ linked_unused
    ++ unused_chunk_holds
    ++ unused_slot_holds
    ++ endless
    ++ keys_not_ascending
    ++ chain_misses
    ++ chain_not_live
    ++ chain_not_from_zero
    ++ chain_not_ascending
    ++ idle_task_holds
    ++ stage_unknown
    ++ chunk_not_as_listed
    ++ entry_not_as_listed
    ++ old_not_as_listed
    ++ new_not_as_listed
    ++ published_not_as_listed
    ++ swapped_not_as_listed
    ++ handle_undeleted
    ++ operation_not_of_stage
    ++ function_past
    ++ held_chunk_unused
    ++ held_entry_unused
    ++ held_entry_of_other
    ++ held_entry_unlinked
    ++ stack_unlinked
    ++ stack_not_rising
    ++ stack_past_top
    ++ stack_not_held
    ++ rebalance_unknown
    ++ chunk_lacking
    ++ old_status_unfit
    ++ old_not_frozen
    ++ new_status_unfit
    ++ unused_lacking
    ++ other_frozen
    ++ other_new_or_retired
    ++ chunk_repeated
    ++ count_past
    ++ row_past_count
    ++ rows_not_ascending
    ++ row_not_in_use
    ++ row_of_other_key
