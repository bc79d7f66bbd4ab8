-- The stages of a task: for each, what its row becomes, what changes elsewhere, and the report (document 01, "Stages of a task").
use Rattle.std.specs.Prelude.{ℕ, ◌+◌, ◌-◌, ◌%◌, ◌^◌, max, Bool, false, List, eqb, ltb, leb, set}
use Rattle.std.specs.Int.Bits.{bit_or}
use Rattle.rules.specs.declared.Sizes.{Sizes}
use Rattle.rules.specs.declared.Task.{Task}
use Rattle.rules.specs.declared.Chunk.{Chunk}
use Rattle.rules.specs.declared.Entry.{Entry}
use Rattle.rules.specs.declared.ChunkNo.{ChunkNo}
use Rattle.rules.specs.declared.EntryNo.{EntryNo}
use Rattle.rules.specs.declared.HandleNo.{HandleNo}
use Rattle.rules.specs.declared.Write.{Write}
use Rattle.rules.specs.declared.Write.TheVariants as write
use Rattle.rules.specs.declared.Report.{Report}
use Rattle.rules.specs.declared.Report.TheVariants as report
use Rattle.rules.specs.declared.Decision.{Decision}
use Rattle.rules.specs.Words.{pick, ◌and◌, ◌or◌, largest, no_chunk, no_entry, no_handle, entry_no, get, put, put_if_absent, upsert, compute, remove, inserts}
use Rattle.rules.specs.Tables.{Tables, idle_task, chunk, put_chunk, entry, put_entry, value, put_value, mark, put_mark, with_own, task, stack}
use Rattle.rules.specs.Walks.{locate, find, place, first_present, lowest_free, within, top, off, over, undeleted}

-- ---- a task's row afterwards
-- the operation goes on at a stage, holding what is named
abbrev pub goes_to : Task → ℕ → ChunkNo → EntryNo → HandleNo → HandleNo → ℕ → ℕ → Task
goes_to t n c e o h p w = record { stage = n; operation = t.operation; function = t.function; key = t.key; argument = t.argument; chunk = c; entry = e; old = o; new = h; published = p; swapped = w }

-- the same holds, at another stage
abbrev pub keeps : Task → ℕ → Task
keeps t n = goes_to t n t.chunk t.entry t.old t.new t.published t.swapped

-- a scan has these ends left: its cursor, and its upper end
abbrev pub with_ends : Task → ℕ → ℕ → Task
with_ends t k a = record { stage = t.stage; operation = t.operation; function = t.function; key = k; argument = a; chunk = t.chunk; entry = t.entry; old = t.old; new = t.new; published = t.published; swapped = t.swapped }

-- it goes on from another cursor
abbrev pub cursor_at : Task → ℕ → Task
cursor_at t k = with_ends t k t.argument

-- it has given the pair at a key and goes on from the next one; "a pair at the largest key ends the scan at the next step, and nothing wraps" (document 02, E5): the cursor stays there, and the upper end goes below it
abbrev pub goes_past : Task → ℕ → Task
goes_past t k = pick (ltb k largest) (cursor_at t (k + 1)) (with_ends t k (k - 1))

-- ---- a stage's outcome
abbrev pub moves : Task → Write → Decision
moves t w = record { task = t; write = w; report = report.Moved }

abbrev pub restarts : Task → Report → Decision
restarts t why = record { task = goes_to t 1 no_chunk no_entry no_handle no_handle 0 0; write = write.Nothing; report = why }

abbrev pub finishes : Write → Report → Decision
finishes w answer = record { task = idle_task; write = w; report = answer }

-- get and remove answer absent; compute answers false
abbrev pub finishes_absent : Task → Decision
finishes_absent t = finishes write.Nothing (pick (eqb t.operation compute) report.False report.Absent)

-- the functions of upsert and compute: add modulo 2^64, the larger, bitwise or
abbrev pub applied : ℕ → ℕ → ℕ → ℕ
applied f amount v = pick (eqb f 1) ((v + amount) % 2 ^ 64) (pick (eqb f 2) (max v amount) (bit_or v amount))

module _ (z : Sizes) (s : Tables) (t : Task) where
  -- ---- the tests that keep one task from another's work
  -- the held chunk is not frozen, so the task may publish on it
  abbrev pub may_publish : Bool
  may_publish = eqb (chunk s t.chunk).frozen 0

  -- the held entry still names the old handle, or none where there is none
  abbrev pub still_names : Bool
  still_names = eqb (entry z s t.chunk t.entry).handle.0 t.old.0

  -- a linked entry of the held chunk has the key
  abbrev pub has_key : Bool
  has_key = ltb (find z s t.chunk t.key).0 z.entries

  -- one has it already where the task's own entry waits to be linked
  abbrev pub has_other : Bool
  has_other = has_key

  -- the swap found another handle
  abbrev pub swap_failed : Bool
  swap_failed = eqb t.swapped 0

  -- "give back the value that stood there" (document 02, E2): a put the one that it stores over, a remove that has set its mark the one that still stands in the handle it has deleted
  abbrev pub gives_back : Write → Decision
  gives_back w = finishes w (report.Value (value s t.old))

  -- ---- the stages
  -- 1 locate, and 16 for a remove that has set its mark: the live chunk whose range has the key
  abbrev pub locates : Decision
  locates = moves (goes_to t (t.stage + 1) (locate z s t.key) no_entry t.old no_handle 0 0) write.Nothing

  -- 2 find
  abbrev pub finds : Decision
  finds =
      let e = find z s t.chunk t.key in
      pick has_key
      (moves (goes_to t 3 t.chunk e no_handle no_handle 0 0) write.Nothing)
      (pick (inserts t.operation) (moves (keeps t 6) write.Nothing) (finishes_absent t))

  -- 3 read
  abbrev pub reads : Decision
  reads =
      let h = (entry z s t.chunk t.entry).handle in
      pick (ltb h.0 z.handles)
      (moves (goes_to t 4 t.chunk t.entry h no_handle 0 0) write.Nothing)
      (pick (inserts t.operation) (moves (keeps t 8) write.Nothing) (finishes_absent t))

  -- 4 check
  abbrev pub checks : Decision
  checks =
      pick (eqb (mark s t.old) 0)
      (pick (eqb t.operation get)
      (finishes write.Nothing (report.Value (value s t.old)))
      (pick (eqb t.operation put_if_absent) (finishes write.Nothing report.False) (moves (keeps t 5) write.Nothing)))
      (pick (eqb t.operation get)
      (finishes_absent t)
      (moves (keeps t (pick (inserts t.operation) 8 13)) write.Nothing))

  -- 5 apply
  abbrev pub applies : Decision
  applies =
      pick (eqb (mark s t.old) 0)
      (pick (eqb t.operation remove)
      (moves (goes_to t 16 no_chunk no_entry t.old no_handle 0 0) (write.Delete t.old))
      (pick (eqb t.operation put)
      (gives_back (write.Store t.old t.argument))
      (finishes (write.Store t.old (applied t.function t.argument (value s t.old))) (pick (eqb t.operation compute) report.True report.Done))))
      (pick (inserts t.operation) (restarts t report.Lost) (moves (keeps t 13) write.Nothing))

  -- 6 take entry
  abbrev pub takes_entry : Decision
  takes_entry =
      pick (eqb (chunk s t.chunk).frozen 0)
      (pick (ltb (chunk s t.chunk).used z.entries)
      (moves (goes_to t 7 t.chunk (entry_no (chunk s t.chunk).used) no_handle no_handle 0 0) (write.Slot t.chunk t.key))
      (restarts t report.Full))
      (restarts t report.Frozen)

  -- 7 link
  abbrev pub links : Decision
  links =
      let other = find z s t.chunk t.key in
      let before = place z s t.chunk t.key in
      pick (eqb (chunk s t.chunk).frozen 0)
      (pick has_other
      (moves (goes_to t 8 t.chunk other no_handle no_handle 0 0) write.Nothing)
      (moves (keeps t 8) (write.Link t.chunk t.entry before)))
      (restarts t report.Frozen)

  -- 8 take handle
  abbrev pub takes_handle : Decision
  takes_handle =
      let h = lowest_free z s in
      pick (ltb h.0 z.handles)
      (moves (goes_to t 9 t.chunk t.entry t.old h 0 0) (write.Fresh h))
      (finishes write.Nothing (report.Refused 9))

  -- 9 write
  abbrev pub writes : Decision
  writes = moves (keeps t 10) (write.Store t.new t.argument)

  -- 10, 13, 19 publish: a frozen chunk sends the operation back, and a remove that has set its mark to 16
  abbrev pub publishes : Decision
  publishes =
      pick may_publish
      (moves (goes_to t (t.stage + 1) t.chunk t.entry t.old t.new 1 0) write.Nothing)
      (pick (eqb t.stage 19) (moves (goes_to t 16 no_chunk no_entry t.old no_handle 0 0) write.Nothing) (restarts t report.Frozen))

  -- 11, 14, 20 swap, to the new handle at 11 and to none at the others: only where the entry still names the old one, or none where there is none
  abbrev pub swaps : HandleNo → Decision
  swaps h =
      pick still_names
      (moves (goes_to t (t.stage + 1) t.chunk t.entry t.old t.new 1 (pick (eqb t.stage 20) 0 1)) (write.Name t.chunk t.entry h))
      (moves (keeps t (t.stage + 1)) write.Nothing)

  -- 12 unpublish: the key was absent, so a put has replaced nothing
  abbrev pub ends_insertion : Decision
  ends_insertion = pick swap_failed (restarts t report.Lost) (finishes write.Nothing (pick (eqb t.operation put) report.Absent (pick (eqb t.operation put_if_absent) report.True report.Done)))

  -- 15 unpublish
  abbrev pub ends_absent : Decision
  ends_absent = pick swap_failed (restarts t report.Lost) (finishes_absent t)

  -- 17 find again
  abbrev pub finds_again : Decision
  finds_again =
      let e = find z s t.chunk t.key in
      pick has_key
      (moves (goes_to t 18 t.chunk e t.old no_handle 0 0) write.Nothing)
      (gives_back write.Nothing)

  -- 18 read again
  abbrev pub reads_again : Decision
  reads_again = pick (eqb (entry z s t.chunk t.entry).handle.0 t.old.0) (moves (keeps t 19) write.Nothing) (gives_back write.Nothing)

  -- 21 unpublish
  abbrev pub ends_remove : Decision
  ends_remove = gives_back write.Nothing

  -- 22 scan
  abbrev pub scans : Decision
  scans =
      let c = locate z s t.key in
      let e = first_present z s c t.key t.argument in
      let x = entry z s c e in
      let pair : Decision = record { task = goes_past t x.key; write = write.Nothing; report = report.Pair x.key (value s x.handle) } in
      let on = pick (ltb (chunk s c).next.0 z.chunks) (moves (cursor_at t (chunk s (chunk s c).next).min) write.Nothing) (finishes write.Nothing report.Done) in
      let walked = pick (ltb e.0 z.entries) pair on in
      pick (ltb t.argument t.key) (finishes write.Nothing report.Done) walked

  -- 23 scan down (document 02, E1), of task number n: the entry on top of its stack
  abbrev pub top_of : ℕ → EntryNo
  top_of n = top z (stack s n)

  -- it holds a chunk, so it has filled its stack before
  abbrev pub has_filled : Bool
  has_filled = ltb t.chunk.0 z.chunks

  -- "With none below, or that minimum at or under the lower end, it finishes": a minimum of 0, which has none below, is at or under it
  abbrev pub is_lowest : Bool
  is_lowest = has_filled and leb (chunk s t.chunk).min t.key

  -- the chunk to fill from, and the key that it has: "first of the live chunk that has the upper end, later of the one next below the held chunk's minimum key"
  abbrev pub sought : ℕ
  sought = pick has_filled ((chunk s t.chunk).min - 1) t.argument

  abbrev pub next_down : ChunkNo
  next_down = locate z s sought

  -- the largest key to fill with: "in range", and later "only keys under that minimum"
  abbrev pub up_to : ℕ
  up_to = pick (ltb sought t.argument) sought t.argument

  -- "all linked entries in range", in the order of their keys
  abbrev pub fills_with : List EntryNo
  fills_with = within z s next_down t.key up_to

  -- "A step takes one entry off: a pair if that entry names an undeleted handle, else moved on"
  abbrev pub takes_off : EntryNo → Decision
  takes_off e =
      let x = entry z s t.chunk e in
      record { task = t; write = write.Nothing; report = pick (undeleted z s.marks x.handle) (report.Pair x.key (value s x.handle)) report.Moved }

  -- "A step on an empty stack fills it (moved on)"
  abbrev pub fills : Decision
  fills = moves (goes_to t 23 next_down no_entry no_handle no_handle 0 0) write.Nothing

  abbrev pub scans_down : ℕ → Decision
  scans_down n =
      let filled = fills in
      let empty = pick is_lowest (finishes write.Nothing report.Done) filled in
      pick (ltb (top_of n).0 z.entries) (takes_off (top_of n)) empty

  -- the task's stack after its step: one entry is off it, or it is filled, or it stays as it is; a scan ends on an empty one and no other stage has one, so no step clears any
  abbrev pub stack_then : ℕ → List EntryNo
  stack_then n =
      let w = stack s n in
      let less = off z w in
      let filled = over fills_with w in
      let more = pick is_lowest w filled in
      let then = pick (ltb (top_of n).0 z.entries) less more in
      pick (eqb t.stage 23) then w

  -- 0, and a number that is no stage
  abbrev pub stays : Decision
  stays = record { task = t; write = write.Nothing; report = report.Refused 3 }

-- what the stage of that number does, for task number i
unfoldable pub stage_does : ℕ → ℕ → Sizes → Tables → Task → Decision
stage_does n i =
    pick (eqb n 1 or eqb n 16) locates
    (pick (eqb n 2) finds
    (pick (eqb n 3) reads
    (pick (eqb n 4) checks
    (pick (eqb n 5) applies
    (pick (eqb n 6) takes_entry
    (pick (eqb n 7) links
    (pick (eqb n 8) takes_handle
    (pick (eqb n 9) writes
    (pick (eqb n 10 or eqb n 13 or eqb n 19) publishes
    (pick (eqb n 11) (λ z s t. swaps z s t t.new)
    (pick (eqb n 14 or eqb n 20) (λ z s t. swaps z s t no_handle)
    (pick (eqb n 12) ends_insertion
    (pick (eqb n 15) ends_absent
    (pick (eqb n 17) finds_again
    (pick (eqb n 18) reads_again
    (pick (eqb n 21) ends_remove
    (pick (eqb n 22) scans
    (pick (eqb n 23) (λ z s t. scans_down z s t i) stays))))))))))))))))))

abbrev pub decide : Sizes → Tables → ℕ → Task → Decision
decide z s n t = stage_does t.stage n z s t

-- the task's own record after its step: its row as given, and its stack
abbrev pub put_own : Sizes → Tables → ℕ → Task → Tables
put_own z s n t = with_own s (set s.tasks n t) (set s.stacks n (stack_then z s (task s n) n))

-- ---- what a write does to the tables
abbrev pub apply_slot : Sizes → Tables → ChunkNo → ℕ → Tables
apply_slot z s c k =
    let x = chunk s c in
    put_entry z
    (put_chunk s c (record { status = x.status; frozen = x.frozen; min = x.min; next = x.next; head = x.head; used = x.used + 1 }))
    c (entry_no x.used) (record { key = k; handle = no_handle; next = no_entry })

abbrev pub with_next : Entry → EntryNo → Entry
with_next x e = record { key = x.key; handle = x.handle; next = e }

abbrev pub with_handle : Entry → HandleNo → Entry
with_handle x h = record { key = x.key; handle = h; next = x.next }

abbrev pub with_head : Chunk → EntryNo → Chunk
with_head x e = record { status = x.status; frozen = x.frozen; min = x.min; next = x.next; head = e; used = x.used }

abbrev pub apply_link : Sizes → Tables → ChunkNo → EntryNo → EntryNo → Tables
apply_link z s c e before =
    let at_head = put_chunk (put_entry z s c e (with_next (entry z s c e) (chunk s c).head)) c (with_head (chunk s c) e) in
    let after = put_entry z (put_entry z s c e (with_next (entry z s c e) (entry z s c before).next)) c before (with_next (entry z s c before) e) in
    pick (ltb before.0 z.entries) after at_head

abbrev pub apply : Sizes → Tables → Write → Tables
apply z s write.Nothing = s
apply z s (write.Slot c k) = apply_slot z s c k
apply z s (write.Link c e before) = apply_link z s c e before
apply z s (write.Fresh h) = put_mark (put_value s h 0) h 0
apply z s (write.Store h v) = put_value s h v
apply z s (write.Delete h) = put_mark s h 1
apply z s (write.Name c e h) = put_entry z s c e (with_handle (entry z s c e) h)
