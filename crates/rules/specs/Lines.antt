-- How a marked case is written: its calls with every report of them, and what the tables then show (document 01, "Marked cases").
use Rattle.std.specs.Prelude.{ℕ, zero, suc, ◌+◌, ◌-◌, List, [], ◌∷◌, ◌++◌, map, length, get_or}
use Rattle.rules.specs.declared.Sizes.{Sizes}
use Rattle.rules.specs.declared.Report.{Report}
use Rattle.rules.specs.declared.Report.TheVariants as report
use Rattle.rules.specs.Words.{pick, limits, chunk_no, put}
use Rattle.rules.specs.Tables.{Tables, empty_row, task, chunk, entry}
use Rattle.rules.specs.Walks.{linked}
use Rattle.rules.specs.Rebalance.{Outcome, naming_from}
use Rattle.rules.specs.Shape.{live_count, shape}
use Rattle.rules.specs.Calls.{Call}
use Rattle.rules.specs.Calls.Call.{start, step, begin, rebalance}

-- a call with its report, or a number that the tables then show
pub data Line : Type 0 where
  reports : Call → Report → Line
  shows : (Tables → ℕ) → ℕ → Line

pub data Said : Type 0 where
  heard : Report → Said
  seen : ℕ → Said

-- what a case says, line by line
abbrev pub says : Line → Said
says (reports c r) = heard r
says (shows v n) = seen n

-- what calls that are done in some way say, from the tables on
module _ (done : Sizes → Tables → Call → Outcome) where
  unfoldable pub runs : Tables → List Line → List Said
  runs s [] = []
  runs s (reports c r ∷ l) = let o = done limits s c in heard o.report ∷ runs o.tables l
  runs s (shows v n ∷ l) = seen (v s) ∷ runs s l

-- the tables have the shape
abbrev pub shaped : Line
shaped = shows (λ s. pick (shape limits s) 1 0) 1

-- ---- lines
-- so many steps of the task that each move on
unfoldable pub moves : ℕ → ℕ → List Line
moves n zero = []
moves n (suc many) = reports (step n) report.Moved ∷ moves n many

-- an operation of the task whose step of that number is its first not to move on, and reports that: its answer, or why it restarts
abbrev pub ends : ℕ → ℕ → ℕ → ℕ → ℕ → ℕ → Report → List Line
ends n op k a f steps answer = reports (start n op k a f) report.Moved ∷ moves n (steps - 1) ++ reports (step n) answer ∷ []

-- and the tables then have the shape
abbrev pub finishes : ℕ → ℕ → ℕ → ℕ → ℕ → ℕ → Report → List Line
finishes n op k a f steps answer = ends n op k a f steps answer ++ shaped ∷ []

-- an insertion alone, nine steps, and the handle that it takes at the fifth
abbrev pub takes : ℕ → ℕ → ℕ → ℕ → ℕ → Report → List Line
takes n op k a h answer =
    reports (start n op k a 0) report.Moved ∷ moves n 5 ++ shows (λ s. (task s n).new.0) h ∷ moves n 3 ++ reports (step n) answer ∷ shaped ∷ []

-- puts of the so many keys after k, each into a slot of its own
unfoldable pub puts_on : ℕ → ℕ → List Line
puts_on k zero = []
puts_on k (suc n) = puts_on k n ++ ends 0 put (k + suc n) 7 0 9 report.Absent

-- puts of the keys 1 to n
abbrev pub puts : ℕ → List Line
puts n = puts_on 0 n ++ shaped ∷ []

-- a rebalance of the chunk that has the key, through swap in
abbrev pub swaps : ℕ → List Line
swaps k = reports (begin k) report.Moved ∷ reports rebalance report.Moved ∷ reports rebalance report.Moved ∷ reports rebalance report.Moved ∷ shaped ∷ []

abbrev pub swapped : List Line
swapped = swaps 1

-- a whole rebalance of the chunk that has the key
abbrev pub rebalances : ℕ → List Line
rebalances k = swaps k ++ reports rebalance report.Moved ∷ reports rebalance report.Finished ∷ shaped ∷ []

-- puts of the so many keys after k, all into one chunk, which a rebalance then makes two
abbrev pub splits : ℕ → ℕ → List Line
splits k n = puts_on k n ++ shaped ∷ rebalances (k + n)

-- steps of task 0 that report these
abbrev pub stepping : List Report → List Line
stepping l = map (reports (step 0)) l

-- a whole scan of task 0 from k to a: its steps report these, and then it is done
abbrev pub scans : ℕ → ℕ → ℕ → List Report → List Line
scans op k a l = reports (start 0 op k a 0) report.Moved ∷ stepping (l ++ report.Done ∷ []) ++ shaped ∷ []

-- pairs of the so many keys above k, each with the value 7, falling and rising
unfoldable pub falls : ℕ → ℕ → List Report
falls k zero = []
falls k (suc many) = report.Pair (k + suc many) 7 ∷ falls k many

unfoldable pub climbs : ℕ → ℕ → List Report
climbs k zero = []
climbs k (suc many) = report.Pair (k + 1) 7 ∷ climbs (k + 1) many

-- ---- what is shown: of a chunk, of a scan, of the index
abbrev pub used : ℕ → Tables → ℕ
used c s = (chunk s (chunk_no c)).used

-- how many entries are linked
abbrev pub links : ℕ → Tables → ℕ
links c s = length (linked limits s (chunk_no c))

-- how many of them name a handle
abbrev pub naming : ℕ → Tables → ℕ
naming c s = length (naming_from limits s.entries (chunk_no c) 32 (chunk s (chunk_no c)).head)

abbrev pub min_key : ℕ → Tables → ℕ
min_key c s = (chunk s (chunk_no c)).min

abbrev pub first_key : ℕ → Tables → ℕ
first_key c s = (entry limits s (chunk_no c) (chunk s (chunk_no c)).head).key

abbrev pub lives : Tables → ℕ
lives s = live_count s.chunks

-- the cursor and the upper end of task 0's scan
abbrev pub cursor : Tables → ℕ
cursor s = (task s 0).key

abbrev pub upper_end : Tables → ℕ
upper_end s = (task s 0).argument

-- the chunk and the minimum key of its row of that number, and how many rows it has
abbrev pub row_chunk : ℕ → Tables → ℕ
row_chunk n s = (get_or s.index n empty_row).chunk.0

abbrev pub row_key : ℕ → Tables → ℕ
row_key n s = (get_or s.index n empty_row).min

abbrev pub indexed_rows : Tables → ℕ
indexed_rows s = s.directory.indexed
