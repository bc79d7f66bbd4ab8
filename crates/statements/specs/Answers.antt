-- Demand 2: over any order of calls from fresh every finished operation answers as a sequential ordered map does, and a scan is judged pair by pair.
use Rattle.std.specs.Prelude.{ℕ, suc, ◌+◌, ◌-◌, ◌≤◌, ◌<◌, ◌≡◌, ◌⊎◌, ◌≢◌, ◌↔◌, true, false, eqb}
use Rattle.std.proofs.Math.Option.{none, some}
use Rattle.rules.specs.declared.Sizes.{Sizes}
use Rattle.rules.specs.declared.Report.{Report}
use Rattle.rules.specs.declared.Report.TheVariants as report
use Rattle.rules.specs.Words.{pick, NONE, largest, scan, scan_down, is_scan}
use Rattle.rules.specs.Tables.{stack, chunk}
use Rattle.rules.specs.Told.{is_answer}
use Rattle.rules.specs.Walks.{depth, Present}
use Rattle.rules.specs.Calls.{Call}
use Rattle.rules.specs.Calls.Call.{step}
use Rattle.rules.specs.Map.{pair_key, Ascends, lookup, effect, sequential}
use Rattle.statements.specs.Runs.{tables_at, map_at, report_at, task_at, DecidesAt, Working, Stepped}

-- an operation ends by an answer, or by refusal 9
abbrev pub EndsBy : Report → Type 0
EndsBy r = (is_answer r ≡ true) ⊎ (r ≡ report.Refused 9)

module _ (z : Sizes) (run : ℕ → Call) where
  -- task n has no deciding step after call j, up to call i
  abbrev pub NeverDecides : ℕ → ℕ → ℕ → Type 0
  NeverDecides n j i = (x : ℕ) → j < x → x ≤ i → DecidesAt z run n x → ⊥

  -- it has one, and answers what the sequential map answers there; that it has no other, and what it changes there, `once` and `changes` say
  pub record ByChange (n op k a f j i : ℕ) (answer : Report) : Type 0 where
    pub at : ℕ
    pub since : j < at
    pub to : at ≤ i
    pub decides : DecidesAt z run n at
    pub answers : (sequential (map_at z run at) op k a f).answer ≡ answer

  -- it has none, and at some moment after its first step and not after its last the sequential map answers that and stays as it is
  pub record ByLooking (n op k a f j i : ℕ) (answer : Report) : Type 0 where
    pub never : NeverDecides n j i
    pub moment : ℕ
    pub after : Stepped z run n j moment
    pub to : moment ≤ i
    pub right : sequential (map_at z run moment) op k a f ≡ effect answer (map_at z run moment)

  pub record AnswersAsMap : Type 0 where
    -- the map's pairs are the present keys with their values, at every moment, and it stays ordered, no key twice
    pub shows : (i k v : ℕ) → Present z (tables_at z run i) k v ↔ (lookup (map_at z run i) k ≡ some v)
    pub ascends : (i : ℕ) → Ascends pair_key 0 (map_at z run i)
    -- an operation at work was started by a call; it ends by a step of its own, and such a report ends it, so that none answers twice
    pub begun : (n i : ℕ) → (task_at z run i n).stage ≢ 0 → (op : ℕ) × (k : ℕ) × (a : ℕ) × (f : ℕ) × (j : ℕ) × Working z run n op k a f j i
    pub ends : (n i : ℕ) → (task_at z run i n).stage ≢ 0 → (task_at z run (suc i) n).stage ≡ 0 → (run i ≡ step n) × EndsBy (report_at z run i)
    pub over : (n i : ℕ) → (task_at z run i n).stage ≢ 0 → run i ≡ step n → EndsBy (report_at z run i) → (task_at z run (suc i) n).stage ≡ 0
    -- from its start on, whether it ends or not, it has at most one deciding step, and there the map changes by what its start call asked
    pub once : (n op k a f j i : ℕ) → Working z run n op k a f j i → DecidesAt z run n i → (x : ℕ) → j < x → x < i → DecidesAt z run n x → ⊥
    pub changes : (n op k a f j i : ℕ) → Working z run n op k a f j i → DecidesAt z run n i → map_at z run (suc i) ≡ (sequential (map_at z run i) op k a f).map
    -- its answer is the map's at that step, or, where it has none, right at some moment between its first step and its last
    pub answered : (n op k a f j i : ℕ) → Working z run n op k a f j i → is_scan op ≡ false → run i ≡ step n → is_answer (report_at z run i) ≡ true →
        ByChange n op k a f j i (report_at z run i) ⊎ ByLooking n op k a f j i (report_at z run i)
    -- "An operation ended by refusal 9 has no deciding step"
    pub unserved : (n op k a f j i : ℕ) → Working z run n op k a f j i → run i ≡ step n → report_at z run i ≡ report.Refused 9 → NeverDecides n j i

  -- ---- scans (document 01, "Scan from..to", and 000's RB1 to RB3)
  -- call i is a step of task n that reports the pair
  pub record GivesAt (n i q v : ℕ) : Type 0 where
    pub own : run i ≡ step n
    pub pair : report_at z run i ≡ report.Pair q v

  -- p is a moment from the first step that task n took after call j, to its step i
  pub record During (n j i p : ℕ) : Type 0 where
    pub first : ℕ
    pub since : j < first
    pub own : run first ≡ step n
    pub from : first ≤ p
    pub to : p ≤ i

  -- the key was given after call j and before call i
  pub record Given (n j i q : ℕ) : Type 0 where
    pub at : ℕ
    pub value : ℕ
    pub since : j < at
    pub before : at < i
    pub gives : GivesAt n at q value

  -- step i of a downward scan comes nearer to its end: it takes an entry off its stack and its row stays, or it holds its first chunk, or one with a lower minimum key
  pub data SinksAt (n i : ℕ) : Type 0 where
    takes : task_at z run (suc i) n ≡ task_at z run i n → depth z (stack (tables_at z run (suc i)) n) < depth z (stack (tables_at z run i) n) → SinksAt n i
    begins : (task_at z run i n).chunk.0 ≡ NONE → (task_at z run (suc i) n).chunk.0 < z.chunks → SinksAt n i
    lowers : (chunk (tables_at z run (suc i)) (task_at z run (suc i) n).chunk).min < (chunk (tables_at z run i) (task_at z run i n).chunk).min → SinksAt n i

  -- how many keys are left to an upward scan of task n at moment i, from its cursor to its upper end
  abbrev pub left : ℕ → ℕ → ℕ
  left n i = (task_at z run i n).argument + 1 - (task_at z run i n).key

  -- of step i of a scan, up or down, from k to a on task n that call j started
  pub record ScansAt (n op k a j i : ℕ) : Type 0 where
    -- a pair is present at its step, with that value; its key lies in the range, whose ends both count; "keys ascend strictly", downward "with falling keys"
    pub present : (q v : ℕ) → GivesAt n i q v → lookup (map_at z run i) q ≡ some v
    pub ranged : (q v : ℕ) → GivesAt n i q v → (k ≤ q) × (q ≤ a)
    pub strict : (x p q v w : ℕ) → j < x → x < i → GivesAt n x p v → GivesAt n i q w → pick (eqb op scan_down) (q < p) (p < q)
    -- a step that gives a pair or moves on leaves fewer keys to an upward scan, and none where the pair is at the largest key, so that the next step ends it; it brings a downward one nearer to its end
    pub narrows : op ≡ scan → is_answer (report_at z run i) ≡ false → left n (suc i) < left n i
    pub last : op ≡ scan → (v : ℕ) → GivesAt n i largest v → left n (suc i) ≡ 0
    pub sinks : op ≡ scan_down → is_answer (report_at z run i) ≡ false → SinksAt n i
    -- at its end a key in range, of 64 bits, that is present at every moment from its first step to its last has been given; one absent at every such moment never is
    pub complete : is_answer (report_at z run i) ≡ true → (q : ℕ) → k ≤ q → q ≤ a → q ≤ largest → ((p : ℕ) → During n j i p → lookup (map_at z run p) q ≢ none) → Given n j i q
    pub absent : (q : ℕ) → ((p : ℕ) → During n j i p → lookup (map_at z run p) q ≡ none) → Given n j i q → ⊥
    -- it answers done, and changes nothing
    pub answers : is_answer (report_at z run i) ≡ true → report_at z run i ≡ report.Done
    pub unchanged : NeverDecides n j i
