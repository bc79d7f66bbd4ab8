-- The three demands, for a reader who knows document 01. Beyond the rules (crates/rules/specs) these files, and no other, are to be believed; the rest serves proofs:
--   this file 65   crates/statements/specs/Runs.antt 60, Answers.antt 105, Sound.antt 84   crates/calls/specs/Promise.antt 60   crates/host/specs/Linked.antt 17 (lines)
-- What the code ensures is the contract of each public call (crates/directory, crates/host, crates/host_c), with no `requires`: Promise, Makes and Answered below, at the limits.
use Rattle.std.specs.Prelude.{ℕ, suc, ◌≡◌, true, length}
use mathlib.Core.List.{List, map, Memᴰ}
use Rattle.rules.specs.declared.Sizes.{Sizes}
use Rattle.rules.specs.declared.Report.{Report}
use Rattle.rules.specs.declared.Report.TheVariants as report
use Rattle.rules.specs.Words.{limits, is_scan}
use Rattle.rules.specs.Told.{told}
use Rattle.rules.specs.Tables.{Tables}
use Rattle.rules.specs.Rebalance.{Outcome, gives}
use Rattle.rules.specs.Calls.{Call, fresh, calls}
use Rattle.rules.specs.Calls.Call.{step}
use Rattle.rules.specs.Occasions.{occasions, refusal, RefusedBy}
use Rattle.rules.specs.Lines.{runs, says}
use Rattle.rules.specs.Cases.{marked_cases}
use Rattle.rules.specs.Broken.{broken_tables}
use Rattle.calls.specs.Promise.{Lending, tables_of, Obeys, Promise, Makes}
use Rattle.host.specs.Linked.{Says, Answered}
use Rattle.statements.specs.Runs.{tables_at, report_at, Working}
use Rattle.statements.specs.Answers.{AnswersAsMap, ScansAt}
use Rattle.statements.specs.Sound.{Limited, promised, SoundAt}

-- 1: each refusal has one number and one occasion, and changes nothing (save 9); a call's report and every table afterwards are determined
pub record Checks (z : Sizes) : Type 0 where
  -- on any tables a call is refused by the first occasion that it meets, with that number and the tables as they were, and by no other
  pub refused-first : (s : Tables) (c : Call) → RefusedBy s c (refusal (occasions z s c)) (calls z s c)
  -- two outcomes that a public call's promise allows are one, the report and every word; so with a linked call's number and answer
  pub determined : (rule : Tables → Outcome) (before a b : Lending) (r q : Report) → Obeys z rule before a r → Obeys z rule before b q → (r ≡ q) × (a ≡ b)
  pub linked-determined : (rule : Tables → Outcome) (before a b : Lending) (given x y : List ℕ) (m n : ℕ) →
      Answered (Obeys z rule before a) m given x before a → Answered (Obeys z rule before b) n given y before b → (m ≡ n) × (x ≡ y) × (a ≡ b)

-- a run of the code: words made by `fresh`, then calls that keep their promises; w are the words at each moment, r the reports
pub record CodeRuns (z : Sizes) (run : ℕ → Call) (w : ℕ → Lending) (r : ℕ → Report) : Type 0 where
  pub made : (before : Lending) × Makes z before (w 0) report.Done
  pub called : (i : ℕ) → Promise z (run i) (w i) (w (suc i)) (r i)

-- the same through the linked calls, each with an answer of two words; n are their numbers, a their answers
pub record LinkedRuns (z : Sizes) (run : ℕ → Call) (w : ℕ → Lending) (n : ℕ → ℕ) (a : ℕ → List ℕ) : Type 0 where
  pub made : (before : Lending) × (given : List ℕ) × (answer : List ℕ) × Answered (Makes z before (w 0)) (told report.Done).number given answer before (w 0)
  pub called : (i : ℕ) → (given : List ℕ) × (length given ≡ 2) × Answered (Promise z (run i) (w i) (w (suc i))) (n i) given (a i) (w i) (w (suc i))

-- all three, of sizes that are limited as Limited says
pub record Demands (z : Sizes) : Type 0 where
  pub checks : Checks z
  -- 2: over any run an operation answers as the sequential map does, and a scan is judged pair by pair
  pub answers : (run : ℕ → Call) → AnswersAsMap z run
  pub scans : (run : ℕ → Call) (n op k a f j i : ℕ) → is_scan op ≡ true → Working z run n op k a f j i → run i ≡ step n → ScansAt z run n op k a j i
  -- 3: at every moment of any run
  pub sound : (run : ℕ → Call) (i : ℕ) → SoundAt z run i (tables_at z run i)
  -- the code runs these runs: at every moment it has their tables, and gives their reports
  pub code : (run : ℕ → Call) (w : ℕ → Lending) (r : ℕ → Report) → CodeRuns z run w r → (i : ℕ) → (tables_of z (w i) ≡ tables_at z run i) × (r i ≡ report_at z run i)
  pub linked : (run : ℕ → Call) (w : ℕ → Lending) (n : ℕ → ℕ) (a : ℕ → List ℕ) → LinkedRuns z run w n a → (i : ℕ) → (tables_of z (w i) ≡ tables_at z run i) × Says (n i) (a i) (report_at z run i)

-- and at document 01's limits: 8 tasks, 32 chunks, 32 entries in a chunk, 560 handles
pub record Kamrduch : Type 0 where
  pub open-sizes : (z : Sizes) → Limited z → Demands z
  pub at-limits : Demands limits
  -- no insertion is refused a handle while fewer than 512 keys are present
  pub keys : promised limits ≡ 512
  -- something finishes: the marked cases, M1 to M12, three more, those of scans down, of former values, of the index and of a scan's upper end, every report and what the tables then show
  pub marked : map (runs calls (fresh limits)) marked_cases ≡ map (map says) marked_cases
  -- tables that break one clause of the shape, each clause by one of the list: every call on them is refused by 10
  pub broken : (s : Tables) → Memᴰ s broken_tables → (c : Call) → calls limits s c ≡ gives s (report.Refused 10)
