-- The occasions of refusal, in the order in which a call is tested for them, and what a refused call leaves (document 01, "Numbers of refusal").
use Rattle.std.specs.Prelude.{ℕ, zero, suc, ◌≡◌, ◌≢◌, Bool, true, not, List, [], ◌∷◌, eqb, ltb, leb}
use Rattle.rules.specs.declared.Sizes.{Sizes}
use Rattle.rules.specs.declared.Task.{Task}
use Rattle.rules.specs.declared.Entry.{Entry}
use Rattle.rules.specs.declared.Report.TheVariants as report
use Rattle.rules.specs.Words.{pick, ◌and◌, ◌or◌, handle_no, is_scan, uses_function, idle}
use Rattle.rules.specs.Tables.{Tables, idle_task, task, put_task}
use Rattle.rules.specs.Walks.{free}
use Rattle.rules.specs.Rebalance.{Outcome, unused_count}
use Rattle.rules.specs.Shape.{shape}
use Rattle.rules.specs.Calls.{Call}
use Rattle.rules.specs.Calls.Call.{start, step, begin, rebalance}

-- a number of refusal, and when it is given
pub record Occasion : Type 0 where
  pub number : ℕ
  pub when : Bool

abbrev pub refuses : ℕ → Bool → Occasion
refuses n b = record { number = n; when = b }

-- the number is one of a to b
abbrev pub among : ℕ → ℕ → ℕ → Bool
among a b n = leb a n and leb n b

-- none of the handles below h is free
unfoldable pub none_free : List Entry → List Task → ℕ → Bool
none_free es ts zero = true
none_free es ts (suc h) = let below = none_free es ts h in not (free es ts (handle_no h)) and below

module _ (z : Sizes) (s : Tables) where
  -- 1: task number 8 or more; 2: start on a task at work; 5: operation not 1 to 8, or, for upsert and compute, function not 1 to 3; 4: a scan, up or down, with lower end above the upper;
  -- 3: step of an idle task; 9: stage 8 with no free handle; 6: begin while a rebalance is under way; 7: begin with fewer than two unused chunks; 8: rebalance step while idle
  abbrev pub occasions_of : Call → List Occasion
  occasions_of (start n op k a f) =
      refuses 1 (leb z.tasks n)
      ∷ refuses 2 (not (eqb (task s n).stage 0))
      ∷ refuses 5 (not (among 1 8 op) or (uses_function op and not (among 1 3 f)))
      ∷ refuses 4 (is_scan op and ltb a k)
      ∷ []
  occasions_of (step n) =
      refuses 1 (leb z.tasks n)
      ∷ refuses 3 (eqb (task s n).stage 0)
      ∷ refuses 9 (eqb (task s n).stage 8 and none_free s.entries s.tasks z.handles)
      ∷ []
  occasions_of (begin k) =
      refuses 6 (not (eqb s.directory.stage idle))
      ∷ refuses 7 (ltb (unused_count s.chunks) 2)
      ∷ []
  occasions_of rebalance = refuses 8 (eqb s.directory.stage idle) ∷ []

  -- "10 is first always": tables fail the shape
  abbrev pub occasions : Call → List Occasion
  occasions c = refuses 10 (not (shape z s)) ∷ occasions_of c

-- the number of the first occasion that is met, or 0
unfoldable pub refusal : List Occasion → ℕ
refusal [] = 0
refusal (x ∷ l) = let on = refusal l in pick x.when x.number on

-- "Each returns its number only and changes nothing, save 9: the task becomes idle, entries stay": the outcome of a call whose refusal is n, 0 where it has none
pub record RefusedBy (s : Tables) (c : Call) (n : ℕ) (o : Outcome) : Type 0 where
  pub returns : n ≢ 0 → o.report ≡ report.Refused n
  pub accepts : n ≡ 0 → (m : ℕ) → o.report ≡ report.Refused m → ⊥
  pub leaves : n ≢ 0 → n ≢ 9 → o.tables ≡ s
  pub idles : n ≡ 9 → (t : ℕ) × (c ≡ step t) × (o.tables ≡ put_task s t idle_task)
