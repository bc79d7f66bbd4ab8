-- What a host gets from a linked call: a number, and a report's two values in the two words of its answer.
use Rattle.std.specs.Prelude.{ℕ, ◌≡◌, true, false, List, [], ◌∷◌, eqb, length}
use Rattle.rules.specs.declared.Report.{Report}
use Rattle.rules.specs.Told.{told}
use Rattle.calls.specs.Promise.{Lending}

-- the number and the answer's words are what the report tells
pub record Says (number : ℕ) (answer : List ℕ) (r : Report) : Type 0 where
  pub numbered : number ≡ (told r).number
  pub answered : answer ≡ (told r).first ∷ (told r).second ∷ []

-- what a linked call ensures, by the promise of the call behind it
pub record Answered (Promised : Report → Type 0) (number : ℕ) (given answer : List ℕ) (before after : Lending) : Type 0 where
  -- an answer of another length than two words: number 0, a refusal's, with no number of refusal, since no word can hold it, and nothing changes
  pub refuses : eqb (length given) 2 ≡ false → (number ≡ 0) × (answer ≡ given) × (after ≡ before)
  -- else a report that the promise allows, told to the host
  pub reports : eqb (length given) 2 ≡ true → (r : Report) × Promised r × Says number answer r
