-- A downward scan is judged pair by pair, by what holds of it at every moment.
use Prim.Native.Nat.{ℕ, ◌≤◌, ◌<◌}
use mathlib.Core.Path.{◌≡◌, refl, sym, ap, ◌∙◌}
use mathlib.Core.Logic.{⊎_elim}
use mathlib.Core.Bool.{true, false, false≢true}
use mathlib.Core.List.Memᴰ
use mathlib.Core.List.{[], Memᴰ}
use mathlib.Core.Option.{some}
use native.Mathlib.Decide.{dec_lt}
use native.Mathlib.Omega.{arith}
use Rattle.rules.specs.declared.Sizes.{Sizes}
use Rattle.rules.specs.declared.EntryNo.{EntryNo}
use Rattle.rules.specs.declared.Decision.{Decision}
use Rattle.rules.specs.declared.Report.TheVariants as report
use Rattle.rules.specs.Words.{NONE, largest, scan, scan_down}
use Rattle.rules.specs.Told.{is_answer}
use Rattle.rules.specs.Tables.{chunk, entry}
use Rattle.rules.specs.Walks.{undeleted}
use Rattle.rules.specs.Stages
use Rattle.rules.specs.Calls.{Call}
use Rattle.rules.specs.Calls.Call.{step}
use Rattle.rules.specs.Map.{lookup}
use Rattle.laws.proofs.Tests.{by-test}
use Rattle.statements.specs.Sound.{Limited}
use Rattle.statements.specs.Runs.{decides, tables_at, map_at, report_at, Working}
use Rattle.statements.specs.Answers.{GivesAt, Given, SinksAt, ScansAt}
use Rattle.simulation.proofs.Simulating.{beside-holds}
use Rattle.facts.proofs.Numbers.{number-cases, holding}
use Rattle.history.specs.Turns.{Steps}
use Rattle.history.proofs.Runs.{run-beside, tables-next}
use Rattle.scans.specs.Scanned.{Always}
use Rattle.scans.specs.Sunk.{Sinking}
use Rattle.scans.proofs.Judging.{decision, own-step, reports, unseen, undecided}
use Rattle.scans.proofs.Down.{off-present, next-in}
use Rattle.scans.proofs.Falling.{reached, kept, at, on, on-linked, on-held, SunkAt, busy, sinking, Gave, gave, gave-on, next-tables, next_row, sinks-low, sunk}

module _ (z : Sizes) (lim : Limited z) (run : ℕ → Call) (n k a f j : ℕ) where
  module _ (i₁ : ℕ) (w : Working z run n scan_down k a f j i₁) where
    abbrev h₁ : SunkAt z lim run n k a f j i₁
    h₁ = sunk z lim run n k a f j i₁ w

    is-present : (q v : ℕ) → GivesAt z run n i₁ q v → lookup (map_at z run i₁) q ≡ some v
    is-present q v g = rw (y.keyed, y.valued) at (((beside-holds z lim (run-beside z run i₁)).0 _ _).1 (off-present z lim (tables_at z run i₁) (reached z lim run n i₁) n h₁.numbered (on-held z lim run n i₁ h₁.numbered y.top top-on) y.top (on-linked z lim run n i₁ h₁.numbered y.top top-on) y.marked))
      where
        y : Gave z lim run n k a f j i₁ h₁ q v
        y = gave z lim run n k a f j i₁ h₁ q v g

        top-on : Memᴰ y.top (on z lim run n i₁)
        top-on = gave-on z lim run n k a f j i₁ h₁ y

    is-ranged : (q v : ℕ) → GivesAt z run n i₁ q v → (k ≤ q) × (q ≤ a)
    is-ranged q v g = let y = gave z lim run n k a f j i₁ h₁ q v g in let r = h₁.ranged y.top (gave-on z lim run n k a f j i₁ h₁ y) in (rw y.keyed at r.0, rw y.keyed at r.1)

    falling : (x p q v u : ℕ) → j < x → x < i₁ → GivesAt z run n x p v → GivesAt z run n i₁ q u → q < p
    falling x p q v u lo hi g g' = let y = gave z lim run n k a f j i₁ h₁ q u g' in rw y.keyed at (h₁.below y.top (gave-on z lim run n k a f j i₁ h₁ y) x p v lo hi g)

    undeciding : decides z (tables_at z run i₁) (at z lim run n i₁) ≡ false
    undeciding = rw h₁.stage refl

    module _ (own : run i₁ ≡ step n) where
      said : {y : Decision} → decision z lim run n i₁ ≡ y → is_answer (report_at z run i₁) ≡ is_answer y.report
      said is = ap is_answer (reports z lim run n i₁ (busy z lim run n k a f j i₁ h₁) own is)

      -- a step that takes one off does not answer
      takes-quiet : (e : EntryNo) → is_answer (Stages.takes_off z (tables_at z run i₁) (at z lim run n i₁) e).report ≡ false
      takes-quiet e = by-test (undeleted z (tables_at z run i₁).marks (entry z (tables_at z run i₁) (at z lim run n i₁).chunk e).handle) (λ u. rw u refl) (λ u. rw u refl)

      -- it ends where nothing is on its stack and no key in range is under the held chunk's minimum key
      pub record Ended : Type 0 where
        pub done : report_at z run i₁ ≡ report.Done
        pub empty : on z lim run n i₁ ≡ []
        pub inside : (at z lim run n i₁).chunk.0 < z.chunks
        pub lowest : (chunk (tables_at z run i₁) (at z lim run n i₁).chunk).min ≤ (at z lim run n i₁).key

      ended : is_answer (report_at z run i₁) ≡ true → Ended
      ended answered = go (sinking z lim run n k a f j i₁ h₁)
        where
          go : Sinking z (tables_at z run i₁) n (decision z lim run n i₁) (Stages.stack_then z (tables_at z run i₁) (at z lim run n i₁) n) → Ended
          go (Sinking.takes l e _ is _ _) = absurd (false≢true (sym (said is ∙ takes-quiet e) ∙ answered))
          go (Sinking.ends empty is inside lowest) = record { done = reports z lim run n i₁ (busy z lim run n k a f j i₁ h₁) own is; empty = empty; inside = inside; lowest = lowest }
          go (Sinking.fills _ is _ _) = absurd (false≢true (sym (said is) ∙ answered))

      completes : is_answer (report_at z run i₁) ≡ true → (q : ℕ) → k ≤ q → q ≤ a → q ≤ largest → Always z run n j i₁ q → Given z run n j i₁ q
      completes answered q from up _ always = ⊎_elim (λ g. g) (⊎_elim (λ lt. absurd (omega (arith, lt, from, y.lowest, h₁.key))) (λ o. absurd (Memᴰ.not-nil (rw y.empty at o.there)))) (h₁.stacked y.inside q from up always)
        where
          y : Ended
          y = ended answered

      sinks : is_answer (report_at z run i₁) ≡ false → SinksAt z run n i₁
      sinks silent = go (sinking z lim run n k a f j i₁ h₁)
        where
          b : Steps z (tables_at z run i₁) (run i₁) n
          b = own-step z lim run n i₁ (busy z lim run n k a f j i₁ h₁) own

          -- a chunk that a task at 23 does not hold is none
          none : z.chunks ≤ (at z lim run n i₁).chunk.0 → (at z lim run n i₁).chunk.0 ≡ NONE
          none o = ⊎_elim (λ i. absurd (omega (arith, i, o))) (λ e. e) (number-cases z.chunks (at z lim run n i₁).chunk.0 (holding z (tables_at z run i₁).chunks (tables_at z run i₁).entries (at z lim run n i₁) ((kept z lim run n i₁).tasks n) 23 h₁.stage (omega arith)).chunk)

          go : Sinking z (tables_at z run i₁) n (decision z lim run n i₁) (Stages.stack_then z (tables_at z run i₁) (at z lim run n i₁) n) → SinksAt z run n i₁
          go (Sinking.takes _ _ _ is Now-on less-deep) = SinksAt.takes (next_row z lim run n k a f j i₁ h₁ w.before b _ _ is _ Now-on) (rw (tables-next z run i₁, b.stack) less-deep)
          go (Sinking.ends _ is _ _) = absurd (false≢true (sym silent ∙ said is))
          go (Sinking.fills empty is higher Now-on) =
              elim (dec_lt (at z lim run n i₁).chunk.0 z.chunks) [
                | yes i ↦ SinksAt.lowers (rw (next_row z lim run n k a f j i₁ h₁ w.before b _ _ is _ Now-on, next-tables z lim run n k a f j i₁ h₁ w.before b _ _ is _ Now-on) (sinks-low z lim run n k a f j i₁ h₁ w.before b empty is higher Now-on i))
                | no out ↦ SinksAt.begins (none (omega (arith, out))) (rw (next_row z lim run n k a f j i₁ h₁ w.before b _ _ is _ Now-on) (next-in z lim (tables_at z run i₁) (reached z lim run n i₁) n h₁.numbered))
              ]

-- a scan from k to a, downward
pub scans-down : (z : Sizes) → Limited z → (run : ℕ → Call) (n k a f j i : ℕ) → Working z run n scan_down k a f j i → run i ≡ step n → ScansAt z run n scan_down k a j i
scans-down z lim run n k a f j i w own =
    record {
      present = is-present z lim run n k a f j i w;
      ranged = is-ranged z lim run n k a f j i w;
      strict = falling z lim run n k a f j i w;
      narrows = λ e. absurd (down e);
      last = λ e. absurd (down e);
      sinks = λ _. sinks z lim run n k a f j i w own;
      complete = completes z lim run n k a f j i w own;
      absent = unseen z lim run n scan_down k a f j (is-present z lim run n k a f j) i w;
      answers = λ answered. (ended z lim run n k a f j i w own answered).done;
      unchanged = undecided z lim run n scan_down k a f j (undeciding z lim run n k a f j) i w;
    }
  where
    down : scan_down ≡ scan → ⊥
    down e = omega arith
