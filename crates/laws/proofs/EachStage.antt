-- What holds of each stage's rule, or of that of the task's stage, holds of what a step decides.
use Prim.Native.Nat.{ℕ}
use mathlib.Core.Path.{◌≡◌, sym, subst}
use mathlib.Core.Logic.{⊎_map}
use mathlib.Core.Bool.{true, false, false≢true}
use lib.Dec.{eqb, ltb, leb}
use borrow.Author.Tests.{eqb-true, leb-true}
use Rattle.rules.specs.declared.Sizes.{Sizes}
use Rattle.rules.specs.declared.Task.{Task}
use Rattle.rules.specs.declared.ChunkNo.{ChunkNo}
use Rattle.rules.specs.declared.EntryNo.{EntryNo}
use Rattle.rules.specs.declared.Decision.{Decision}
use Rattle.rules.specs.declared.Write.TheVariants as write
use Rattle.rules.specs.declared.Report.TheVariants as report
use Rattle.rules.specs.Words.{◌and◌, ◌or◌, largest}
use Rattle.rules.specs.Tables.{Tables, chunk, entry, value}
use Rattle.rules.specs.Walks.{locate, first_present}
use Rattle.rules.specs.Stages
use Rattle.rules.proofs.Stages.{stage_cases}
use Rattle.laws.specs.EachStage.{EachStage}
use Rattle.laws.proofs.Tests.{picked, and_right, or_cases, or_left, or_right}

module _ (z : Sizes) (s : Tables) (n : ℕ) (t : Task) (P : Decision → Type 0) where
  pub each-stage : EachStage z s n t P → P (Stages.decide z s n t)
  unfolding Stages.stage_does
  each-stage each =
      picked Q (eqb m 1 or eqb m 16) (λ e. each.locates (⊎_map (eqb-true m 1) (eqb-true m 16) (or_cases _ _ e)))
      (λ no1. picked Q (eqb m 2) (λ e. each.finds (eqb-true m 2 e))
      (λ no2. picked Q (eqb m 3) (λ e. each.reads (eqb-true m 3 e))
      (λ no3. picked Q (eqb m 4) (λ e. each.checks (eqb-true m 4 e))
      (λ no4. picked Q (eqb m 5) (λ e. each.applies (eqb-true m 5 e))
      (λ no5. picked Q (eqb m 6) (λ e. each.takes_entry (eqb-true m 6 e))
      (λ no6. picked Q (eqb m 7) (λ e. each.links (eqb-true m 7 e))
      (λ no7. picked Q (eqb m 8) (λ e. each.takes_handle (eqb-true m 8 e))
      (λ no8. picked Q (eqb m 9) (λ e. each.writes (eqb-true m 9 e))
      (λ no9. picked Q (eqb m 10 or eqb m 13 or eqb m 19) (λ e. each.publishes (⊎_map (eqb-true m 10) (λ o. ⊎_map (eqb-true m 13) (eqb-true m 19) (or_cases _ _ o)) (or_cases _ _ e)))
      (λ no10. picked Q (eqb m 11) (λ e. each.swaps (eqb-true m 11 e))
      (λ no11. picked Q (eqb m 14 or eqb m 20) (λ e. each.clears (⊎_map (eqb-true m 14) (eqb-true m 20) (or_cases _ _ e)))
      (λ no14. picked Q (eqb m 12) (λ e. each.ends_insertion (eqb-true m 12 e))
      (λ no12. picked Q (eqb m 15) (λ e. each.ends_absent (eqb-true m 15 e))
      (λ no15. picked Q (eqb m 17) (λ e. each.finds_again (eqb-true m 17 e))
      (λ no17. picked Q (eqb m 18) (λ e. each.reads_again (eqb-true m 18 e))
      (λ no18. picked Q (eqb m 21) (λ e. each.ends_remove (eqb-true m 21 e))
      (λ no21. picked Q (eqb m 22) (λ e. each.scans (eqb-true m 22 e))
      (λ no22. picked Q (eqb m 23) (λ e. each.scans_down (eqb-true m 23 e))
      (λ no23. each.stays (λ k i. stage_cases (λ k. (leb 1 k and leb k 23) ≡ true → eqb m k ≡ false) (λ i. absurd (false≢true i))
      (λ _. or_left _ _ no1) (λ _. no2) (λ _. no3) (λ _. no4) (λ _. no5) (λ _. no6) (λ _. no7) (λ _. no8) (λ _. no9) (λ _. or_left _ _ no10) (λ _. no11) (λ _. no12) (λ _. or_left _ _ (or_right (eqb m 10) _ no10)) (λ _. or_left _ _ no14) (λ _. no15) (λ _. or_right (eqb m 1) _ no1) (λ _. no17) (λ _. no18) (λ _. or_right (eqb m 13) _ (or_right (eqb m 10) _ no10)) (λ _. or_right (eqb m 14) _ no14) (λ _. no21) (λ _. no22) (λ _. no23) k (leb-true k 23 (and_right (leb 1 k) _ i)) i))))))))))))))))))))
    where
      m : ℕ
      m = t.stage

      Q : (Sizes → Tables → Task → Decision) → Type 0
      Q f = P (f z s t)

  -- what the stage of that number decides, of a task that stands there
  pub at_stage : (m : ℕ) → t.stage ≡ m → P (Stages.stage_does m n z s t) → P (Stages.decide z s n t)
  at_stage m e = subst (λ (k : ℕ). P (Stages.stage_does k n z s t)) (sym e)

  -- a scan ends, or it moves on or gives a pair: other ends are left to it then, and all else stays
  pub scan-cases : P (Stages.finishes write.Nothing report.Done) → ((k a : ℕ) → P (Stages.moves (Stages.with_ends t k a) write.Nothing)) →
      ((k a q v : ℕ) → P (record { task = Stages.with_ends t k a; write = write.Nothing; report = report.Pair q v })) → P (Stages.scans z s t)
  scan-cases ends on pair =
      picked P (ltb t.argument t.key) (λ _. ends)
      (λ _. picked P (ltb e.0 z.entries) (λ _. picked pairs (ltb (entry z s c e).key largest) (λ _. pair _ _ _ _) (λ _. pair _ _ _ _))
      (λ _. picked P (ltb (chunk s c).next.0 z.chunks) (λ _. on _ _) (λ _. ends)))
    where
      c : ChunkNo
      c = locate z s t.key

      e : EntryNo
      e = first_present z s c t.key t.argument

      pairs : Task → Type 0
      pairs u = P (record { task = u; write = write.Nothing; report = report.Pair (entry z s c e).key (value s (entry z s c e).handle) })
