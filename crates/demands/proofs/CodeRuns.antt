-- The code runs the theory's run: words made by `fresh` and calls that keep their promises have at every moment the run's tables, and give its reports.
use Prim.Native.Nat.{ℕ, zero, suc}
use mathlib.Core.Path.{◌≡◌, refl, sym, ap, ◌∙◌, subst}
use mathlib.Core.Bool.{Bool, true, false}
use mathlib.Core.List.{List, [], ◌∷◌}
use native.Mathlib.Omega.{arith}
use lib.Dec.{eqb}
use lib.ListN.{length}
use borrow.Author.Tests.{eq-eqb}
use Rattle.rules.specs.declared.Sizes.{Sizes}
use Rattle.rules.specs.declared.Report.{Report}
use Rattle.rules.specs.declared.Report.TheVariants as report
use Rattle.rules.specs.Told.{Told, told}
use Rattle.rules.specs.Tables.{Tables}
use Rattle.rules.specs.Rebalance.{Outcome}
use Rattle.rules.specs.Calls.{Call, calls}
use Rattle.rules.proofs.Told.{told-injective}
use Rattle.calls.specs.Promise.{Lending, tables_of, lent, Obeys, Promise, Makes}
use Rattle.calls.proofs.Unique.{obeys-unique}
use Rattle.host.specs.Linked.{Says, Answered}
use Rattle.statements.specs.Runs.{tables_at, report_at}
use Rattle.demands.specs.Demands.{CodeRuns, LinkedRuns}

-- no words are refused by 10 that report done
done-lent : (z : Sizes) (before after : Lending) (r : Report) → Makes z before after r → (told r).number ≡ 8 → lent z before ≡ true
done-lent z before after r m e = go (lent z before) refl
  where
    go : (b : Bool) → lent z before ≡ b → lent z before ≡ true
    go true q = q
    go false q = absurd (omega (arith, e, ap (λ (t : Told). t.number) (m.refuses q).0))

module _ (z : Sizes) (run : ℕ → Call) where
  pub code : (w : ℕ → Lending) (r : ℕ → Report) → CodeRuns z run w r → (i : ℕ) → (tables_of z (w i) ≡ tables_at z run i) × (r i ≡ report_at z run i)
  unfolding tables_at
  code w r c i = ((tables i).0, told-injective _ _ ((c.called i).reports (tables i).1 ∙ ap (λ (s : Tables). told (calls z s (run i)).report) (tables i).0))
    where
      tables : (i : ℕ) → (tables_of z (w i) ≡ tables_at z run i) × (lent z (w i) ≡ true)
      tables zero = let q = done-lent z c.made.0 (w 0) report.Done c.made.1 refl in (c.made.1.leaves q, c.made.1.lends q)
      tables (suc i) = let t = tables i in ((c.called i).leaves t.1 ∙ ap (λ (s : Tables). (calls z s (run i)).tables) t.0, (c.called i).lends t.1)

  -- ---- through the linked calls
  pub linked : (w : ℕ → Lending) (n : ℕ → ℕ) (a : ℕ → List ℕ) → LinkedRuns z run w n a → (i : ℕ) → (tables_of z (w i) ≡ tables_at z run i) × Says (n i) (a i) (report_at z run i)
  linked w n a l i = ((code w reports runs i).0, subst (Says (n i) (a i)) (code w reports runs i).1 (told-to i).2)
    where
      told-to : (i : ℕ) → (r : Report) × Promise z (run i) (w i) (w (suc i)) r × Says (n i) (a i) r
      told-to i = let c = l.called i in c.2.reports (eq-eqb (length c.0) 2 c.1)

      reports : ℕ → Report
      reports i = (told-to i).0

      made : (given answer : List ℕ) → Answered (Makes z l.made.0 (w 0)) 8 given answer l.made.0 (w 0) → Makes z l.made.0 (w 0) report.Done
      made given answer m = go (eqb (length given) 2) refl
        where
          by : (r : Report) × Makes z l.made.0 (w 0) r × Says 8 answer r → Makes z l.made.0 (w 0) report.Done
          by p = subst (Makes z l.made.0 (w 0)) (told-injective p.0 report.Done (p.1.reports (done-lent z l.made.0 (w 0) p.0 p.1 (sym p.2.numbered)))) p.1

          go : (b : Bool) → eqb (length given) 2 ≡ b → Makes z l.made.0 (w 0) report.Done
          go true e = by (m.reports e)
          go false e = absurd (omega (arith, (m.refuses e).0))

      runs : CodeRuns z run w reports
      runs = record { made = (l.made.0, made l.made.1 l.made.2 l.made.3); called = λ i. (told-to i).1 }

-- two outcomes of a linked call are one
module _ (z : Sizes) (rule : Tables → Outcome) (before a b : Lending) (given x y : List ℕ) (m n : ℕ) where
  pub linked-determined : Answered (Obeys z rule before a) m given x before a → Answered (Obeys z rule before b) n given y before b → (m ≡ n) × (x ≡ y) × (a ≡ b)
  linked-determined p q = go (eqb (length given) 2) refl
    where
      same : (r s : Report) → r ≡ s → Says m x r → Says n y s → (m ≡ n) × (x ≡ y)
      same r s e v w = (v.numbered ∙ ap (λ (r : Report). (told r).number) e ∙ sym w.numbered, v.answered ∙ ap (λ (r : Report). (told r).first ∷ (told r).second ∷ []) e ∙ sym w.answered)

      by : (r : Report) × Obeys z rule before a r × Says m x r → (s : Report) × Obeys z rule before b s × Says n y s → (m ≡ n) × (x ≡ y) × (a ≡ b)
      by v w = let u = obeys-unique z rule before a b v.0 w.0 v.1 w.1 in let t = same v.0 w.0 u.0 v.2 w.2 in (t.0, t.1, u.1)

      go : (t : Bool) → eqb (length given) 2 ≡ t → (m ≡ n) × (x ≡ y) × (a ≡ b)
      go true e = by (p.reports e) (q.reports e)
      go false e = let v = p.refuses e in let w = q.refuses e in (v.0 ∙ sym w.0, v.1 ∙ sym w.1, v.2 ∙ sym w.2)
