-- Handles do not run out: of any handles at most so many are taken, and no insertion is refused one while fewer keys are present than promised.
use Prim.Native.Nat.{ℕ, ◌≤◌, ◌<◌}
use mathlib.Core.Path.{◌≡◌, sym, ap, ◌∙◌}
use mathlib.Core.Logic.{◌≢◌}
use mathlib.Core.Bool.{true, not}
use mathlib.Core.List.{List, [], ◌∷◌}
use native.Mathlib.Nat.{le_refl}
use native.Mathlib.Omega.{arith}
use native.Mathlib.Decide.{ℕ_discrete}
use lib.Dec.{eqb, leb}
use lib.ListN.{length}
use Rattle.rules.specs.declared.Sizes.{Sizes}
use Rattle.rules.specs.declared.Report.TheVariants as report
use Rattle.rules.specs.Words.{◌and◌}
use Rattle.rules.specs.Tables.{Tables, task}
use Rattle.rules.specs.Shape.{shape}
use Rattle.rules.specs.Calls.{calls}
use Rattle.rules.specs.Calls.Call.{step}
use Rattle.rules.specs.Occasions.{refusal, occasions, none_free, RefusedBy}
use Rattle.rules.specs.Told.{told}
use Rattle.rules.specs.Map.{Pair}
use Rattle.rules.proofs.Free.{none_free_lem}
use Rattle.rules.proofs.Refusals.{refusals}
use Rattle.laws.proofs.Tests.{picked, and_right}
use Rattle.statements.specs.Sound.{Limited, promised}
use Rattle.facts.proofs.Reaching.{reached-kept}
use Rattle.holds.proofs.Unlinked.{reached-unlinked}
use Rattle.simulation.proofs.Keeping.{reached-copied}
use Rattle.simulation.proofs.Living.{reached-lively}
use Rattle.simulation.proofs.Simulating.{beside-reached, beside-holds}
use Rattle.simulation.specs.Beside.{Beside}
use Rattle.removers.proofs.Removing.{reached-removers}
use Rattle.supply.specs.Counting.{one_of, handle_under, keys_in, TakenMost}
use Rattle.supply.proofs.Counting.{pigeonhole, below, below_in, below_apart, below_length}
use Rattle.supply.proofs.Reasons.{reasons, reason, reasons-length}

-- a call that answers 9 is a step at which no handle is free
none_left : (z : Sizes) (lim : Limited z) (s : Tables) (n : ℕ) → (calls z s (step n)).report ≡ report.Refused 9 → none_free s.entries s.tasks z.handles ≡ true
unfolding refusal
none_left z lim s n e = from (number (refusals z s (step n) lim.handles))
  where
    number : RefusedBy s (step n) (refusal (occasions z s (step n))) (calls z s (step n)) → refusal (occasions z s (step n)) ≡ 9
    number a = elim (ℕ_discrete (refusal (occasions z s (step n))) 0) [ yes q ↦ absurd (a.accepts q 9 e) | no ne ↦ ap (λ r. (told r).first) (sym (a.returns ne) ∙ e) ]

    Left : ℕ → Type 0
    Left r = r ≡ 9 → none_free s.entries s.tasks z.handles ≡ true

    from : Left (refusal (occasions z s (step n)))
    from =
        picked Left (not (shape z s)) (λ _ q. absurd (omega arith))
        (λ _. picked Left (leb z.tasks n) (λ _ q. absurd (omega arith))
        (λ _. picked Left (eqb (task s n).stage 0) (λ _ q. absurd (omega arith))
        (λ _. picked Left (eqb (task s n).stage 8 and none_free s.entries s.tasks z.handles) (λ b _. and_right (eqb (task s n).stage 8) _ b) (λ _ q. absurd (omega arith)))))

-- the pairs of some keys are no more than all pairs
keys-most : (z : Sizes) (s : Tables) (hs : List ℕ) (m : List Pair) → length (keys_in z s hs m) ≤ length m
unfolding keys_in
keys-most z s hs [] = le_refl 0
keys-most z s hs (x ∷ m) = picked (λ (l : List Pair). length l ≤ length (x ∷ m)) (one_of hs (handle_under z s x.key)) (λ _. omega (arith, keys-most z s hs m)) (λ _. omega (arith, keys-most z s hs m))

module _ (z : Sizes) (lim : Limited z) where
  pub taken-most : TakenMost z
  taken-most =
      record {
        taken-most = λ s m b hs apart taken.
            let r = beside-reached z lim b in
            let kept = reached-kept z lim r in
            rw (reasons-length z lim s kept m hs) at
            (pigeonhole hs (reasons z lim s kept m hs) apart
            (λ h o. reason z lim s kept m hs (reached-unlinked z lim r) (reached-copied z lim r) (reached-lively z lim r) (beside-holds z lim b).0 (reached-removers z lim r).deleted-held h o (taken h o)));
      }

  pub enough : (s : Tables) (m : List Pair) → Beside z s m → length m < promised z → (n : ℕ) → (calls z s (step n)).report ≢ report.Refused 9
  enough s m b few n e =
      let all = taken-most.taken-most s m b (below z.handles) (below_apart z.handles)
      (λ h o. record { inside = below_in z.handles h o; not_free = none_free_lem s.entries s.tasks z.handles (none_left z lim s n e) h (below_in z.handles h o) }) in
      omega (arith, all, few, below_length z.handles, keys-most z s (below z.handles) m)
