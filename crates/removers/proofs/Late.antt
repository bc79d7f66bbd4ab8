-- Which decisions leave a task past 16, and which delete.
use Prim.Native.Nat.{ℕ, ◌+◌, ◌≤◌}
use mathlib.Core.Path.{sym, ◌≡◌, refl}
use mathlib.Core.Logic.{◌≢◌}
use mathlib.Core.Bool.{Bool, true}
use native.Mathlib.Omega.{arith}
use lib.Dec.{eqb, ltb, leb}
use borrow.Author.Tests.{eqb-false, eq-eqb, leb-true}
use Rattle.rules.specs.declared.Sizes.{Sizes}
use Rattle.rules.specs.declared.Task.{Task}
use Rattle.rules.specs.declared.Decision.{Decision}
use Rattle.rules.specs.declared.Write.{Write}
use Rattle.rules.specs.declared.Write.TheVariants as write
use Rattle.rules.specs.Words.{pick, ◌and◌}
use Rattle.rules.specs.Tables.{Tables, entry}
use Rattle.rules.specs.Stages
use Rattle.laws.proofs.EachStage.{each-stage, scan-cases}
use Rattle.laws.proofs.Tests.{picked, pick-of, pick_same, and_left, and_right}

-- a deleting write leaves its task at 16, holding the handle
abbrev pub sets : Task → Write → Bool
sets y write.Nothing = true
sets y (write.Slot c k) = true
sets y (write.Link c e before) = true
sets y (write.Fresh h) = true
sets y (write.Store h v) = true
sets y (write.Delete h) = eqb y.stage 16 and eqb y.old.0 h.0
sets y (write.Name c e h) = true

-- and the row is at 16 or before
abbrev early : Decision → Bool
early x = leb x.task.stage 16 and sets x.task x.write

early-of : (b : Bool) (x y : Decision) → early (pick b x y) ≡ pick b (early x) (early y)
early-of = pick-of early

before_of : (b : Bool) (m n : ℕ) → leb (pick b m n) 16 ≡ pick b (leb m 16) (leb n 16)
before_of = pick-of (λ m. leb m 16)

same : (n : ℕ) → eqb n n ≡ true
same n = eq-eqb n n refl

ruleset earlier = (early-of, before_of, same, pick_same)

module _ (z : Sizes) (s : Tables) (t : Task) where
  -- a row at 17 to 21 comes from one at 16 to 20
  pub record Late (x : Decision) : Type 0 where
    pub from : 17 ≤ x.task.stage → x.task.stage ≤ 21 → (16 ≤ t.stage) × (t.stage ≤ 20)
    pub sets : sets x.task x.write ≡ true

  low : (x : Decision) → early x ≡ true → Late x
  low x e = let le : x.task.stage ≤ 16 = leb-true _ _ (and_left _ _ e) in record { from = λ a _. (omega arith, omega arith); sets = and_right (leb x.task.stage 16) _ e }

  -- the row is one stage on; of a task that was there already
  next : {x : Decision} → x.task.stage ≡ t.stage + 1 → sets x.task x.write ≡ true → Late x
  next e w = record { from = λ a b. (omega arith, omega arith); sets = w }

  there : {x : Decision} (m : ℕ) → t.stage ≡ m → 16 ≤ m → m ≤ 20 → sets x.task x.write ≡ true → Late x
  there m e a b w = record { from = λ _ _. (omega arith, omega arith); sets = w }

  -- the row is still at its stage, which is not 21
  stayed : {x : Decision} → t.stage ≢ 21 → x.task.stage ≡ t.stage → sets x.task x.write ≡ true → Late x
  stayed ne e w = record { from = λ a b. (omega arith, omega (arith, ne)); sets = w }

  pub decides-late : (n : ℕ) → Late (Stages.decide z s n t)
  decides-late n =
      each-stage z s n t Late (record {
        locates = λ _. next refl refl;
        finds = λ _. low _ (simp earlier);
        reads = λ _. low _ (simp earlier);
        checks = λ _. low _ (simp earlier);
        applies = λ _. low _ (simp earlier);
        takes_entry = λ _. low _ (simp earlier);
        links = λ _. low _ (simp earlier);
        takes_handle = λ _. low _ (simp earlier);
        writes = λ _. low _ refl;
        publishes = λ _. picked Late (Stages.may_publish z s t) (λ _. next refl refl) (λ _. low _ (simp earlier));
        swaps = λ _. picked Late (Stages.still_names z s t) (λ _. next refl refl) (λ _. next refl refl);
        clears = λ _. picked Late (Stages.still_names z s t) (λ _. next refl refl) (λ _. next refl refl);
        ends_insertion = λ _. low _ (simp earlier);
        ends_absent = λ _. low _ (simp earlier);
        finds_again = λ e. picked Late (Stages.has_key z s t) (λ _. there 17 e (omega arith) (omega arith) refl) (λ _. low _ refl);
        reads_again = λ e. picked Late (eqb (entry z s t.chunk t.entry).handle.0 t.old.0) (λ _. there 18 e (omega arith) (omega arith) refl) (λ _. low _ refl);
        ends_remove = λ _. low _ refl;
        scans = λ e. scan-cases z s n t Late (low _ refl) (λ _ _. stayed (rw e (omega arith)) refl refl) (λ _ _ _ _. stayed (rw e (omega arith)) refl refl);
        scans_down = λ e. picked Late (ltb (Stages.top_of z s t n).0 z.entries) (λ _. stayed (rw e (omega arith)) refl refl) (λ _. picked Late (Stages.is_lowest z s t) (λ _. low _ refl) (λ _. stayed (rw e (omega arith)) (sym e) refl));
        stays = λ none. stayed (eqb-false _ _ (none 21 refl)) refl refl;
      })
