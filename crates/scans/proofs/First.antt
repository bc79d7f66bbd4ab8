-- Laws of the walk to the first present entry of a chunk's list.
use Prim.Native.Nat.{ℕ, zero, suc, ◌≤◌, ◌<◌}
use mathlib.Core.Path.{◌≡◌, refl, sym, ap, ◌∙◌}
use mathlib.Core.Logic.{⊎_elim}
use mathlib.Core.Bool.{true, false, false≢true}
use mathlib.Core.List.Memᴰ
use mathlib.Core.List.{List, [], ◌∷◌, Memᴰ}
use native.Mathlib.Nat.{le_of_suc-le-suc, not-suc-le-zero}
use native.Mathlib.Omega.{arith}
use lib.ListN.{length}
use borrow.Author.Tests.{lt-ltb, le-ltb}
use Rattle.rules.specs.declared.Sizes.{Sizes}
use Rattle.rules.specs.declared.Entry.{Entry}
use Rattle.rules.specs.declared.ChunkNo.{ChunkNo}
use Rattle.rules.specs.declared.EntryNo.{EntryNo}
use Rattle.rules.specs.Words.{NONE}
use Rattle.rules.specs.Tables.{entry_at}
use Rattle.rules.specs.Walks.{present_from}
use Rattle.laws.specs.Counts.{Every}
use Rattle.laws.proofs.Tests.{picked}
use Rattle.views.specs.Views.{Links}
use Rattle.views.proofs.Entries.{links-above}
use Rattle.scans.specs.Scanned.{shows}

module _ (z : Sizes) (es : List Entry) (ms : List ℕ) (c : ChunkNo) (from to used : ℕ) (small : used ≤ z.entries) (sized : z.entries ≤ NONE) where
  -- one that shows, with the smallest key of those that do
  pub record FirstOf (l : List EntryNo) (e : EntryNo) : Type 0 where
    pub linked : Memᴰ e l
    pub showing : shows z es ms c from to e ≡ true
    pub least : Every (λ x. shows z es ms c from to x ≡ true → (entry_at z es c e).key ≤ (entry_at z es c x).key) l

  never : {A : Type 0} → NONE < z.entries → A
  never b = absurd (no b)
    where
      no : NONE < z.entries → ⊥
      no b = omega (arith, sized)

  -- the walk answers such a one
  pub first-hit : (fuel k : ℕ) (e : EntryNo) (l : List EntryNo) → Links z es c used k e l → (present_from z es ms c from to fuel e).0 < z.entries → FirstOf l (present_from z es ms c from to fuel e)
  unfolding Links present_from
  first-hit zero k e l h = λ b. never b
  first-hit (suc fuel) k e [] h = rw (le-ltb e.0 z.entries (omega arith)) (λ b. never b)
  first-hit (suc fuel) k e (x ∷ l) h =
      rw (h.0, lt-ltb x.0 z.entries (omega (arith, h.1)))
      (picked (λ (r : EntryNo). r.0 < z.entries → FirstOf (x ∷ l) r) (shows z es ms c from to x)
      (λ q b. record { linked = Memᴰ.head refl; showing = q; least = λ y m _. ⊎_elim (λ (p : y ≡ x). rw p (omega arith)) (λ n. later y n) (Memᴰ.cases_cons m) })
      (λ q b. on q (first-hit fuel _ _ l h.3 b)))
    where
      later : (y : EntryNo) → Memᴰ y l → (entry_at z es c x).key ≤ (entry_at z es c y).key
      later y n = omega (arith, links-above z es c used _ _ l h.3 y n)

      on : {r : EntryNo} → shows z es ms c from to x ≡ false → FirstOf l r → FirstOf (x ∷ l) r
      on {r = r} q f = record { linked = Memᴰ.tail f.linked; showing = f.showing; least = λ y m s. ⊎_elim (λ (p : y ≡ x). absurd (false≢true (sym q ∙ ap (shows z es ms c from to) (sym p) ∙ s))) (λ n. f.least y n s) (Memᴰ.cases_cons m) }

  -- or none of the list shows
  pub first-miss : (fuel k : ℕ) (e : EntryNo) (l : List EntryNo) → length l ≤ fuel → Links z es c used k e l → z.entries ≤ (present_from z es ms c from to fuel e).0 → Every (λ x. shows z es ms c from to x ≡ false) l
  unfolding Links present_from
  first-miss fuel k e [] b h = λ o x m. absurd (Memᴰ.not-nil m)
  first-miss zero k e (x ∷ l) b h = absurd (not-suc-le-zero b)
  first-miss (suc fuel) k e (x ∷ l) b h =
      rw (h.0, lt-ltb x.0 z.entries (omega (arith, h.1)))
      (picked (λ (r : EntryNo). z.entries ≤ r.0 → Every (λ y. shows z es ms c from to y ≡ false) (x ∷ l)) (shows z es ms c from to x)
      (λ q o. absurd (outside o))
      (λ q o y m. ⊎_elim (λ (p : y ≡ x). ap (shows z es ms c from to) p ∙ q) (λ n. first-miss fuel _ _ l (le_of_suc-le-suc b) h.3 o y n) (Memᴰ.cases_cons m)))
    where
      outside : z.entries ≤ x.0 → ⊥
      outside o = omega (arith, h.1)
