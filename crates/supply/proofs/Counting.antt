-- Laws of counting: as many members as places at the most, and the numbers below one.
use Prim.Native.Nat.{ℕ, zero, suc, ◌≤◌, ◌<◌, suc-le-suc}
use mathlib.Core.Path.{◌≡◌, refl, sym, ap, ◌∙◌}
use mathlib.Core.Logic.{⊎_elim}
use mathlib.Core.List.Memᴰ
use mathlib.Core.List.{List, [], ◌∷◌, map, Memᴰ}
use native.Mathlib.Nat.{zero-lt-suc, not-suc-le-zero, le_of_suc-le-suc}
use native.Mathlib.Decide.{ℕ_discrete}
use native.Mathlib.Omega.{arith}
use lib.Dec.{eqb}
use lib.ListN.{length, get_or}
use borrow.Author.Tests.{eqb-true, eqb-false}
use Rattle.rules.specs.Words.{pick}
use Rattle.laws.specs.Counts.{Every, Apart}
use Rattle.laws.proofs.Tests.{picked}
use Rattle.laws.proofs.Lists.{at_most}

-- the place at which the number first stands
place_of : List ℕ → ℕ → ℕ
place_of [] h = 0
place_of (x ∷ l) h = let on = suc (place_of l h) in pick (eqb x h) 0 on

placed : (rs : List ℕ) (h : ℕ) → Memᴰ h rs → (place_of rs h < length rs) × (get_or rs (place_of rs h) 0 ≡ h)
unfolding place_of
placed [] h m = absurd (Memᴰ.not-nil m)
placed (x ∷ rs) h m =
    picked (λ (i : ℕ). (i < suc (length rs)) × (get_or (x ∷ rs) i 0 ≡ h)) (eqb x h) (λ e. (zero-lt-suc _, eqb-true _ _ e))
    (λ e. ⊎_elim (λ (q : h ≡ x). absurd (eqb-false x h e (sym q))) (λ o. let p = placed rs h o in (suc-le-suc p.0, p.1)) (Memᴰ.cases_cons m))

apart-places : (rs hs : List ℕ) → Apart (λ h. h) hs → Every (λ h. Memᴰ h rs) hs → Apart (place_of rs) hs
unfolding Apart
apart-places rs [] a m = tt
apart-places rs (x ∷ hs) a m = (
  λ y o q. a.0 y o (sym (placed rs x (m x (Memᴰ.head refl))).1 ∙ ap (λ (i : ℕ). get_or rs i 0) q ∙ (placed rs y (m y (Memᴰ.tail o))).1),
  apart-places rs hs a.1 (λ y o. m y (Memᴰ.tail o)),
)

-- numbers, no two the same, that all stand in a list are no more than the list has members
pub pigeonhole : (hs rs : List ℕ) → Apart (λ h. h) hs → Every (λ h. Memᴰ h rs) hs → length hs ≤ length rs
pigeonhole hs rs a m = at_most (place_of rs) (length rs) hs (λ h o. (placed rs h (m h o)).0) (apart-places rs hs a m)

-- what a row of a table has stands in the list of what its rows have
pub at_in : {A : Type 0} (f : A → ℕ) (l : List A) (n : ℕ) (d : A) → n < length l → Memᴰ (f (get_or l n d)) (map f l)
at_in f [] n d b = absurd (not-suc-le-zero b)
at_in f (x ∷ l) zero d b = Memᴰ.head refl
at_in f (x ∷ l) (suc n) d b = Memᴰ.tail (at_in f l n d (le_of_suc-le-suc b))

-- ---- the numbers below n
pub below : ℕ → List ℕ
below zero = []
below (suc n) = n ∷ below n

pub below_in : (n h : ℕ) → Memᴰ h (below n) → h < n
unfolding below
below_in zero h m = absurd (Memᴰ.not-nil m)
below_in (suc n) h m = ⊎_elim (λ (q : h ≡ n). omega arith) (λ o. let p = below_in n h o in omega arith) (Memᴰ.cases_cons m)

pub in-below : (n h : ℕ) → h < n → Memᴰ h (below n)
unfolding below
in-below zero h b = absurd (not-suc-le-zero b)
in-below (suc n) h b = elim (ℕ_discrete h n) [ yes q ↦ Memᴰ.head q | no ne ↦ Memᴰ.tail (in-below n h (omega arith)) ]

pub below_apart : (n : ℕ) → Apart (λ h. h) (below n)
unfolding below Apart
below_apart zero = tt
below_apart (suc n) = (λ y m q. let p = below_in n y m in omega arith, below_apart n)

pub below_length : (n : ℕ) → length (below n) ≡ n
unfolding below
below_length zero = refl
below_length (suc n) = ap suc (below_length n)
