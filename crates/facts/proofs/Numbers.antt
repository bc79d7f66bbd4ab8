-- Laws of the shape's tests on one number.
use Prim.Native.Nat.{ℕ, ◌≤◌, ◌<◌}
use mathlib.Core.Path.{◌≡◌, refl, sym, ◌∙◌}
use mathlib.Core.Logic.{◌⊎◌, ⊎_map, ◌≢◌}
use mathlib.Core.Bool.{Bool, true, false}
use mathlib.Core.List.{List, [], ◌∷◌}
use native.Mathlib.Nat.{le_trans}
use lib.Dec.{eqb, ltb}
use borrow.Author.Tests.{lt-ltb, ltb-true, eqb-true}
use Rattle.rules.specs.declared.Sizes.{Sizes}
use Rattle.rules.specs.declared.Entry.{Entry}
use Rattle.rules.specs.declared.ChunkNo.{ChunkNo}
use Rattle.rules.specs.declared.EntryNo.{EntryNo}
use Rattle.rules.specs.Words.{NONE}
use Rattle.rules.specs.Shape.{numbers, held_as}
use Rattle.laws.proofs.Tests.{picked, or_cases}
use Rattle.rules.specs.declared.Task.{Task}
use Rattle.rules.specs.declared.Chunk.{Chunk}
use Rattle.views.specs.Views.{Links}
use Rattle.facts.specs.Facts.{Holds, hold_at, Tasked}

-- a number of the table, or none
pub number_in : (size n : ℕ) → n < size → numbers size n ≡ true
number_in size n h = rw (lt-ltb n size h)

pub number-none : (size : ℕ) → numbers size NONE ≡ true
number-none size = picked (λ (b : Bool). b ≡ true) (ltb NONE size) (λ _. refl) (λ _. refl)

pub number-cases : (size n : ℕ) → numbers size n ≡ true → (n < size) ⊎ (n ≡ NONE)
number-cases size n h = ⊎_map (ltb-true n size) (eqb-true n NONE) (or_cases (ltb n size) (eqb n NONE) h)

-- what is always held lies in its table
pub held-always : (how size n : ℕ) → eqb how 0 ≡ false → eqb how 2 ≡ false → held_as how size n ≡ true → n < size
held-always how size n zero two h = ltb-true n size (rw (zero, two) at h)

-- a list's head is a used entry, or none
pub head-right : (z : Sizes) (es : List Entry) (c : ChunkNo) (used : ℕ) → used ≤ z.entries → (k : ℕ) (e : EntryNo) (l : List EntryNo) → Links z es c used k e l → numbers z.entries e.0 ≡ true
unfolding Links
head-right z es c used b k e [] h = rw (h) (number-none z.entries)
head-right z es c used b k e (x ∷ l) h = rw h.0 (number_in _ _ (le_trans h.1 b))

-- what a task at a stage holds
pub holding : (z : Sizes) (cs : List Chunk) (es : List Entry) (t : Task) → Tasked z cs es t → (n : ℕ) → t.stage ≡ n → n ≢ 0 → Holds z t (hold_at n)
holding z cs es t r n e ne = rw (← e) (r.holds (λ q. ne (sym e ∙ q)))
