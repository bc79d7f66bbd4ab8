-- The shape of lent tables, test by test as the code makes them.
use Prim.Native.Nat.{ℕ, ◌+◌, ◌*◌}
use mathlib.Core.Path.{◌≡◌, sym, ap, ◌∙◌}
use mathlib.Core.Bool.{Bool, true, false, ◌&&◌}
use mathlib.Core.List.{List, [], ◌∷◌}
use lib.Dec.{eqb, leb, ltb}
use lib.ListN.{length}
use borrow.Author.Tests.{eq-eqb}
use Rattle.std.specs.List.{fold}
use Rattle.rules.specs.declared.Directory.{Directory}
use Rattle.rules.specs.Words.{pick}
use Rattle.rules.specs.Shape.{each, sized, chunk_right, chained, task_right, stack_right, rebalance_fits, index_right, shape}
use Rattle.rows.specs.declared.lent.Lent.{Lent}
use Rattle.rows.specs.Rows.{index_of, task_of, chunk_of, entry_of, stack_of}
use Rattle.rows.specs.Seen.{seen}
use Rattle.rules.proofs.Each.{each-by}
use Rattle.rows.proofs.Laws.{length-rows}
use Rattle.listed.proofs.Tests.{and_is, and-and, and-true}
use Rattle.stacked.proofs.Words.{stack-long}

-- the marks asked in one fold
marks-on : (ok : Bool) (i : ℕ) (ms : List ℕ) → fold (λ (t : Bool) (m : ℕ). t && leb m 1) ok ms ≡ pick ok (each (λ n m. leb m 1) i ms) false
unfolding each
marks-on ok i [] = sym (and-true ok)
marks-on ok i (m ∷ ms) =
    marks-on (ok && leb m 1) (i + 1) ms
    ∙ ap (λ (b : Bool). pick b (each (λ n m. leb m 1) (i + 1) ms) false) (and_is ok (leb m 1))
    ∙ and-and ok (leb m 1) (each (λ n m. leb m 1) (i + 1) ms)

pub fold-marks : (i : ℕ) (ms : List ℕ) → fold (λ (t : Bool) (m : ℕ). t && leb m 1) true ms ≡ each (λ n m. leb m 1) i ms
fold-marks i ms = marks-on true i ms

module _ (s : Lent) where
  sized-lent : sized s.z (seen s) ≡ true
  sized-lent =
      rw (
        eq-eqb (length (seen s).tasks) s.z.tasks (length-rows (task_of s.tasks.now) 0 s.z.tasks),
        eq-eqb (length (seen s).chunks) s.z.chunks (length-rows (chunk_of s.chunks.now) 0 s.z.chunks),
        eq-eqb (length (seen s).entries) (s.z.chunks * s.z.entries) (length-rows (entry_of s.entries.now) 0 (s.z.chunks * s.z.entries)),
        eq-eqb (length (seen s).values) s.z.handles s.lends.values,
        eq-eqb (length (seen s).marks) s.z.handles s.lends.marks,
        eq-eqb (length (seen s).stacks) s.z.tasks (length-rows (stack_of s.z s.tasks.now) 0 s.z.tasks),
        stacks-lent,
        eq-eqb (length (seen s).index) s.z.chunks (length-rows (index_of s.directory.now) 0 s.z.chunks),
      )
    where
      stacks-lent : each (λ n w. eqb (length w) s.z.entries) 0 (seen s).stacks ≡ true
      stacks-lent = each-by (λ n w. eqb (length w) s.z.entries) 0 (seen s).stacks [] (λ i h. eq-eqb _ s.z.entries (stack-long s i (rw length-rows at h)))

  asked : (x : Directory) → x ≡ (seen s).directory → shape s.z (seen s) ≡ pick (each (λ n m. leb m 1) 0 (seen s).marks) (pick (ltb x.first.0 s.z.chunks) (pick (each (chunk_right s.z (seen s)) 0 (seen s).chunks) (pick (chained s.z (seen s)) (pick (each (task_right s.z (seen s)) 0 (seen s).tasks) (pick (each (stack_right s.z (seen s)) 0 (seen s).tasks) (pick (rebalance_fits s.z (seen s)) (index_right s.z (seen s)) false) false) false) false) false) false) false
  unfolding shape
  asked x q = rw (q, sized-lent)

  -- by what each `&&` of the code gave
  pub shape_is : (x : Directory) → x ≡ (seen s).directory → (a b c d e f : Bool) → a ≡ pick (each (λ n m. leb m 1) 0 (seen s).marks) (ltb x.first.0 s.z.chunks) false → b ≡ pick a (each (chunk_right s.z (seen s)) 0 (seen s).chunks) false → c ≡ pick b (chained s.z (seen s)) false → d ≡ pick c (each (task_right s.z (seen s)) 0 (seen s).tasks) false → e ≡ pick d (each (stack_right s.z (seen s)) 0 (seen s).tasks) false → f ≡ pick e (rebalance_fits s.z (seen s)) false → shape s.z (seen s) ≡ pick f (index_right s.z (seen s)) false
  shape_is x q a b c d e f p₁ p₂ p₃ p₄ p₅ p₆ = asked x q ∙ joined _ _ _ _ _ _ _ _ p₁ p₂ p₃ p₄ p₅ p₆
    where
      joined : (m n o p r t u i : Bool) → a ≡ pick m n false → b ≡ pick a o false → c ≡ pick b p false → d ≡ pick c r false → e ≡ pick d t false → f ≡ pick e u false → pick m (pick n (pick o (pick p (pick r (pick t (pick u i false) false) false) false) false) false) false ≡ pick f i false
      joined m n o p r t u i h₁ h₂ h₃ h₄ h₅ h₆ = rw (h₆, h₅, h₄, h₃, h₂, h₁) (simp and-and)
