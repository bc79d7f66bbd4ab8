-- The rebalance asked by the count of the unused chunks.
use Prim.Native.Nat.{ℕ}
use mathlib.Core.Path.{◌≡◌, refl, sym, ap, ◌∙◌}
use mathlib.Core.Bool.{Bool, true, false}
use mathlib.Core.List.{List, [], ◌∷◌}
use lib.Dec.{leb}
use Rattle.rules.specs.declared.Sizes.{Sizes}
use Rattle.rules.specs.declared.Directory.{Directory}
use Rattle.rules.specs.declared.Chunk.{Chunk}
use Rattle.rules.specs.Words.{pick, unused}
use Rattle.rules.specs.Tables.{Tables}
use Rattle.rules.specs.Rebalance.{unused_count}
use Rattle.rules.specs.Shape.{each, rebalance_fits}
use Rattle.listed.specs.Parts.{count_of}
use Rattle.shape.specs.Parts.{fits_in, StageFits}

unused-is : (l : List Chunk) → count_of unused l ≡ unused_count l
unfolding count_of unused_count
unused-is [] = refl
unused-is (x ∷ l) = rw (unused-is l)

-- the rebalance's stage asked first, by the count of the unused
module _ (z : Sizes) (t : Tables) (d : Directory) (read : d ≡ t.directory) (n : ℕ) (fits : Bool) (asked : StageFits z d (leb 2 n) fits) (count : n ≡ count_of unused t.chunks) where
  split : rebalance_fits z t ≡ pick fits (each (fits_in d) 0 t.chunks) false
  split = rw (← read) (asked t.chunks (ap (leb 2) (sym (count ∙ unused-is _))))

  pub stage-fails : fits ≡ false → rebalance_fits z t ≡ false
  stage-fails h = split ∙ rw h

  pub stage-holds : fits ≡ true → rebalance_fits z t ≡ each (fits_in d) 0 t.chunks
  stage-holds h = split ∙ rw h
