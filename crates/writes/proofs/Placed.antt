-- What a step decides to write can be written: its task holds the chunk and the entry that the write names.
use Prim.Native.Nat.{ℕ, ◌<◌}
use mathlib.Core.Path.{◌≡◌, refl}
use mathlib.Core.Bool.{Bool, true, false, false≢true}
use native.Mathlib.Omega.{arith}
use lib.Dec.{eqb, ltb}
use lib.ListN.{get_or}
use borrow.Author.Tests.{ltb-true}
use Rattle.rules.specs.declared.Sizes.{Sizes}
use Rattle.rules.specs.declared.Task.{Task}
use Rattle.rules.specs.declared.HandleNo.{HandleNo}
use Rattle.rules.specs.declared.Write.{Write}
use Rattle.rules.specs.declared.Write.TheVariants as write
use Rattle.rules.specs.declared.Decision.{Decision}
use Rattle.rules.specs.Words.{pick, no_handle}
use Rattle.rules.specs.Tables.{Tables, chunk, entry}
use Rattle.rules.specs.Walks.{find}
use Rattle.rules.specs.Shape.{hold, stage_list}
use Rattle.rules.specs.Stages.{takes_entry, links, swaps, stage_does, decide}
use Rattle.rules.proofs.Tests.{picked, picked-by, pick_same}
use Rattle.rules.proofs.Stages.{stage_cases}
use Rattle.outcome.specs.Lengths.{Held}
use Rattle.writes.specs.Placed.{Placed}

-- ---- writes that name no chunk
plain : Write → Bool
plain write.Nothing = true
plain (write.Slot c k) = false
plain (write.Link c e below) = false
plain (write.Fresh h) = true
plain (write.Store h v) = true
plain (write.Delete h) = true
plain (write.Name c e h) = false

decided : (b : Bool) (x y : Decision) → plain (pick b x y).write ≡ pick b (plain x.write) (plain y.write)
decided true x y = refl
decided false x y = refl

ruleset plainly = (decided, pick_same)

module _ (z : Sizes) (s : Tables) where
  asks_nothing : (w : Write) → plain w ≡ true → Placed z s.chunks w
  unfolding plain
  asks_nothing write.Nothing h = tt
  asks_nothing (write.Slot c k) h = absurd (false≢true h)
  asks_nothing (write.Link c e below) h = absurd (false≢true h)
  asks_nothing (write.Fresh h) e = tt
  asks_nothing (write.Store h v) e = tt
  asks_nothing (write.Delete h) e = tt
  asks_nothing (write.Name c e h) q = absurd (false≢true q)

  -- ---- the others
  abbrev Done : Decision → Type 0
  Done x = Placed z s.chunks x.write

  module _ (t : Task) where
    takes-placed : t.chunk.0 < z.chunks → Done (takes_entry z s t)
    takes-placed c = picked Done (eqb (chunk s t.chunk).frozen 0) (picked-by Done (ltb (chunk s t.chunk).used z.entries) (λ used. (c, ltb-true _ _ used)) (λ full. tt)) tt

    links-placed : t.chunk.0 < z.chunks → t.entry.0 < z.entries → Done (links z s t)
    links-placed c e = picked Done (eqb (chunk s t.chunk).frozen 0) (picked Done (ltb (find z s t.chunk t.key).0 z.entries) tt (c, e)) tt

    swaps-placed : (h : HandleNo) → t.chunk.0 < z.chunks → t.entry.0 < z.entries → Done (swaps z s t h)
    swaps-placed h c e = picked Done (eqb (entry z s t.chunk t.entry).handle.0 t.old.0) (c, e) tt

  -- what the stage of that number decides for task number i, by a task that holds what the stage list says
  abbrev At : ℕ → Task → ℕ → Type 0
  At i t n = ((get_or stage_list n (hold 0 0 0 0 0 0)).chunk ≡ 1 → t.chunk.0 < z.chunks) → ((get_or stage_list n (hold 0 0 0 0 0 0)).entry ≡ 1 → t.entry.0 < z.entries) → Done (stage_does n i z s t)

  quiet : (i : ℕ) (t : Task) (n : ℕ) → plain (stage_does n i z s t).write ≡ true → At i t n
  quiet i t n h c e = asks_nothing (stage_does n i z s t).write h

  -- the law: what a step decides can be done
  pub placed : (i : ℕ) (t : Task) → Held z t → t.stage < 24 → Placed z s.chunks (decide z s i t).write
  unfolding stage_does plain
  placed i t held known =
      stage_cases (At i t)
      (quiet i t 0 refl)
      (quiet i t 1 refl)
      (quiet i t 2 (simp plainly))
      (quiet i t 3 (simp plainly))
      (quiet i t 4 (simp plainly))
      (quiet i t 5 (simp plainly))
      (λ c e. takes-placed t (c refl))
      (λ c e. links-placed t (c refl) (e refl))
      (quiet i t 8 (simp plainly))
      (quiet i t 9 refl)
      (quiet i t 10 (simp plainly))
      (λ c e. swaps-placed t t.new (c refl) (e refl))
      (quiet i t 12 (simp plainly))
      (quiet i t 13 (simp plainly))
      (λ c e. swaps-placed t no_handle (c refl) (e refl))
      (quiet i t 15 (simp plainly))
      (quiet i t 16 refl)
      (quiet i t 17 (simp plainly))
      (quiet i t 18 (simp plainly))
      (quiet i t 19 (simp plainly))
      (λ c e. swaps-placed t no_handle (c refl) (e refl))
      (quiet i t 21 refl)
      (quiet i t 22 (simp plainly))
      (quiet i t 23 (simp plainly))
      t.stage
      (omega arith)
      held.chunk
      held.entry
