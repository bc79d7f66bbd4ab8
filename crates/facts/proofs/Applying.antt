-- What each of the seven writes leaves, where it is allowed.
use Prim.Native.Nat.{ℕ, ◌≤◌}
use mathlib.Core.Path.{◌≡◌, refl}
use mathlib.Core.List.{Memᴰ}
use native.Mathlib.Omega.{arith}
use lib.Dec.{ltb}
use lib.ListN.{length, get_or, length-set}
use borrow.Author.Tests.{ltb-true, ltb-false}
use Rattle.rules.specs.declared.Sizes.{Sizes}
use Rattle.rules.specs.declared.ChunkNo.{ChunkNo}
use Rattle.rules.specs.declared.EntryNo.{EntryNo}
use Rattle.rules.specs.declared.Write.{Write}
use Rattle.rules.specs.declared.Write.TheVariants as write
use Rattle.rules.specs.Tables.{Tables}
use Rattle.rules.specs.Stages.{apply, apply_link}
use Rattle.laws.proofs.Tests.{picked}
use Rattle.laws.proofs.Lists.{set_keeps}
use Rattle.statements.specs.Sound.{Limited}
use Rattle.facts.specs.Facts.{listed, Tabled, Waits, Allowed}
use Rattle.facts.proofs.Writes.{Written, nothing_written, slot-written, name-written}
use Rattle.facts.proofs.Linking.{after-written, after-linked, head-written, head-linked}

-- the tables after a write
pub record Applied (z : Sizes) (s s' : Tables) : Type 0 where
  pub directory : s'.directory ≡ s.directory
  pub tasks : s'.tasks ≡ s.tasks
  pub stacks : s'.stacks ≡ s.stacks
  pub index : s'.index ≡ s.index
  pub values-sized : length s'.values ≡ length s.values
  pub marks-sized : length s'.marks ≡ length s.marks
  pub marks : ((h : ℕ) → get_or s.marks h 0 ≤ 1) → (h : ℕ) → get_or s'.marks h 0 ≤ 1
  pub written : Written z s.directory s.chunks s.entries s'.chunks s'.entries

module _ (z : Sizes) (lim : Limited z) (s : Tables) (h : Tabled z s.directory s.chunks s.entries) where
  module _ (c : ChunkNo) (e before : EntryNo) (k : ℕ) (w : Waits z s.chunks s.entries c e before k) where
    link-applied : Applied z s (apply_link z s c e before)
    link-applied =
        picked (Applied z s) (ltb before.0 z.entries)
        (λ t. record { directory = refl; tasks = refl; stacks = refl; index = refl; values-sized = refl; marks-sized = refl; marks = λ m. m; written = after-written z lim s.directory s.chunks s.entries h c e before k w (ltb-true _ _ t) })
        (λ t. record { directory = refl; tasks = refl; stacks = refl; index = refl; values-sized = refl; marks-sized = refl; marks = λ m. m; written = head-written z lim s.directory s.chunks s.entries h c e before k w (ltb-false _ _ t) })

    pub link-applied-linked : Memᴰ e (listed z (apply_link z s c e before).chunks (apply_link z s c e before).entries c)
    link-applied-linked =
        picked (λ (r : Tables). Memᴰ e (listed z r.chunks r.entries c)) (ltb before.0 z.entries)
        (λ t. after-linked z lim s.directory s.chunks s.entries h c e before k w (ltb-true _ _ t))
        (λ t. head-linked z lim s.directory s.chunks s.entries h c e before k w (ltb-false _ _ t))

  pub applied_by : (w : Write) → Allowed z s.chunks s.entries w → Applied z s (apply z s w)
  applied_by write.Nothing a = record { directory = refl; tasks = refl; stacks = refl; index = refl; values-sized = refl; marks-sized = refl; marks = λ m. m; written = nothing_written z lim s.directory s.chunks s.entries h }
  applied_by (write.Slot c k) a = record { directory = refl; tasks = refl; stacks = refl; index = refl; values-sized = refl; marks-sized = refl; marks = λ m. m; written = slot-written z lim s.directory s.chunks s.entries h c k a.0 a.1 a.2 }
  applied_by (write.Link c e before) a = link-applied c e before a.0 a.1
  applied_by (write.Fresh n) a =
      record {
        directory = refl;
        tasks = refl;
        stacks = refl;
        index = refl;
        values-sized = length-set s.values n.0 0;
        marks-sized = length-set s.marks n.0 0;
        marks = λ m. set_keeps (λ v. v ≤ 1) s.marks n.0 0 0 (omega arith) m;
        written = nothing_written z lim s.directory s.chunks s.entries h;
      }
  applied_by (write.Store n v) a =
      record { directory = refl; tasks = refl; stacks = refl; index = refl; values-sized = length-set s.values n.0 v; marks-sized = refl; marks = λ m. m; written = nothing_written z lim s.directory s.chunks s.entries h }
  applied_by (write.Delete n) a =
      record {
        directory = refl;
        tasks = refl;
        stacks = refl;
        index = refl;
        values-sized = refl;
        marks-sized = length-set s.marks n.0 1;
        marks = λ m. set_keeps (λ v. v ≤ 1) s.marks n.0 1 0 (omega arith) m;
        written = nothing_written z lim s.directory s.chunks s.entries h;
      }
  applied_by (write.Name c e n) a = record { directory = refl; tasks = refl; stacks = refl; index = refl; values-sized = refl; marks-sized = refl; marks = λ m. m; written = name-written z lim s.directory s.chunks s.entries h c e n a.0 a.1 a.2 }
