-- Tables that have the shape are ready for the rebalance's stage.
use Prim.Native.Nat.{◌<◌}
use mathlib.Core.Path.{◌≡◌, refl}
use mathlib.Core.Bool.{true, false}
use native.Mathlib.Omega.{arith}
use native.Mathlib.Nat.{zero-add}
use lib.Dec.{eqb, ltb, leb}
use lib.ListN.{length}
use borrow.Author.Tests.{ltb-true, leb-true, eqb-true, eq-eqb}
use Rattle.rules.specs.declared.Sizes.{Sizes}
use Rattle.rules.specs.Words.{◌and◌, live, idle, to_drain, to_copy, to_swap, to_index, to_release}
use Rattle.rules.specs.Tables.{Tables, chunk_at, empty_chunk}
use Rattle.rules.specs.Shape.{shape, each, is_none, chunk_fits, before_copy, after_copy}
use Rattle.rules.specs.Rebalance.{unused_count}
use Rattle.rules.proofs.Tests.{and_left, and_right}
use Rattle.rules.proofs.Each.{each_at}
use Rattle.rules.proofs.Shaped.{shape-parts}
use Rattle.rebalance.specs.Ready.{CanCopy, Ready}

module _ (z : Sizes) (s : Tables) (h : shape z s ≡ true) where
  long : length s.chunks ≡ z.chunks
  long = eqb-true _ _ (and_left _ _ (and_right (eqb (length s.tasks) z.tasks) _ (shape-parts z s h).is-sized))

  copy_parts : s.directory.stage ≡ to_copy → (before_copy z s and each (chunk_fits z s s.directory) 0 s.chunks) ≡ true
  copy_parts e =
      let no-idle : eqb s.directory.stage idle ≡ false = rw e in
      let no-drain : eqb s.directory.stage to_drain ≡ false = rw e in
      let is-copy : eqb s.directory.stage to_copy ≡ true = rw e in
      rw (no-idle, no-drain, is-copy) at (shape-parts z s h).rebalance

  can-copy : s.directory.stage ≡ to_copy → CanCopy z s.directory s.chunks
  can-copy e =
      let parts : (ltb s.directory.old.0 z.chunks and leb 2 (unused_count s.chunks)) ≡ true = and_right (is_none s.directory.new.0 and is_none s.directory.second.0) _ (and_left (before_copy z s) _ (copy_parts e)) in
      let old : s.directory.old.0 < z.chunks = ltb-true _ _ (and_left (ltb s.directory.old.0 z.chunks) _ parts) in
      let fits : chunk_fits z s s.directory s.directory.old.0 (chunk_at s.chunks s.directory.old) ≡ true = rw zero-add at (each_at (chunk_fits z s s.directory) 0 s.chunks s.directory.old.0 empty_chunk (and_right (before_copy z s) _ (copy_parts e)) (rw long old)) in
      let is-old : eqb s.directory.old.0 s.directory.old.0 ≡ true = eq-eqb s.directory.old.0 s.directory.old.0 refl in
      let no_index : leb to_index s.directory.stage ≡ false = rw e in
      let status : (chunk_at s.chunks s.directory.old).status ≡ live = eqb-true _ _ (and_right (eqb (chunk_at s.chunks s.directory.old).frozen 1) _ (rw (is-old, no_index) at fits)) in
      record { old = old; in_use = λ q. omega arith; two = leb-true _ _ (and_right (ltb s.directory.old.0 z.chunks) _ parts) }

  can-release : s.directory.stage ≡ to_release → s.directory.old.0 < z.chunks
  can-release e =
      let no-idle : eqb s.directory.stage idle ≡ false = rw e in
      let no-drain : eqb s.directory.stage to_drain ≡ false = rw e in
      let no_copy : eqb s.directory.stage to_copy ≡ false = rw e in
      let from-swap : leb to_swap s.directory.stage ≡ true = rw e in
      let to-release : leb s.directory.stage to_release ≡ true = rw e in
      ltb-true _ _ (and_left (ltb s.directory.old.0 z.chunks) _ (and_left (after_copy z s) _ (rw (no-idle, no-drain, no_copy, from-swap, to-release) at (shape-parts z s h).rebalance)))

  pub shape-ready : Ready z s.directory s.chunks
  shape-ready = record { copy = can-copy; release = can-release }
