-- The lowest free handle: no entry names it, and no task holds it.
use Prim.Native.Nat.{ℕ, zero, suc, ◌+◌, ◌*◌, ◌≤◌, ◌<◌}
use mathlib.Core.Path.{◌≡◌, refl, sym}
use mathlib.Core.Logic.{◌≢◌}
use mathlib.Core.Bool.{Bool, true, false}
use mathlib.Core.List.{List, [], ◌∷◌}
use native.Mathlib.Nat.{not-suc-le-zero, le_of_suc-le-suc}
use native.Mathlib.Omega.{arith}
use lib.Dec.{eqb}
use lib.ListN.{length, get_or}
use borrow.Author.Tests.{eqb-false, not-true}
use Rattle.rules.specs.declared.Sizes.{Sizes}
use Rattle.rules.specs.declared.Task.{Task}
use Rattle.rules.specs.declared.Entry.{Entry}
use Rattle.rules.specs.declared.HandleNo.{HandleNo}
use Rattle.rules.specs.Words.{pick, ◌or◌, NONE, handle_no}
use Rattle.rules.specs.Tables.{Tables, idle_task, empty_entry, task, row}
use Rattle.rules.specs.Walks.{named_in, held_in, free, free_from, lowest_free}
use Rattle.laws.proofs.Tests.{picked, or_left, or_right}
use Rattle.laws.proofs.Lists.{row_within}
use Rattle.handles.specs.Owned.{Unnamed}

-- neither test passed
neither : (a b : Bool) → pick a true b ≡ false → (a ≡ false) × (b ≡ false)
neither a b h = (or_left a b h, or_right a b h)

not_named : (es : List Entry) (h : HandleNo) (i : ℕ) → named_in es h ≡ false → i < length es → (get_or es i empty_entry).handle.0 ≢ h.0
unfolding named_in
not_named [] h i n b = absurd (not-suc-le-zero b)
not_named (x ∷ es) h zero n b = eqb-false _ _ (neither (eqb x.handle.0 h.0) (named_in es h) n).0
not_named (x ∷ es) h (suc i) n b = not_named es h i (neither (eqb x.handle.0 h.0) (named_in es h) n).1 (le_of_suc-le-suc b)

not-held : (ts : List Task) (h : HandleNo) (i : ℕ) → held_in ts h ≡ false → h.0 ≢ NONE → ((get_or ts i idle_task).old.0 ≢ h.0) × ((get_or ts i idle_task).new.0 ≢ h.0)
unfolding held_in
not-held [] h i n some = (λ q. some (sym q), λ q. some (sym q))
not-held (t ∷ ts) h zero n some = let x = (neither (eqb t.old.0 h.0 or eqb t.new.0 h.0) (held_in ts h) n).0 in (eqb-false _ _ (or_left (eqb t.old.0 h.0) (eqb t.new.0 h.0) x), eqb-false _ _ (or_right (eqb t.old.0 h.0) (eqb t.new.0 h.0) x))
not-held (t ∷ ts) h (suc i) n some = not-held ts h i (neither (eqb t.old.0 h.0 or eqb t.new.0 h.0) (held_in ts h) n).1 some

-- what is found is free
free-found : (es : List Entry) (ts : List Task) (left h : ℕ) → (free_from es ts left h).0 ≢ NONE → free es ts (free_from es ts left h) ≡ true
unfolding free_from
free-found es ts zero h = λ some. absurd (some refl)
free-found es ts (suc left) h = picked (λ (r : HandleNo). r.0 ≢ NONE → free es ts r ≡ true) (free es ts (handle_no h)) (λ t _. t) (λ _. free-found es ts left (h + 1))

module _ (z : Sizes) (lim : z.handles ≤ NONE) (s : Tables) (len : length s.entries ≡ z.chunks * z.entries) (b : (lowest_free z s).0 < z.handles) where
  some : (lowest_free z s).0 ≢ NONE
  some e = omega arith

  tests : (named_in s.entries (lowest_free z s) ≡ false) × (held_in s.tasks (lowest_free z s) ≡ false)
  tests = neither _ _ (not-true _ (free-found s.entries s.tasks z.handles 0 some))

  pub free-unnamed : Unnamed z s.entries (lowest_free z s).0
  free-unnamed c e r = not_named s.entries (lowest_free z s) (row z c e) tests.0 (rw len (row_within c.0 e.0 z.chunks z.entries r.chunk r.entry))

  pub free-unheld : (m : ℕ) → ((task s m).old.0 ≢ (lowest_free z s).0) × ((task s m).new.0 ≢ (lowest_free z s).0)
  free-unheld m = not-held s.tasks (lowest_free z s) m tests.1 some
