-- The lowest free handle: the walk over the handles finds one exactly where one is free, and then the lowest.
use Prim.Native.Nat.{ℕ, zero, suc, ◌+◌, ◌≤◌, ◌<◌}
use mathlib.Core.Path.{◌≡◌, refl, sym, ap, ◌∙◌}
use mathlib.Core.Logic.{◌≢◌}
use mathlib.Core.Bool.{Bool, true, false, not, true≢false}
use mathlib.Core.List.{List}
use native.Mathlib.Nat.{not-suc-le-zero}
use native.Mathlib.Omega.{arith}
use native.Mathlib.Decide.{ℕ_discrete}
use lib.Dec.{ltb}
use borrow.Author.Tests.{lt-ltb, le-ltb, not-true}
use Rattle.rules.specs.declared.Sizes.{Sizes}
use Rattle.rules.specs.declared.Task.{Task}
use Rattle.rules.specs.declared.Entry.{Entry}
use Rattle.rules.specs.Words.{◌and◌, NONE, handle_no, no_handle}
use Rattle.rules.specs.Tables.{Tables}
use Rattle.rules.specs.Walks.{free, free_from, lowest_free}
use Rattle.rules.specs.Occasions.{none_free}
use Rattle.rules.proofs.Tests.{and_left, and_right}

module _ (es : List Entry) (ts : List Task) where
  pub none_free_lem : (n : ℕ) → none_free es ts n ≡ true → (h : ℕ) → h < n → free es ts (handle_no h) ≡ false
  unfolding none_free
  none_free_lem zero e h b = absurd (not-suc-le-zero b)
  none_free_lem (suc n) e h b = elim (ℕ_discrete h n) [ yes q ↦ rw q (not-true _ (and_left _ _ e)) | no ne ↦ none_free_lem n (and_right (not (free es ts (handle_no n))) _ e) h (omega arith) ]

  pub some-free : (n : ℕ) → none_free es ts n ≡ false → (h : ℕ) × (h < n) × (free es ts (handle_no h) ≡ true)
  unfolding none_free
  some-free zero e = absurd (true≢false e)
  some-free (suc n) e = go (free es ts (handle_no n)) refl (some-free n)
    where
      go : (t : Bool) → free es ts (handle_no n) ≡ t → (none_free es ts n ≡ false → (h : ℕ) × (h < n) × (free es ts (handle_no h) ≡ true)) → (h : ℕ) × (h < suc n) × (free es ts (handle_no h) ≡ true)
      go true q on = (n, omega arith, q)
      go false q on = let f = on (rw q at e) in (f.0, omega arith, f.2)

  -- the walk from h on passes every handle that is not free
  pub free-none : (left h : ℕ) → ((i : ℕ) → h ≤ i → i < h + left → free es ts (handle_no i) ≡ false) → free_from es ts left h ≡ no_handle
  unfolding free_from
  free-none zero h f = refl
  free-none (suc left) h f = rw (f h (omega arith) (omega arith)) (free-none left (h + 1) (λ i a b. f i (omega arith) (omega arith)))

  -- and stops at one that is free, at the latest at any given one
  pub free-found : (left h i : ℕ) → h ≤ i → i < h + left → free es ts (handle_no i) ≡ true → ((free_from es ts left h).0 ≤ i) × (free es ts (free_from es ts left h) ≡ true)
  unfolding free_from
  free-found zero h i a b q = absurd (omega arith)
  free-found (suc left) h i a b q = go (free es ts (handle_no h)) refl (free-found left (h + 1) i)
    where
      go :
          (t : Bool) → free es ts (handle_no h) ≡ t
          → (h + 1 ≤ i → i < h + 1 + left → free es ts (handle_no i) ≡ true → ((free_from es ts left (h + 1)).0 ≤ i) × (free es ts (free_from es ts left (h + 1)) ≡ true))
          → ((free_from es ts (suc left) h).0 ≤ i) × (free es ts (free_from es ts (suc left) h) ≡ true)
      go true e on = rw e (a, e)
      go false e on = let ne : h ≢ i = λ w. true≢false (sym q ∙ ap (λ (j : ℕ). free es ts (handle_no j)) (sym w) ∙ e) in rw e (on (omega arith) (omega arith) q)

-- a handle is taken exactly where one is free, of no more handles than a machine's word counts
pub takes-free : (z : Sizes) (s : Tables) → z.handles ≤ NONE → ltb (lowest_free z s).0 z.handles ≡ not (none_free s.entries s.tasks z.handles)
takes-free z s le = go (none_free s.entries s.tasks z.handles) refl
  where
    go : (t : Bool) → none_free s.entries s.tasks z.handles ≡ t → ltb (lowest_free z s).0 z.handles ≡ not (none_free s.entries s.tasks z.handles)
    go true e = rw (e, free-none s.entries s.tasks z.handles 0 (λ i a b. none_free_lem s.entries s.tasks z.handles e i (omega arith))) (le-ltb NONE z.handles le)
    go false e =
        let f = some-free s.entries s.tasks z.handles e in
        let g = free-found s.entries s.tasks z.handles 0 f.0 (omega arith) (omega arith) f.2 in
        rw e (lt-ltb (lowest_free z s).0 z.handles (omega arith))
