-- What an operation on the sequential map leaves: the order, every other key, and, where it changes nothing, the map.
use Prim.Native.Nat.{ℕ, ◌≤◌}
use mathlib.Core.Path.{◌≡◌, refl, sym, ap, ◌∙◌}
use mathlib.Core.Logic.{◌≢◌}
use mathlib.Core.Bool.{true, false, true≢false}
use mathlib.Core.List.{List}
use mathlib.Core.Option.{Option, none, some}
use lib.Dec.{eqb}
use borrow.Author.Tests.{eqb-true, eqb-false}
use Rattle.rules.specs.declared.Report.{Report}
use Rattle.rules.specs.declared.Report.TheVariants as report
use Rattle.rules.specs.Words.{get, put, put_if_absent, upsert, compute, remove, inserts}
use Rattle.rules.specs.Told.{told}
use Rattle.rules.specs.Stages.{applied}
use Rattle.rules.specs.Map.{Pair, pair_key, Ascends, lookup, insert, delete, Effect, on_absent, on_present, by_seen, sequential}
use Rattle.rules.proofs.Tests.{picked, picked-by}
use Rattle.map.proofs.Laws.{ascends-insert, ascends-delete, lookup-insert-other, lookup-delete-other}

module _ (m : List Pair) (op k a f : ℕ) where
  pub on-absent : lookup m k ≡ none → sequential m op k a f ≡ on_absent m op k a f
  unfolding sequential
  on-absent e = rw e

  pub on-present : (v : ℕ) → lookup m k ≡ some v → sequential m op k a f ≡ on_present m op k a f v
  unfolding sequential
  on-present v e = rw e

  -- what holds of the map, of every insertion at the key and of the deletion of the key holds of what is left
  pub leaves : (P : List Pair → Type 0) → P m → ((v : ℕ) → P (insert m k v)) → P (delete m k) → P (sequential m op k a f).map
  unfolding sequential
  leaves P same more less = go (lookup m k)
    where
      Q : Effect → Type 0
      Q x = P x.map

      go : (o : Option ℕ) → P (by_seen m op k a f o).map
      go none = picked Q (eqb op put) (more a) (picked Q (eqb op put_if_absent) (more a) (picked Q (eqb op upsert) (more a) (picked Q (eqb op compute) same same)))
      go (some v) =
          picked Q (eqb op get) same
          (picked Q (eqb op put) (more a)
          (picked Q (eqb op put_if_absent) same
          (picked Q (eqb op upsert) (more (applied f a v)) (picked Q (eqb op compute) (more (applied f a v)) less))))

  -- the order, from any bound that the key keeps
  pub sequential-ascends : (b : ℕ) → b ≤ k → Ascends pair_key b m → Ascends pair_key b (sequential m op k a f).map
  sequential-ascends b le h = leaves (Ascends pair_key b) h (λ v. ascends-insert b k v m le h) (ascends-delete b k m h)

  pub sequential-other : (j : ℕ) → j ≢ k → lookup (sequential m op k a f).map j ≡ lookup m j
  sequential-other j ne = leaves (λ l. lookup l j ≡ lookup m j) refl (λ v. lookup-insert-other k v m j ne) (lookup-delete-other k m j ne)

  -- ---- operations that leave the map as it is
  -- get, compute and remove, and whatever else inserts nothing, on an absent key
  pub absent-leaves : inserts op ≡ false → lookup m k ≡ none → (sequential m op k a f).map ≡ m
  absent-leaves none_in e =
      ap (λ (x : Effect). x.map) (on-absent e)
      ∙ picked-by Q (eqb op put) (λ q. absurd (clash put refl q)) (λ p.
      picked-by Q (eqb op put_if_absent) (λ q. absurd (clash put_if_absent refl q)) (λ i.
      picked-by Q (eqb op upsert) (λ q. absurd (clash upsert refl q)) (λ u. picked-by Q (eqb op compute) (λ q. refl) (λ c. refl))))
    where
      Q : Effect → Type 0
      Q x = x.map ≡ m

      clash : (n : ℕ) → inserts n ≡ true → eqb op n ≡ true → ⊥
      clash n yes-in q = true≢false (sym yes-in ∙ ap inserts (sym (eqb-true op n q)) ∙ none_in)

-- on any key
pub get-leaves : (m : List Pair) (k a f : ℕ) → (sequential m get k a f).map ≡ m
unfolding sequential
get-leaves m k a f = go (lookup m k)
  where
    go : (o : Option ℕ) → (by_seen m get k a f o).map ≡ m
    go none = refl
    go (some v) = refl

pub put_if_absent-leaves : (m : List Pair) (k a f v : ℕ) → lookup m k ≡ some v → (sequential m put_if_absent k a f).map ≡ m
put_if_absent-leaves m k a f v e = ap (λ (x : Effect). x.map) (on-present m put_if_absent k a f v e)

-- ---- a remove that answers a value has found it there
pub removed-found : (m : List Pair) (k a f v : ℕ) → (sequential m remove k a f).answer ≡ report.Value v → lookup m k ≡ some v
unfolding sequential
removed-found m k a f v = go (lookup m k)
  where
    go : (o : Option ℕ) → (by_seen m remove k a f o).answer ≡ report.Value v → o ≡ some v
    go none e = absurd (eqb-false 7 6 refl (ap (λ (r : Report). (told r).number) e))
    go (some w) e = ap some (ap (λ (r : Report). (told r).first) e)
