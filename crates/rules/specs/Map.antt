-- The sequential ordered map: an ascending list of pairs, and what each operation answers and leaves (demand 2's "a sequential ordered map").
use Rattle.std.specs.Prelude.{ℕ, ◌+◌, ◌≤◌, List, [], ◌∷◌, eqb, ltb}
use Rattle.std.proofs.Math.Option.{Option, none, some}
use Rattle.rules.specs.declared.Report.{Report}
use Rattle.rules.specs.declared.Report.TheVariants as report
use Rattle.rules.specs.Words.{pick, get, put, put_if_absent, upsert, compute, remove}
use Rattle.rules.specs.Stages.{applied}

pub record Pair : Type 0 where
  pub key : ℕ
  pub value : ℕ

abbrev pub pair : ℕ → ℕ → Pair
pair k v = record { key = k; value = v }

abbrev pub pair_key : Pair → ℕ
pair_key x = x.key

-- the members' keys ascend strictly, from k on
unfoldable pub Ascends : {A : Type 0} → (A → ℕ) → ℕ → List A → Type 0
Ascends key k [] = Unit {0}
Ascends key k (x ∷ l) = (k ≤ key x) × Ascends key (key x + 1) l

-- the value under the key
unfoldable pub lookup : List Pair → ℕ → Option ℕ
lookup [] k = none
lookup (x ∷ m) k = let on = lookup m k in pick (eqb x.key k) (some x.value) on

-- the map with the value under the key, whatever stood there
unfoldable pub insert : List Pair → ℕ → ℕ → List Pair
insert [] k v = pair k v ∷ []
insert (x ∷ m) k v =
    let on = x ∷ insert m k v in
    pick (ltb x.key k) on (pick (eqb x.key k) (pair k v ∷ m) (pair k v ∷ x ∷ m))

-- the map without the key
unfoldable pub delete : List Pair → ℕ → List Pair
delete [] k = []
delete (x ∷ m) k = let on = x ∷ delete m k in pick (eqb x.key k) m on

-- ---- what an operation answers, and the map afterwards
pub record Effect : Type 0 where
  pub answer : Report
  pub map : List Pair

abbrev pub effect : Report → List Pair → Effect
effect r m = record { answer = r; map = m }

module _ (m : List Pair) (op k a f : ℕ) where
  -- "on an absent key"; get and remove answer absent
  abbrev pub on_absent : Effect
  on_absent =
      pick (eqb op put) (effect report.Absent (insert m k a))
      (pick (eqb op put_if_absent) (effect report.True (insert m k a))
      (pick (eqb op upsert) (effect report.Done (insert m k a))
      (pick (eqb op compute) (effect report.False m)
      (effect report.Absent m))))

  -- on a present one, with its value; put and remove answer it (document 02, E2)
  abbrev pub on_present : ℕ → Effect
  on_present v =
      pick (eqb op get) (effect (report.Value v) m)
      (pick (eqb op put) (effect (report.Value v) (insert m k a))
      (pick (eqb op put_if_absent) (effect report.False m)
      (pick (eqb op upsert) (effect report.Done (insert m k (applied f a v)))
      (pick (eqb op compute) (effect report.True (insert m k (applied f a v)))
      (effect (report.Value v) (delete m k))))))

  abbrev pub by_seen : Option ℕ → Effect
  by_seen none = on_absent
  by_seen (some v) = on_present v

-- the operation done at once on the sequential map
unfoldable pub sequential : List Pair → ℕ → ℕ → ℕ → ℕ → Effect
sequential m op k a f = by_seen m op k a f (lookup m k)
