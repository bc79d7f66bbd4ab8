-- A row of the records read and written, as rows of the tables' values and marks.
use mathlib.Core.Path.{◌≡◌, refl, sym, ap, ◌∙◌}
use Prim.Native.Nat.{ℕ, zero, suc}
use mathlib.Core.List.{List, [], ◌∷◌, map}
use lib.ListN.{get_or, set, get_or-map}
use Rattle.rules.specs.declared.HandleNo.{HandleNo}
use Rattle.rules.specs.Tables.{Tables, value, put_value, put_mark, with_values, with_marks}
use Rattle.records.specs.declared.Record.{Record}
use Rattle.records.specs.Records.{no_record, record_at, freshened, stored, marked, with_value, with_deleted, value_of, deleted_of, with_records}

-- a field of a row written anew is that field's list written there
map-set : {A B : Type 0} (f : A → B) (xs : List A) (n : ℕ) (y : A) → map f (set xs n y) ≡ set (map f xs) n (f y)
map-set f [] n y = refl
map-set f (x ∷ xs) zero y = refl
map-set f (x ∷ xs) (suc n) y = ap (λ zs. f x ∷ zs) (map-set f xs n y)

-- a field that the new row keeps is as it was in every row
map-kept : {A B : Type 0} (f : A → B) (xs : List A) (n : ℕ) (d y : A) → f y ≡ f (get_or xs n d) → map f (set xs n y) ≡ map f xs
map-kept f [] n d y e = refl
map-kept f (x ∷ xs) zero d y e = ap (λ z. z ∷ map f xs) e
map-kept f (x ∷ xs) (suc n) d y e = ap (λ zs. f x ∷ zs) (map-kept f xs n d y e)

-- the value of the handle's record is the tables' value of the handle
gives : (rs : List Record) (h : HandleNo) (r : ℕ) → r ≡ (record_at rs h).value → (s : Tables) → r ≡ value (with_records s rs) h
gives rs h r e s = e ∙ sym (get_or-map value_of rs h.0 no_record)

-- records with the handle made fresh are the tables with the value and the mark put
pub freshens : (rs : List Record) (h : HandleNo) (ws : List Record) → ws ≡ freshened rs h
    → (ws ≡ freshened rs h) × ((s : Tables) → with_records s ws ≡ put_mark (put_value (with_records s rs) h 0) h 0)
freshens rs h ws e = (
  e,
  λ s. ap (with_records s) e
      ∙ ap (λ vs. with_marks (with_values s vs) (map deleted_of (freshened rs h))) (map-set value_of rs h.0 no_record)
      ∙ ap (λ ms. with_marks (with_values s (set (map value_of rs) h.0 0)) ms) (map-set deleted_of rs h.0 no_record),
)

-- records with the value stored are the tables with the value put, and what is given back is the tables' value before
pub stores : (rs : List Record) (h : HandleNo) (v : ℕ) (ws : List Record) → ws ≡ stored rs h v → (r : ℕ) → r ≡ (record_at rs h).value
    → (ws ≡ stored rs h v) × ((s : Tables) → with_records s ws ≡ put_value (with_records s rs) h v) × (r ≡ (record_at rs h).value) × ((s : Tables) → r ≡ value (with_records s rs) h)
stores rs h v ws e r g = (
  e,
  λ s. ap (with_records s) e
      ∙ ap (λ vs. with_marks (with_values s vs) (map deleted_of (stored rs h v))) (map-set value_of rs h.0 (with_value (record_at rs h) v))
      ∙ ap (λ ms. with_marks (with_values s (set (map value_of rs) h.0 v)) ms) (map-kept deleted_of rs h.0 no_record (with_value (record_at rs h) v) refl),
  g,
  gives rs h r g,
)

-- records with the handle marked are the tables with the mark put, and what is given back is the tables' value before
pub marks : (rs : List Record) (h : HandleNo) (ws : List Record) → ws ≡ marked rs h → (r : ℕ) → r ≡ (record_at rs h).value
    → (ws ≡ marked rs h) × ((s : Tables) → with_records s ws ≡ put_mark (with_records s rs) h 1) × (r ≡ (record_at rs h).value) × ((s : Tables) → r ≡ value (with_records s rs) h)
marks rs h ws e r g = (
  e,
  λ s. ap (with_records s) e
      ∙ ap (λ vs. with_marks (with_values s vs) (map deleted_of (marked rs h))) (map-kept value_of rs h.0 no_record (with_deleted (record_at rs h) 1) refl)
      ∙ ap (λ ms. with_marks (with_values s (map value_of rs)) ms) (map-set deleted_of rs h.0 (with_deleted (record_at rs h) 1)),
  g,
  gives rs h r g,
)
