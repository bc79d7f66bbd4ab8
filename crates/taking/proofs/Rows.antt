-- Striking off row by row, and chunk by chunk: of the handles that all the rows strike off, those of the rest are still to go.
use Prim.Native.Nat.{ℕ, zero, suc, ◌+◌, ◌-◌, ◌*◌, ◌≤◌, ◌<◌}
use mathlib.Core.Path.{◌≡◌, refl, sym, ap, ◌∙◌}
use mathlib.Core.Logic.{◌≢◌}
use mathlib.Core.Bool.{Bool, true, false}
use mathlib.Core.List.{List}
use native.Mathlib.Nat.{zero-add, add-zero, suc-add, suc-mul, mul-le-mul_right}
use native.Mathlib.Numerals.{add-one}
use native.Mathlib.Omega.{arith}
use lib.Dec.{eqb}
use borrow.Author.Tests.{ne_eqb}
use Rattle.rules.specs.declared.Sizes.{Sizes}
use Rattle.rules.specs.declared.Task.{Task}
use Rattle.rules.specs.declared.Chunk.{Chunk}
use Rattle.rules.specs.declared.Entry.{Entry}
use Rattle.rules.specs.declared.HandleNo.{HandleNo}
use Rattle.rules.specs.Words.{pick, handle_no}
use Rattle.rules.specs.Walks.{named_in, held_in}
use Rattle.rows.specs.Rows.{rows_from, chunk_of, entry_of, entry_rows}
use Rattle.rows.proofs.Laws.{rows_step, rows-done, rows-below}
use Rattle.taking.specs.Left.{room, bit_at, Struck}
use Rattle.taking.specs.Slotted.{Slotted}

either : (a b c : Bool) → pick a true (pick b true c) ≡ pick (pick a true b) true c
either true b c = refl
either false b c = refl

pub record Striking (before now : List ℕ) (all rest : ℕ → Bool) : Type 0 where
  pub bits : (h : ℕ) → h < room → pick (rest h) 0 (bit_at now h) ≡ pick (all h) 0 (bit_at before h)

pub striking-more : (before now after : List ℕ) (all rest rest' off : ℕ → Bool) → Striking before now all rest → Struck now after off → ((h : ℕ) → h < room → rest h ≡ pick (off h) true (rest' h)) → Striking before after all rest'
striking-more before now after all rest rest' off s t e = record { bits = λ h b. rw (t.bits h b) (both (off h) (rest' h) (bit_at now h) ∙ ap (λ (x : Bool). pick x 0 (bit_at now h)) (sym (e h b)) ∙ s.bits h b) }
  where
    both : (a b : Bool) (n : ℕ) → pick b 0 (pick a 0 n) ≡ pick (pick a true b) 0 n
    both true true n = refl
    both true false n = refl
    both false b n = refl

pub striking-done : (before after : List ℕ) (all rest : ℕ → Bool) → Striking before after all rest → ((h : ℕ) → rest h ≡ false) → Struck before after all
striking-done before after all rest s e = record { bits = λ h b. ap (λ (x : Bool). pick x 0 (bit_at after h)) (sym (e h)) ∙ s.bits h b }

-- ---- what a row strikes off, and those after it
module _ (n i : ℕ) where
  pub named-next : (f : ℕ → Entry) → i < n → (x : Entry) → x ≡ f i → (h : ℕ) → named_in (rows_from f i (n - i)) (handle_no h) ≡ pick (eqb x.handle.0 h) true (named_in (rows_from f (i + 1) (n - (i + 1))) (handle_no h))
  unfolding named_in
  named-next f b x e h = rw (rows_step f n i b, ← e)

  pub named-done : (f : ℕ → Entry) → n ≤ i → (h : ℕ) → named_in (rows_from f i (n - i)) (handle_no h) ≡ false
  unfolding named_in
  named-done f b h = rw (rows-done f n i b)

  pub held_next : (f : ℕ → Task) → i < n → (t : Task) → t ≡ f i → (h : ℕ) → held_in (rows_from f i (n - i)) (handle_no h) ≡ pick (eqb t.old.0 h) true (pick (eqb t.new.0 h) true (held_in (rows_from f (i + 1) (n - (i + 1))) (handle_no h)))
  unfolding held_in
  held_next f b t e h = rw (rows_step f n i b, ← e) (sym (either (eqb t.old.0 h) _ _))

  pub held-done : (f : ℕ → Task) → n ≤ i → (h : ℕ) → held_in (rows_from f i (n - i)) (handle_no h) ≡ false
  unfolding held_in
  held-done f b h = rw (rows-done f n i b)

-- ---- and what a chunk's rows do
module _ (f : ℕ → Entry) (h : HandleNo) where
  -- a stretch of rows names what its first part names or the rest
  run : (a b i : ℕ) → named_in (rows_from f i (a + b)) h ≡ pick (named_in (rows_from f i a) h) true (named_in (rows_from f (i + a) b) h)
  unfolding named_in rows_from
  run zero b i = rw (zero-add b, add-zero i)
  run (suc a) b i = rw (suc-add a b, run a b (i + 1), next) (either (eqb (f i).handle.0 h.0) _ _)
    where
      next : i + suc a ≡ i + 1 + a
      next = omega arith

  apart : (a i : ℕ) → ((j : ℕ) → i ≤ j → j < i + a → (f j).handle.0 ≢ h.0) → named_in (rows_from f i a) h ≡ false
  unfolding named_in rows_from
  apart zero i others = refl
  apart (suc a) i others = rw (ne_eqb _ _ (others i (omega arith) (omega arith))) (apart a (i + 1) (λ j b c. others j (omega arith) (omega arith)))

  -- so many rows from i on, of which those past the used ones name another
  stretch : (n i used size : ℕ) → i + size ≤ n → used ≤ size → ((j : ℕ) → i + used ≤ j → j < i + size → (f j).handle.0 ≢ h.0) → named_in (rows_from f i (n - i)) h ≡ pick (named_in (rows_from f i (i + used - i)) h) true (named_in (rows_from f (i + size) (n - (i + size))) h)
  stretch n i used size fits within others =
      let all : n - i ≡ used + (size - used + (n - (i + size))) = omega arith in
      let first : i + used - i ≡ used = omega arith in
      let last : i + used + (size - used) ≡ i + size = omega arith in
      rw (all, first, run used (size - used + (n - (i + size))) i, run (size - used) (n - (i + size)) (i + used), apart (size - used) (i + used) (λ j b c. others j b (omega arith)), last)

module _ (z : Sizes) (es before : List ℕ) where
  -- the rows of the chunks from c on are still to go
  abbrev pub Going : List ℕ → ℕ → Type 0
  Going now c = Striking before now (λ h. named_in (entry_rows (z.chunks * z.entries) es) (handle_no h)) (λ h. named_in (rows_from (entry_of es) (c * z.entries) (z.chunks * z.entries - c * z.entries)) (handle_no h))

  pub going_more : (cs : List ℕ) → Slotted z cs es → (now after : List ℕ) (c : ℕ) → c < z.chunks → (x : Chunk) → x ≡ chunk_of cs c → (first : ℕ) → first ≡ c * z.entries → Going now c → Struck now after (λ h. named_in (rows_from (entry_of es) first (first + x.used - first)) (handle_no h)) → Going after (c + 1)
  going_more cs slotted now after c b x q first e g t = striking-more before now after _ _ _ _ g t (λ h l. rw (next, e) (stretch (entry_of es) (handle_no h) (z.chunks * z.entries) (c * z.entries) x.used z.entries (rows-below z.chunks z.entries c b) (rw q (slotted.used c b)) (others h l)))
    where
      next : (c + 1) * z.entries ≡ c * z.entries + z.entries
      next = ap (λ (n : ℕ). n * z.entries) (add-one c) ∙ suc-mul c z.entries

      others : (h : ℕ) → h < room → (j : ℕ) → c * z.entries + x.used ≤ j → j < c * z.entries + z.entries → (entry_of es j).handle.0 ≢ h
      others h l j u v p =
          let at : c * z.entries + (j - c * z.entries) ≡ j = omega arith in
          let used : x.used ≡ (chunk_of cs c).used = ap (λ (y : Chunk). y.used) q in
          let none = rw at at (slotted.empty c (j - c * z.entries) b (omega (arith, used)) (omega arith)) in
          absurd (omega (arith, none, p))

  pub going_done : (after : List ℕ) (c : ℕ) → z.chunks ≤ c → Going after c → Struck before after (λ h. named_in (entry_rows (z.chunks * z.entries) es) (handle_no h))
  going_done after c b g = striking-done before after _ _ g (named-done (z.chunks * z.entries) (c * z.entries) (entry_of es) (mul-le-mul_right z.entries b))
