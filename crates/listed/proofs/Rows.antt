-- A chunk's slots as rows by their numbers, and how many of them are used.
use Prim.Native.Nat.{ℕ, ◌+◌, ◌*◌, ◌≤◌, ◌<◌}
use mathlib.Core.Path.{◌≡◌, sym, ◌∙◌}
use mathlib.Core.Bool.{Bool, true, false}
use mathlib.Core.List.{List}
use native.Mathlib.Nat.{mul-le-mul_right, suc-mul}
use native.Mathlib.Omega.{arith}
use borrow.Author.Tests.{eqb-true, leb-true}
use lib.Dec.{eqb, leb}
use lib.ListN.{length, get_or, drop, length-drop}
use lib.Seq.{ext_get_or, get_or-take, get_or-drop, length-take-le}
use Rattle.rules.specs.declared.Sizes.{Sizes}
use Rattle.rules.specs.declared.Entry.{Entry}
use Rattle.rules.specs.declared.Chunk.{Chunk}
use Rattle.rules.specs.declared.ChunkNo.{ChunkNo}
use Rattle.rules.specs.Words.{pick, entry_no, unused, retired}
use Rattle.rules.specs.Tables.{empty_entry, entry_at}
use Rattle.rules.specs.Shape.{slots_of, is_none, numbers, is_empty_chunk, chunk_numbers}
use Rattle.rows.specs.Rows.{rows_from}
use Rattle.rows.proofs.Laws.{length-rows, row_read}
use Rattle.listed.specs.Parts.{bare, row_right}
use Rattle.listed.proofs.Tests.{and_right}

-- a chunk's slots are the entries that are read by their numbers
pub slots-rows : (z : Sizes) (es : List Entry) (c : ChunkNo) → length es ≡ z.chunks * z.entries → c.0 < z.chunks → slots_of z es c ≡ rows_from (λ e. entry_at z es c (entry_no e)) 0 z.entries
slots-rows z es c long h = ext_get_or empty_entry _ _ (wide ∙ sym (length-rows _ 0 z.entries)) at
  where
    fits : c.0 * z.entries + z.entries ≤ length es
    fits = omega (arith, mul-le-mul_right z.entries h, suc-mul c.0 z.entries)

    wide : length (slots_of z es c) ≡ z.entries
    wide = length-take-le z.entries (drop (c.0 * z.entries) es) (simp length-drop (omega (arith, fits)))

    at : (i : ℕ) → i < length (slots_of z es c) → get_or (slots_of z es c) i empty_entry ≡ get_or (rows_from (λ e. entry_at z es c (entry_no e)) 0 z.entries) i empty_entry
    at i l =
        let b : i < z.entries = rw wide at l in
        get_or-take z.entries (drop (c.0 * z.entries) es) i empty_entry b
        ∙ get_or-drop (c.0 * z.entries) es i empty_entry
        ∙ sym (row_read (λ e. entry_at z es c (entry_no e)) z.entries i empty_entry b)

-- a right row uses no more slots than there are
pub used-fits : (z : Sizes) (x : Chunk) → row_right z x ≡ true → x.used ≤ z.entries
used-fits z x h = go (eqb x.status unused) h
  where
    go : (b : Bool) → pick b (is_empty_chunk x) (chunk_numbers z (bare z) x) ≡ true → x.used ≤ z.entries
    go true h =
        let h₁ = and_right (eqb x.status 0) _ h in
        let h₂ = and_right (eqb x.frozen 0) _ h₁ in
        let h₃ = and_right (eqb x.min 0) _ h₂ in
        let h₄ = and_right (is_none x.next.0) _ h₃ in
        let h₅ = and_right (is_none x.head.0) _ h₄ in
        let e : x.used ≡ 0 = eqb-true x.used 0 h₅ in
        omega arith
    go false h =
        let h₁ = and_right (leb x.status retired) _ h in
        let h₂ = and_right (leb x.frozen 1) _ h₁ in
        let h₃ = and_right (numbers z.chunks x.next.0) _ h₂ in
        let h₄ = and_right (numbers z.entries x.head.0) _ h₃ in
        leb-true x.used z.entries h₄
