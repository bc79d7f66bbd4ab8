-- Swap in keeps the facts: the rows that it writes are those.
use Prim.Native.Nat.{ℕ, ◌+◌, ◌≤◌, ◌<◌}
use mathlib.Core.Path.{◌≡◌, refl, sym, ap, ◌∙◌}
use mathlib.Core.Logic.{⊎_elim, ◌≢◌}
use mathlib.Core.List.{List}
use native.Mathlib.Omega.{arith}
use lib.Dec.{eqb}
use lib.ListN.{length, set, length-set}
use lib.Seq.{get_or-set_same, get_or-set_other}
use borrow.Author.Tests.{lt-ltb, le-ltb, ltb-true, ltb-false, eqb-true, eqb-false}
use Rattle.rules.specs.declared.Sizes.{Sizes}
use Rattle.rules.specs.declared.Directory.{Directory}
use Rattle.rules.specs.declared.Chunk.{Chunk}
use Rattle.rules.specs.declared.ChunkNo.{ChunkNo}
use Rattle.rules.specs.Words.{pick, NONE, chunk_no, live, new, retired, to_swap, to_index}
use Rattle.rules.specs.Tables.{Tables, empty_chunk, chunk_at, chunk, with_directory, with_chunks, put_chunk}
use Rattle.rules.specs.Rebalance.{with_status, live_before, with_next_chunk, has_second, swaps_in}
use Rattle.rules.specs.Shape.{live_count}
use Rattle.laws.proofs.Tests.{picked}
use Rattle.views.proofs.Rows.{live-set, one}
use Rattle.statements.specs.Sound.{Limited}
use Rattle.facts.specs.Facts.{Leaves, Kept}
use Rattle.facts.proofs.Swapping
use Rattle.facts.specs.Swapped.{Swapped, new_ones, before_old}

put-ne : (cs : List Chunk) (d : ChunkNo) (x : Chunk) (f : ChunkNo) → f ≢ d → chunk_at (set cs d.0 x) f ≡ chunk_at cs f
put-ne cs d x f ne = get_or-set_other cs d.0 f.0 x empty_chunk (λ e. ne (ap chunk_no e))

put-eq : (cs : List Chunk) (d : ChunkNo) (x : Chunk) → d.0 < length cs → chunk_at (set cs d.0 x) d ≡ x
put-eq cs d x b = get_or-set_same cs d.0 x empty_chunk b

-- what holds of the tables and is left by each of swap in's writes holds of the tables after it
pub swap-by : (z : Sizes) (s : Tables) (P : Tables → Type 0) → P s →
    ((x : Tables) → P x → P (put_chunk x (before_old z s) (with_next_chunk (chunk s (before_old z s)) s.directory.new))) →
    ((x : Tables) → P x → P (put_chunk x s.directory.new (live_before (chunk s s.directory.new) (pick (has_second z s) s.directory.second (chunk s s.directory.old).next)))) →
    ((x : Tables) → P x → P (put_chunk x s.directory.second (live_before (chunk s s.directory.second) (chunk s s.directory.old).next))) →
    ((x : Tables) → P x → P (put_chunk x s.directory.old (with_status (chunk s s.directory.old) retired))) →
    ((x : Tables) (d : Directory) → P x → P (with_directory x d)) → P (swaps_in z s).tables
swap-by z s P here before new second old to = to _ _ (old _ (picked P (has_second z s) (λ _. second _ made) (λ _. made)))
  where
    made : P (put_chunk (pick (eqb s.directory.first.0 s.directory.old.0) s (put_chunk s (before_old z s) (with_next_chunk (chunk s (before_old z s)) s.directory.new))) s.directory.new (live_before (chunk s s.directory.new) (pick (has_second z s) s.directory.second (chunk s s.directory.old).next)))
    made = new _ (picked P (eqb s.directory.first.0 s.directory.old.0) (λ _. here) (λ _. before _ here))

module _ (z : Sizes) (lim : Limited z) (s : Tables) (kept : Kept z s) (swapping : s.directory.stage ≡ to_swap) where
  abbrev old : ChunkNo
  old = s.directory.old

  abbrev a : ChunkNo
  a = s.directory.new

  abbrev b : ChunkNo
  b = s.directory.second

  abbrev first : ChunkNo
  first = s.directory.first

  abbrev p : ChunkNo
  p = before_old z s

  abbrev row-p : Chunk
  row-p = with_next_chunk (chunk s p) a

  abbrev row-a : Chunk
  row-a = live_before (chunk s a) (pick (has_second z s) b (chunk s old).next)

  abbrev row-b : Chunk
  row-b = live_before (chunk s b) (chunk s old).next

  abbrev row_old : Chunk
  row_old = with_status (chunk s old) retired

  old-in : old.0 < z.chunks
  old-in = Swapping.old-in z lim s kept swapping

  a_in : a.0 < z.chunks
  a_in = Swapping.a_in z lim s kept swapping

  -- the chunks are apart, by what they are
  a-old : a ≢ old
  a-old = Swapping.unlike z lim s kept swapping a old (Swapping.a-new z lim s kept swapping) (Swapping.old-live z lim s kept swapping) (omega arith)

  b-old : b ≢ old
  b-old e = kept.tables.rebalancing.old-second (Swapping.late z lim s kept swapping) (ap (λ (c : ChunkNo). c.0) (sym e))

  a-b : a ≢ b
  a-b e = kept.tables.rebalancing.apart (Swapping.late z lim s kept swapping) (ap (λ (c : ChunkNo). c.0) e)

  p-a : first ≢ old → p ≢ a
  p-a ne = Swapping.unlike z lim s kept swapping p a (Swapping.p-live z lim s kept swapping ne).1 (Swapping.a-new z lim s kept swapping) (omega arith)

  p-b : first ≢ old → b.0 < z.chunks → p ≢ b
  p-b ne i = Swapping.unlike z lim s kept swapping p b (Swapping.p-live z lim s kept swapping ne).1 (Swapping.b-new z lim s kept swapping i) (omega arith)

  -- ---- the chunk before the old one written, where there is one
  record Before (cs : List Chunk) : Type 0 where
    sized : length cs ≡ length s.chunks
    counted : live_count cs ≡ live_count s.chunks
    before : first ≢ old → chunk_at cs p ≡ row-p
    other : (f : ChunkNo) → (first ≢ old → f ≢ p) → chunk_at cs f ≡ chunk s f

  none_before : first ≡ old → Before s.chunks
  none_before e = record { sized = refl; counted = refl; before = λ ne. absurd (ne e); other = λ f _. refl }

  one-before : first ≢ old → Before (set s.chunks p.0 row-p)
  one-before ne =
      record {
        sized = length-set s.chunks p.0 row-p;
        counted = omega (arith, live-set s.chunks p row-p in_p);
        before = λ _. put-eq s.chunks p row-p in_p;
        other = λ f n. put-ne s.chunks p row-p f (n ne);
      }
    where
      in_p : p.0 < length s.chunks
      in_p = rw kept.tables.chunks-sized (Swapping.p-live z lim s kept swapping ne).0

  module _ (cs : List Chunk) (w : Before cs) where
    many : (c : ChunkNo) → c.0 < z.chunks → c.0 < length cs
    many c i = rw (w.sized, kept.tables.chunks-sized) i

    at_a : chunk_at cs a ≡ chunk s a
    at_a = w.other a (λ ne e. p-a ne (sym e))

    at_old : chunk_at cs old ≡ chunk s old
    at_old = w.other old (λ ne e. Swapping.p-old z lim s kept swapping ne (sym e))

    new-zero : (y : Chunk) → y.status ≡ new → one live y ≡ 0
    new-zero y e = ap (λ (n : ℕ). pick {A = ℕ} (eqb n live) 1 0) e

    live-one : (y : Chunk) → y.status ≡ live → one live y ≡ 1
    live-one y e = ap (λ (n : ℕ). pick {A = ℕ} (eqb n live) 1 0) e

    abbrev cs₂ : List Chunk
    cs₂ = set cs a.0 row-a

    counted₂ : live_count cs₂ ≡ live_count s.chunks + 1
    counted₂ = omega (arith, live-set cs a row-a (many a a_in), w.counted, new-zero (chunk_at cs a) (ap (λ (y : Chunk). y.status) at_a ∙ Swapping.a-new z lim s kept swapping))

    one-swapped : b.0 ≡ NONE → Swapped z s (set cs₂ old.0 row_old)
    one-swapped e =
        record {
          sized = length-set cs₂ old.0 row_old ∙ length-set cs a.0 row-a ∙ w.sized;
          counted = omega (arith, one-new, counted₂, live-set cs₂ old row_old in-old, live-one (chunk_at cs₂ old) (ap (λ (y : Chunk). y.status) (put-ne cs a row-a old (λ r. a-old (sym r)) ∙ at_old) ∙ Swapping.old-live z lim s kept swapping));
          old = put-eq cs₂ old row_old in-old;
          new = put-ne cs₂ old row_old a a-old ∙ put-eq cs a row-a (many a a_in);
          second = λ i. absurd (no i);
          before = λ ne. put-ne cs₂ old row_old p (Swapping.p-old z lim s kept swapping ne) ∙ put-ne cs a row-a p (p-a ne) ∙ w.before ne;
          other = λ f n1 n2 n3 n4. put-ne cs₂ old row_old f n1 ∙ put-ne cs a row-a f n2 ∙ w.other f n4;
        }
      where
        out : z.chunks ≤ b.0
        out = rw e lim.chunks

        one-new : length (new_ones z s.directory) ≡ 1
        one-new = rw (le-ltb b.0 z.chunks out)

        no : b.0 < z.chunks → ⊥
        no i = omega (arith, out)

        in-old : old.0 < length cs₂
        in-old = rw length-set (many old old-in)

    abbrev cs₃ : List Chunk
    cs₃ = set cs₂ b.0 row-b

    two-swapped : b.0 < z.chunks → Swapped z s (set cs₃ old.0 row_old)
    two-swapped i =
        record {
          sized = length-set cs₃ old.0 row_old ∙ length-set cs₂ b.0 row-b ∙ length-set cs a.0 row-a ∙ w.sized;
          counted = omega (arith, two-new, counted₂, live-set cs₂ b row-b in_b, new-zero (chunk_at cs₂ b) (ap (λ (y : Chunk). y.status) at_b ∙ Swapping.b-new z lim s kept swapping i), live-set cs₃ old row_old in-old, live-one (chunk_at cs₃ old) (ap (λ (y : Chunk). y.status) (put-ne cs₂ b row-b old (λ r. b-old (sym r)) ∙ put-ne cs a row-a old (λ r. a-old (sym r)) ∙ at_old) ∙ Swapping.old-live z lim s kept swapping));
          old = put-eq cs₃ old row_old in-old;
          new = put-ne cs₃ old row_old a a-old ∙ put-ne cs₂ b row-b a a-b ∙ put-eq cs a row-a (many a a_in);
          second = λ _. put-ne cs₃ old row_old b b-old ∙ put-eq cs₂ b row-b in_b;
          before = λ ne. put-ne cs₃ old row_old p (Swapping.p-old z lim s kept swapping ne) ∙ put-ne cs₂ b row-b p (p-b ne i) ∙ put-ne cs a row-a p (p-a ne) ∙ w.before ne;
          other = λ f n1 n2 n3 n4. put-ne cs₃ old row_old f n1 ∙ put-ne cs₂ b row-b f n3 ∙ put-ne cs a row-a f n2 ∙ w.other f n4;
        }
      where
        two-new : length (new_ones z s.directory) ≡ 2
        two-new = rw (lt-ltb b.0 z.chunks i)

        in_b : b.0 < length cs₂
        in_b = rw length-set (many b i)

        in-old : old.0 < length cs₃
        in-old = rw (length-set cs₂ b.0 row-b, length-set cs a.0 row-a) (many old old-in)

        at_b : chunk_at cs₂ b ≡ chunk s b
        at_b = put-ne cs a row-a b (λ r. a-b (sym r)) ∙ w.other b (λ ne r. p-b ne i (sym r))

  abbrev then_at : Directory
  then_at = record { first = pick (eqb first.0 old.0) a first; stage = to_index; old = old; new = a; second = b; indexed = s.directory.indexed }

  -- what holds of the tables by what swap in makes of the chunks holds of those that it leaves: the chunk before written or not, the second new chunk written or not
  module _ (P : Tables → Type 0) (by : (cs : List Chunk) → Swapped z s cs → P (with_directory (with_chunks s cs) then_at)) where
    by-second : (cs : List Chunk) → Before cs → P (with_directory (put_chunk (pick (has_second z s) (put_chunk (put_chunk (with_chunks s cs) a row-a) b row-b) (put_chunk (with_chunks s cs) a row-a)) old row_old) then_at)
    by-second cs w =
        picked (λ (x : Tables). P (with_directory (put_chunk x old row_old) then_at)) (has_second z s)
        (λ t. by _ (two-swapped cs w (ltb-true _ _ t)))
        (λ t. by _ (one-swapped cs w (⊎_elim (λ i. absurd (out i (ltb-false _ _ t))) (λ e. e) (Swapping.two-or-not z lim s kept swapping))))
      where
        out : b.0 < z.chunks → z.chunks ≤ b.0 → ⊥
        out i o = omega arith

    swapped-by : P (swaps_in z s).tables
    swapped-by =
        picked (λ (x : Tables). P (with_directory (put_chunk (pick (has_second z s) (put_chunk (put_chunk x a row-a) b row-b) (put_chunk x a row-a)) old row_old) then_at)) (eqb first.0 old.0)
        (λ t. by-second s.chunks (none_before (ap chunk_no (eqb-true _ _ t))))
        (λ t. by-second (set s.chunks p.0 row-p) (one-before (λ e. eqb-false _ _ t (ap (λ (c : ChunkNo). c.0) e))))

  pub swap-in-kept : Kept z (swaps_in z s).tables
  swap-in-kept = swapped-by (Kept z) (Swapping.swapped-kept z lim s kept swapping)

  pub swap-in-leaves : (f : ChunkNo) → Leaves z s (swaps_in z s).tables f
  swap-in-leaves f = swapped-by (λ x. Leaves z s x f) (λ cs w. Swapping.swapped-leaves z lim s kept swapping cs w f)
