-- Swap in keeps the facts: by what it writes to the chunks' rows.
use Prim.Native.Nat.{ℕ, ◌+◌, ◌≤◌, ◌<◌}
use mathlib.Core.Path.{◌≡◌, refl, sym, ap, ◌∙◌, subst}
use mathlib.Core.Logic.{◌⊎◌, inl, inr, ⊎_elim, ◌≢◌}
use mathlib.Core.Bool.{true}
use mathlib.Core.List.Memᴰ
use mathlib.Core.List.{List, ◌∷◌, ◌++◌, Memᴰ}
use native.Mathlib.Nat.{le_trans, le_refl}
use native.Mathlib.Omega.{arith}
use lib.Dec.{eqb, ltb}
use borrow.Author.Tests.{eq-eqb, ne_eqb, lt-ltb, le-ltb}
use Rattle.rules.specs.declared.Sizes.{Sizes}
use Rattle.rules.specs.declared.Directory.{Directory}
use Rattle.rules.specs.declared.Task.{Task}
use Rattle.rules.specs.declared.Chunk.{Chunk}
use Rattle.rules.specs.declared.ChunkNo.{ChunkNo}
use Rattle.rules.specs.Words.{pick, NONE, chunk_no, unused, live, new, retired, to_swap, to_index}
use Rattle.rules.specs.Tables.{Tables, chunk_at, entry_at, chunk, task, with_directory, with_chunks}
use Rattle.rules.specs.Walks.{InRange}
use Rattle.rules.specs.Rebalance.{with_status, live_before, with_next_chunk}
use Rattle.rules.specs.Shape.{numbers}
use Rattle.laws.specs.Counts.{Every, Apart}
use Rattle.laws.proofs.Tests.{picked}
use Rattle.views.specs.Views.{Links, Chain, replaced, Chained}
use Rattle.views.proofs.Rows.{in-use-row}
use Rattle.views.proofs.Chunks.{chain-live, chain-swap, chain-swap-first, chain-raise, chain-apart, chain-rises, before-next, replaced-new, replaced-old, replaced-length}
use Rattle.views.proofs.Chained.{chain-short}
use Rattle.statements.specs.Sound.{Limited}
use Rattle.facts.specs.Facts.{RowRight, ListRight, listed, KeyInRange, Roles, Made, Rebalancing, Tabled, ChunkOfKey, EntryHeld, Tasked, Leaves, Kept}
use Rattle.facts.specs.Swapped.{new_ones, before_old, Swapped}
use Rattle.facts.proofs.Numbers.{number_in, number-cases}
use Rattle.facts.proofs.Stacking.{stacked-kept}
use Rattle.facts.proofs.Sames.{list-quiet}
use Rattle.facts.proofs.Writes.{same-chunk}
use Rattle.facts.proofs.Putting.{chained-by}

module _ (z : Sizes) (lim : Limited z) (s : Tables) (kept : Kept z s) (swapping : s.directory.stage ≡ to_swap) where
  h : Tabled z s.directory s.chunks s.entries
  h = kept.tables

  q : Rebalancing z s.directory s.chunks
  q = h.rebalancing

  m : Made z s.directory s.chunks s.entries
  m = h.made swapping

  pub late : to_swap ≤ s.directory.stage
  late = omega arith

  abbrev old : ChunkNo
  old = s.directory.old

  abbrev a : ChunkNo
  a = s.directory.new

  abbrev b : ChunkNo
  b = s.directory.second

  abbrev first : ChunkNo
  first = s.directory.first

  abbrev p : ChunkNo
  p = before_old z s

  pub old-in : old.0 < z.chunks
  old-in = q.old (omega arith)

  pub a_in : a.0 < z.chunks
  a_in = q.new late

  old-role : ((chunk s old).frozen ≡ 1) × ((chunk s old).status ≡ live)
  old-role = (((q.roles old old-in).old refl).0, ((q.roles old old-in).old refl).1 ∙ rw swapping)

  pub old-live : (chunk s old).status ≡ live
  old-live = old-role.1

  a-role : ((chunk s a).frozen ≡ 0) × ((chunk s a).status ≡ new)
  a-role = (((q.roles a a_in).new (q.old-new late) (inl refl)).0, ((q.roles a a_in).new (q.old-new late) (inl refl)).1 ∙ rw swapping)

  b-role : b.0 < z.chunks → ((chunk s b).frozen ≡ 0) × ((chunk s b).status ≡ new)
  b-role i = (((q.roles b i).new (q.old-second late) (inr refl)).0, ((q.roles b i).new (q.old-second late) (inr refl)).1 ∙ rw swapping)

  pub a-new : (chunk s a).status ≡ new
  a-new = a-role.1

  pub b-new : b.0 < z.chunks → (chunk s b).status ≡ new
  b-new i = (b-role i).1

  c : Chained z first s.chunks
  c = h.chained

  old-linked : Memᴰ old (first ∷ c.rest)
  old-linked = c.every old old-in old-role.1

  -- two chunks of different status are apart
  pub unlike : (f g : ChunkNo) {m n : ℕ} → (chunk s f).status ≡ m → (chunk s g).status ≡ n → m ≢ n → f ≢ g
  unlike f g e i ne r = ne (sym e ∙ ap (λ (c : ChunkNo). (chunk s c).status) r ∙ i)

  -- the one before the old chunk, where there is one
  p-facts : first ≢ old → Memᴰ p (first ∷ c.rest) × ((chunk s p).next ≡ old)
  p-facts ne = before-next z s.chunks old z.chunks 0 first first c.rest (le_trans (omega arith) (chain-short z s.chunks first h.chunks-sized c)) c.chain (later (Memᴰ.cases_cons old-linked))
    where
      later : (old ≡ first) ⊎ Memᴰ old c.rest → Memᴰ old c.rest
      later (inl e) = absurd (ne (sym e))
      later (inr o) = o

  pub p-live : first ≢ old → (p.0 < z.chunks) × ((chunk s p).status ≡ live)
  p-live ne = chain-live z s.chunks 0 first (first ∷ c.rest) c.chain p (p-facts ne).0

  -- the next of a chunk is not itself, so the one before the old chunk is another
  pub p-old : first ≢ old → p ≢ old
  p-old ne e = never (chain-rises z s.chunks lim.chunks 0 first p (first ∷ c.rest) c.chain (p-facts ne).0 (rw (p-facts ne).1 old-in))
    where
      never : (chunk s p).min < (chunk s (chunk s p).next).min → ⊥
      never lt = omega (arith, lt, ap (λ (c : ChunkNo). (chunk s c).min) ((p-facts ne).1 ∙ sym e))

  pub two-or-not : (b.0 < z.chunks) ⊎ (b.0 ≡ NONE)
  two-or-not = number-cases z.chunks b.0 (q.second late)

  -- ---- the tables after it
  module _ (cs : List Chunk) (w : Swapped z s cs) where
    -- a chunk's row then: the old one, the new ones, the one before, or what it was
    row_is : (f : ChunkNo) (P : Chunk → Type 0) → f.0 < z.chunks →
        (f ≡ old → P (with_status (chunk s old) retired)) →
        (f ≡ a → P (live_before (chunk s a) (pick (ltb b.0 z.chunks) b (chunk s old).next))) →
        (f ≡ b → P (live_before (chunk s b) (chunk s old).next)) →
        (first ≢ old → f ≡ p → P (with_next_chunk (chunk s p) a)) →
        (f ≢ old → f ≢ a → f ≢ b → P (chunk s f)) → P (chunk_at cs f)
    row_is f P i u v x y o = ⊎_elim (λ (e : f ≡ old). rw (e, w.old) (u e)) (λ n1. ⊎_elim (λ (e : f ≡ a). rw (e, w.new) (v e)) (λ n2. ⊎_elim (λ (e : f ≡ b). rw (e, w.second (rw (← e) i)) (x e)) (λ n3. rest n1 n2 n3) (same-chunk f b)) (same-chunk f a)) (same-chunk f old)
      where
        rest : f ≢ old → f ≢ a → f ≢ b → P (chunk_at cs f)
        rest n1 n2 n3 = ⊎_elim (λ (e : first ≡ old). rw (w.other f n1 n2 n3 (λ ne. absurd (ne e))) (o n1 n2 n3)) (λ ne. ⊎_elim (λ (e : f ≡ p). rw (e, w.before ne) (y ne e)) (λ n4. rw (w.other f n1 n2 n3 (λ _. n4)) (o n1 n2 n3)) (same-chunk f p)) (same-chunk first old)

    -- minimum key, head, used count and frozen mark are as they were
    abbrev Alike : Chunk → Chunk → Type 0
    Alike y x = (y.min ≡ x.min) × (y.head ≡ x.head) × (y.used ≡ x.used) × (y.frozen ≡ x.frozen)

    alike : (f : ChunkNo) → f.0 < z.chunks → Alike (chunk_at cs f) (chunk s f)
    alike f i = row_is f (λ y. Alike y (chunk s f)) i (λ e. rw e (refl, refl, refl, refl)) (λ e. rw e (refl, refl, refl, refl)) (λ e. rw e (refl, refl, refl, refl)) (λ _ e. rw e (refl, refl, refl, refl)) (λ _ _ _. (refl, refl, refl, refl))

    -- a live chunk other than the old one stays live
    stays-live : (f : ChunkNo) → f.0 < z.chunks → (chunk s f).status ≡ live → f ≢ old → (chunk_at cs f).status ≡ live
    stays-live f i l ne = row_is f (λ y. y.status ≡ live) i (λ e. absurd (ne e)) (λ _. refl) (λ _. refl) (λ r e. (p-live r).1) (λ _ _ _. l)

    -- what is live then was live, or is a new one
    was-live : (f : ChunkNo) → f.0 < z.chunks → (chunk_at cs f).status ≡ live → (f ≡ a) ⊎ (((b.0 < z.chunks) × (f ≡ b)) ⊎ ((f ≢ old) × ((chunk s f).status ≡ live)))
    was-live f i = row_is f (λ y. y.status ≡ live → (f ≡ a) ⊎ (((b.0 < z.chunks) × (f ≡ b)) ⊎ ((f ≢ old) × ((chunk s f).status ≡ live)))) i (λ _ l. absurd (three l)) (λ e _. inl e) (λ e _. inr (inl (rw (← e) i, e))) (λ ne e _. inr (inr ((λ r. p-old ne (sym e ∙ r)), rw e (p-live ne).1))) (λ n1 _ _ l. inr (inr (n1, l)))
      where
        three : ◌≡◌ {A = ℕ} 3 1 → ⊥
        three e = omega arith

    -- ---- ranges
    -- a key below what follows the old chunk
    past-old : (k : ℕ) → InRange z s.chunks old k → (chunk s old).next.0 < z.chunks → k < (chunk_at cs (chunk s old).next).min
    past-old k r i = rw (alike (chunk s old).next i).0 (r.to i)

    range-kept : (f : ChunkNo) (k : ℕ) → f.0 < z.chunks → (chunk s f).status ≡ live → f ≢ old → InRange z s.chunks f k → InRange z cs f k
    range-kept f k i l ne r =
        record {
          from = rw (alike f i).0 r.from;
          to = row_is f (λ y. y.next.0 < z.chunks → k < (chunk_at cs y.next).min) i (λ e. absurd (ne e))
              (λ e. absurd (unlike f a l a-role.1 (omega arith) e)) (λ e. absurd (unlike f b l (b-new (rw (← e) i)) (omega arith) e))
              (λ nf e _. rw ((alike a a_in).0, m.first-min) (before-it nf e)) (λ _ _ _ j. rw (alike (chunk s f).next j).0 (r.to j));
        }
      where
        before-it : first ≢ old → f ≡ p → k < (chunk s old).min
        before-it nf e = rw (p-facts nf).1 at (rw e at r.to (rw (p-facts nf).1 old-in))

    range-first : (k : ℕ) → InRange z s.chunks old k → (b.0 < z.chunks → k < (chunk s b).min) → InRange z cs a k
    range-first k r below =
        record {
          from = rw ((alike a a_in).0, m.first-min) r.from;
          to = rw w.new (by-second two-or-not);
        }
      where
        Next : ChunkNo → Type 0
        Next n = n.0 < z.chunks → k < (chunk_at cs n).min

        by-second : (b.0 < z.chunks) ⊎ (b.0 ≡ NONE) → Next (pick (ltb b.0 z.chunks) b (chunk s old).next)
        by-second (inl i) = rw (lt-ltb b.0 z.chunks i) (λ _. rw (alike b i).0 (below i))
        by-second (inr e) = rw (le-ltb b.0 z.chunks (rw e lim.chunks)) (past-old k r)

    range-second : (k : ℕ) → b.0 < z.chunks → InRange z s.chunks old k → (chunk s b).min ≤ k → InRange z cs b k
    range-second k i r le = record { from = rw (alike b i).0 le; to = rw (w.second i) (past-old k r) }

    -- ---- lists
    quiet : (f : ChunkNo) → f.0 < z.chunks → (listed z cs s.entries f ≡ listed z s.chunks s.entries f) × Links z s.entries f (chunk_at cs f).used 0 (chunk_at cs f).head (listed z cs s.entries f)
    quiet f i = list-quiet z lim s.chunks cs s.entries s.entries f (h.lists f i) (alike f i).1 (rw (alike f i).2 (le_refl _)) (rw (alike f i).2 (h.lists f i).row.used) (λ x n. (refl, refl))

    row-right : (f : ChunkNo) → f.0 < z.chunks → RowRight z (chunk_at cs f)
    row-right f i =
        row_is f (RowRight z) i
        (λ e. let r = (h.lists old old-in).row in record { status = omega arith; frozen = r.frozen; next = r.next; used = r.used; empty = λ n. absurd (three n) })
        (λ e. let r = (h.lists a a_in).row in record { status = omega arith; frozen = r.frozen; next = next-first; used = r.used; empty = λ n. absurd (one n) })
        (λ e. let r = (h.lists b (rw (← e) i)).row in record { status = omega arith; frozen = r.frozen; next = (h.lists old old-in).row.next; used = r.used; empty = λ n. absurd (one n) })
        (λ nf e. let r = (h.lists p (p-live nf).0).row in record { status = r.status; frozen = r.frozen; next = number_in _ _ a_in; used = r.used; empty = λ n. absurd (one (sym (p-live nf).1 ∙ n)) })
        (λ _ _ _. (h.lists f i).row)
      where
        one : ◌≡◌ {A = ℕ} 1 0 → ⊥
        one e = omega arith

        three : ◌≡◌ {A = ℕ} 3 0 → ⊥
        three e = omega arith

        next-first : numbers z.chunks (pick (ltb b.0 z.chunks) b (chunk s old).next).0 ≡ true
        next-first = picked (λ (n : ChunkNo). numbers z.chunks n.0 ≡ true) (ltb b.0 z.chunks) (λ t. q.second late) (λ t. (h.lists old old-in).row.next)

    list_right : (f : ChunkNo) → f.0 < z.chunks → ListRight z cs s.entries f
    list_right f i = record { row = row-right f i; slot = λ e be. rw (alike f i).2 ((h.lists f i).slot e be); links = (quiet f i).1 }

    in-range : KeyInRange z cs s.entries
    in-range f i l x n = go (was-live f i l)
      where
        n' : Memᴰ x (listed z s.chunks s.entries f)
        n' = rw (quiet f i).0 at n

        go : (f ≡ a) ⊎ (((b.0 < z.chunks) × (f ≡ b)) ⊎ ((f ≢ old) × ((chunk s f).status ≡ live))) → InRange z cs f (entry_at z s.entries f x).key
        go (inl e) = rw e (range-first (entry_at z s.entries a x).key (m.first-keys x (rw e at n')) (λ j. m.first_below j x (rw e at n')))
        go (inr (inl e)) = rw e.1 (range-second (entry_at z s.entries b x).key e.0 (m.second-keys e.0 x (rw e.1 at n')) (m.second_from e.0 x (rw e.1 at n')))
        go (inr (inr e)) = range-kept f (entry_at z s.entries f x).key i e.1 e.0 (h.key-in-range f i e.1 x n')

    -- ---- the chain
    abbrev news : List ChunkNo
    news = new_ones z s.directory

    new-live : ((chunk_at cs a).status ≡ live) × (b.0 < z.chunks → (chunk_at cs b).status ≡ live)
    new-live = (ap (λ (y : Chunk). y.status) w.new, λ i. ap (λ (y : Chunk). y.status) (w.second i))

    make : (lo : ℕ) (r : List ChunkNo) → lo ≤ (chunk s old).min → Chain z s.chunks ((chunk s old).min + 1) (chunk s old).next r → Chain z cs ((chunk s old).min + 1) (chunk s old).next r → Chain z cs lo a (news ++ r)
    unfolding Chain
    make lo r le _ on = by-second two-or-not
      where
        least : (chunk_at cs a).min ≡ (chunk s old).min
        least = (alike a a_in).0 ∙ m.first-min

        by-second : (b.0 < z.chunks) ⊎ (b.0 ≡ NONE) → Chain z cs lo a (news ++ r)
        by-second (inl i) =
            rw (lt-ltb b.0 z.chunks i) (
              refl,
              a_in,
              new-live.0,
              rw least le,
              (to-second, i, new-live.1 i, rw (least, (alike b i).0) (more (m.second-min i)), rw ((alike b i).0, second-next) (chain-raise z cs ((chunk s old).min + 1) ((chunk s b).min + 1) (chunk s old).next r on (λ j. rw (alike (chunk s old).next j).0 (more ((m.second-in i).to j))))),
            )
          where
            to-second : (chunk_at cs a).next ≡ b
            to-second = ap (λ (y : Chunk). y.next) w.new ∙ rw (lt-ltb b.0 z.chunks i)

            second-next : (chunk_at cs b).next ≡ (chunk s old).next
            second-next = ap (λ (y : Chunk). y.next) (w.second i)

            more : {j k : ℕ} → j < k → j + 1 ≤ k
            more lt = omega arith
        by-second (inr e) = rw (le-ltb b.0 z.chunks (rw e lim.chunks)) (refl, a_in, new-live.0, rw least le, rw (least, first_next) on)
          where
            first_next : (chunk_at cs a).next ≡ (chunk s old).next
            first_next = ap (λ (y : Chunk). y.next) w.new ∙ rw (le-ltb b.0 z.chunks (rw e lim.chunks))

    abbrev start : ChunkNo
    start = pick (eqb first.0 old.0) a first

    -- a chunk of the chain other than the old one
    chain-row : (f : ChunkNo) → Memᴰ f (first ∷ c.rest) → f ≢ old → ((chunk_at cs f).status ≡ (chunk s f).status) × ((chunk_at cs f).min ≡ (chunk s f).min)
    chain-row f n ne = (stays-live f at.0 at.1 ne ∙ sym at.1, (alike f at.0).0)
      where
        at : (f.0 < z.chunks) × ((chunk s f).status ≡ live)
        at = chain-live z s.chunks 0 first (first ∷ c.rest) c.chain f n

    chain-next-is : (f : ChunkNo) → Memᴰ f (first ∷ c.rest) → f ≢ old → (first ≢ old → f ≢ p) → (chunk_at cs f).next ≡ (chunk s f).next
    chain-next-is f n ne np = row_is f (λ y. y.next ≡ (chunk s f).next) at.0 (λ e. absurd (ne e)) (λ e. absurd (unlike f a at.1 a-new (omega arith) e)) (λ e. absurd (unlike f b at.1 (b-new (rw (← e) at.0)) (omega arith) e)) (λ nf e. absurd (np nf e)) (λ _ _ _. refl)
      where
        at : (f.0 < z.chunks) × ((chunk s f).status ≡ live)
        at = chain-live z s.chunks 0 first (first ∷ c.rest) c.chain f n

    chain-then : Chain z cs 0 start (replaced old news (first ∷ c.rest))
    unfolding Apart
    chain-then = ⊎_elim at_first later (same-chunk first old)
      where
        at_first : first ≡ old → Chain z cs 0 start (replaced old news (first ∷ c.rest))
        at_first e = rw (eq-eqb first.0 old.0 (ap (λ (c : ChunkNo). c.0) e)) (subst (λ (x : ChunkNo). Chain z cs 0 a (replaced old news (x ∷ c.rest))) (sym e) (chain-swap-first z s.chunks cs lim.chunks old a news make 0 first c.rest (subst (λ (x : ChunkNo). Chain z s.chunks 0 first (x ∷ c.rest)) e c.chain) same))
          where
            same : Every (λ x. ((chunk_at cs x).status ≡ (chunk s x).status) × ((chunk_at cs x).min ≡ (chunk s x).min) × ((chunk_at cs x).next ≡ (chunk s x).next)) c.rest
            same x n = ((chain-row x (Memᴰ.tail n) ne).0, (chain-row x (Memᴰ.tail n) ne).1, chain-next-is x (Memᴰ.tail n) ne (λ nf. absurd (nf e)))
              where
                ne : x ≢ old
                ne r = (chain-apart z s.chunks 0 first (first ∷ c.rest) c.chain).0 x n (ap (λ (c : ChunkNo). c.0) (e ∙ sym r))

        later : first ≢ old → Chain z cs 0 start (replaced old news (first ∷ c.rest))
        later ne =
            rw (ne_eqb first.0 old.0 (λ e. ne (ap chunk_no e)))
            (chain-swap z s.chunks cs lim.chunks old a news make z.chunks 0 first first p c.rest (le_trans (omega arith) (chain-short z s.chunks first h.chunks-sized c)) c.chain (in_rest (Memᴰ.cases_cons old-linked)) refl chain-row (λ f n x y. chain-next-is f n x (λ _. y)) (ap (λ (y : Chunk). y.next) (w.before ne)))
          where
            in_rest : (old ≡ first) ⊎ Memᴰ old c.rest → Memᴰ old c.rest
            in_rest (inl e) = absurd (ne (sym e))
            in_rest (inr o) = o

    in-news : (Memᴰ a news) × (b.0 < z.chunks → Memᴰ b news)
    in-news = (picked (λ (l : List ChunkNo). Memᴰ a l) (ltb b.0 z.chunks) (λ _. Memᴰ.head refl) (λ _. Memᴰ.head refl), λ i. rw (lt-ltb b.0 z.chunks i) (Memᴰ.tail (Memᴰ.head refl)))

    every-live : (f : ChunkNo) → f.0 < z.chunks → (chunk_at cs f).status ≡ live → Memᴰ f (replaced old news (first ∷ c.rest))
    every-live f i l = go (was-live f i l)
      where
        go : (f ≡ a) ⊎ (((b.0 < z.chunks) × (f ≡ b)) ⊎ ((f ≢ old) × ((chunk s f).status ≡ live))) → Memᴰ f (replaced old news (first ∷ c.rest))
        go (inl e) = rw e (replaced-new old news a (first ∷ c.rest) old-linked in-news.0)
        go (inr (inl e)) = rw e.1 (replaced-new old news b (first ∷ c.rest) old-linked (in-news.1 e.0))
        go (inr (inr e)) = replaced-old old news f (first ∷ c.rest) (c.every f i e.1) e.0

    start-min : (chunk_at cs start).min ≡ 0
    start-min = ⊎_elim at_first later (same-chunk first old)
      where
        at_first : first ≡ old → (chunk_at cs start).min ≡ 0
        at_first e = rw (eq-eqb first.0 old.0 (ap (λ (c : ChunkNo). c.0) e)) ((alike a a_in).0 ∙ m.first-min ∙ ap (λ (c : ChunkNo). (chunk s c).min) (sym e) ∙ c.from)

        later : first ≢ old → (chunk_at cs start).min ≡ 0
        later ne = rw (ne_eqb first.0 old.0 (λ e. ne (ap chunk_no e))) ((alike first (chain-live z s.chunks 0 first (first ∷ c.rest) c.chain first (Memᴰ.head refl)).0).0 ∙ c.from)

    chained-then : Chained z start cs
    chained-then = chained-by z cs start (replaced old news (first ∷ c.rest)) chain-then start-min (omega (arith, w.counted, c.counted, replaced-length old news (first ∷ c.rest) old-linked)) every-live (replaced-new old news a (first ∷ c.rest) old-linked in-news.0)

    -- ---- the rebalance and the tasks
    abbrev then_at : Directory
    then_at = record { first = start; stage = to_index; old = old; new = a; second = b; indexed = s.directory.indexed }

    roles : (f : ChunkNo) → f.0 < z.chunks → Roles then_at f.0 (chunk_at cs f)
    roles f i =
        record {
          old = λ e. at_old (sym (ap chunk_no e));
          new = λ ne o. (frozen-new ne o, row_is f (λ y. y.status ≡ live) i (λ e. absurd (ne (ap (λ (c : ChunkNo). c.0) (sym e)))) (λ _. refl) (λ _. refl) (λ r _. (p-live r).1) (λ _ n2 n3. absurd (⊎_elim (λ r. n2 (sym (ap chunk_no r))) (λ r. n3 (sym (ap chunk_no r))) o)));
          other = λ n1 n2 n3. ((alike f i).3 ∙ ((q.roles f i).other n1 n2 n3).0, status-other n1 n2 n3);
        }
      where
        at_old : f ≡ old → ((chunk_at cs f).frozen ≡ 1) × ((chunk_at cs f).status ≡ retired)
        at_old e = ((alike f i).3 ∙ ap (λ (c : ChunkNo). (chunk s c).frozen) e ∙ old-role.0, ap (λ (c : ChunkNo). (chunk_at cs c).status) e ∙ ap (λ (y : Chunk). y.status) w.old)

        frozen-new : old.0 ≢ f.0 → (a.0 ≡ f.0) ⊎ (b.0 ≡ f.0) → (chunk_at cs f).frozen ≡ 0
        frozen-new ne o = (alike f i).3 ∙ ((q.roles f i).new ne o).0

        status-other : old.0 ≢ f.0 → a.0 ≢ f.0 → b.0 ≢ f.0 → ((chunk_at cs f).status ≡ unused) ⊎ ((chunk_at cs f).status ≡ live)
        status-other n1 n2 n3 =
            row_is f (λ y. (y.status ≡ unused) ⊎ (y.status ≡ live)) i (λ e. absurd (n1 (ap (λ (c : ChunkNo). c.0) (sym e)))) (λ _. inr refl) (λ _. inr refl) (λ r _. inr (p-live r).1) (λ _ _ _. ((q.roles f i).other n1 n2 n3).1)

    task-right : (t : Task) → Tasked z s.chunks s.entries t → Tasked z cs s.entries t
    task-right t r = record { idle = r.idle; holds = r.holds; chunk-of-key = λ i. of-key i (same-chunk t.chunk old) (r.chunk-of-key i); entry = λ i. held (r.entry i) }
      where
        third : ◌≡◌ {A = ℕ} 1 3 → ⊥
        third e = omega arith

        of-key : t.chunk.0 < z.chunks → (t.chunk ≡ old) ⊎ (t.chunk ≢ old) → ChunkOfKey z s.chunks t.operation t.chunk t.key → ChunkOfKey z cs t.operation t.chunk t.key
        of-key i (inl e) k = inl (ap (λ (c : ChunkNo). (chunk_at cs c).status) e ∙ ap (λ (y : Chunk). y.status) w.old)
        of-key i (inr ne) (inl e) = inl (row_is t.chunk (λ y. y.status ≡ retired) i (λ r. absurd (ne r)) (λ r. absurd (unlike t.chunk a e a-new (omega arith) r)) (λ r. absurd (unlike t.chunk b e (b-new (rw (← r) i)) (omega arith) r)) (λ nf r. absurd (unlike t.chunk p e (p-live nf).1 (omega arith) r)) (λ _ _ _. e))
        of-key i (inr ne) (inr e) = inr (stays-live t.chunk i e.0 ne, λ op. range-kept t.chunk t.key i e.0 ne (e.1 op))

        held : EntryHeld z s.chunks s.entries t.chunk t.entry t.key t.stage → EntryHeld z cs s.entries t.chunk t.entry t.key t.stage
        held y = record { inside = y.inside; used = rw (alike t.chunk y.inside).2 y.used; keyed = y.keyed; linked = λ o. rw (quiet t.chunk y.inside).0 (y.linked o) }

    abbrev pub then : Tables
    then = with_directory (with_chunks s cs) (record { first = pick (eqb s.directory.first.0 s.directory.old.0) s.directory.new s.directory.first; stage = to_index; old = s.directory.old; new = s.directory.new; second = s.directory.second; indexed = s.directory.indexed })

    pub swapped-leaves : (f : ChunkNo) → Leaves z s then f
    swapped-leaves f = record { tasked = λ t _ r. task-right t r; min = λ u. (alike f (rw h.chunks-sized at (in-use-row s.chunks f u))).0 }

    pub swapped-kept : Kept z then
    swapped-kept =
        record {
          tasks-sized = kept.tasks-sized;
          values-sized = kept.values-sized;
          marks-sized = kept.marks-sized;
          marks = kept.marks;
          tables =
              record {
                chunks-sized = w.sized ∙ h.chunks-sized;
                entries-sized = h.entries-sized;
                lists = list_right;
                chained = chained-then;
                key-in-range = in-range;
                rebalancing = record { known = omega arith; none = λ e. absurd (four e); unmade = λ le. absurd (over le); old = λ _. old-in; room = λ _ le. absurd (over le); new = λ _. a_in; second = λ _. q.second late; apart = λ _. q.apart late; old-new = λ _. q.old-new late; old-second = λ _. q.old-second late; roles = roles };
                made = λ e. absurd (three e);
              };
          tasks = λ n. task-right (task s n) (kept.tasks n);
          stacks-sized = kept.stacks-sized;
          stacks = λ n b. stacked-kept z lim s kept then n (swapped-leaves (task s n).chunk) b;
        }
      where
        four : ◌≡◌ {A = ℕ} 4 0 → ⊥
        four e = omega arith

        three : ◌≡◌ {A = ℕ} 4 3 → ⊥
        three e = omega arith

        over : 4 ≤ 2 → ⊥
        over le = omega arith
