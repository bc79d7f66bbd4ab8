-- A chunk that is not live, written anew with its entries, leaves the facts of all others.
use Prim.Native.Nat.{ℕ, ◌*◌, ◌<◌}
use mathlib.Core.Path.{◌≡◌, refl, ap, ◌∙◌}
use mathlib.Core.Logic.{⊎_elim, ⊎_map, ◌≢◌}
use mathlib.Core.List.Memᴰ
use mathlib.Core.List.{List, [], ◌∷◌, Memᴰ}
use native.Mathlib.Nat.{le_trans, le_refl}
use native.Mathlib.Omega.{arith}
use lib.ListN.{length, set, length-set}
use borrow.Author.Tests.{ne_eqb}
use Rattle.rules.specs.Walks.{InRange}
use Rattle.rules.specs.declared.Sizes.{Sizes}
use Rattle.rules.specs.declared.Directory.{Directory}
use Rattle.rules.specs.declared.Task.{Task}
use Rattle.rules.specs.declared.Chunk.{Chunk}
use Rattle.rules.specs.declared.Entry.{Entry}
use Rattle.rules.specs.declared.ChunkNo.{ChunkNo}
use Rattle.rules.specs.declared.EntryNo.{EntryNo}
use Rattle.rules.specs.Words.{NONE, live}
use Rattle.rules.specs.Tables.{chunk_at, entry_at}
use Rattle.rules.specs.Shape.{live_count}
use Rattle.laws.specs.Counts.{Every}
use Rattle.views.specs.Views.{Links, Chain, Chained}
use Rattle.views.proofs.Rows.{chunk-put, live-set, one}
use Rattle.views.proofs.Entries.{links-below}
use Rattle.views.proofs.Chunks.{chain-frame, chain-live, chain_next}
use Rattle.statements.specs.Sound.{Limited}
use Rattle.facts.specs.Facts.{ListRight, listed, KeyInRange, Tabled, EntryHeld, Tasked}
use Rattle.facts.proofs.Sames.{list-quiet}
use Rattle.facts.proofs.Writes.{same-chunk}

-- the facts of the chunks and entries that do not speak of the rebalance
pub record Based (z : Sizes) (first : ChunkNo) (cs : List Chunk) (es : List Entry) : Type 0 where
  pub chunks-sized : length cs ≡ z.chunks
  pub entries-sized : length es ≡ z.chunks * z.entries
  pub lists : (c : ChunkNo) → c.0 < z.chunks → ListRight z cs es c
  pub chained : Chained z first cs
  pub key-in-range : KeyInRange z cs es

pub based-of : (z : Sizes) (d : Directory) (cs : List Chunk) (es : List Entry) → Tabled z d cs es → Based z d.first cs es
based-of z d cs es h = record { chunks-sized = h.chunks-sized; entries-sized = h.entries-sized; lists = h.lists; chained = h.chained; key-in-range = h.key-in-range }

-- a chain that is not empty, by all its members
pub chained-by : (z : Sizes) (cs : List Chunk) (start : ChunkNo) (l : List ChunkNo) → Chain z cs 0 start l → (chunk_at cs start).min ≡ 0 → length l ≡ live_count cs →
    ((c : ChunkNo) → c.0 < z.chunks → (chunk_at cs c).status ≡ live → Memᴰ c l) → {x : ChunkNo} → Memᴰ x l → Chained z start cs
unfolding Chain
chained-by z cs start [] h e n all m = absurd (Memᴰ.not-nil m)
chained-by z cs start (x ∷ l) h e n all m = record { rest = l; chain = rw h.0 (refl, h.1, h.2, h.3, h.4); from = e; counted = n; every = λ c b k. rw h.0 (all c b k) }

module _ (z : Sizes) (lim : Limited z) (first : ChunkNo) (cs : List Chunk) (es : List Entry) (h : Based z first cs es) where
  -- what comes after a live chunk is live
  pub next-live : (f : ChunkNo) → f.0 < z.chunks → (chunk_at cs f).status ≡ live → (chunk_at cs f).next.0 < z.chunks → (chunk_at cs (chunk_at cs f).next).status ≡ live
  next-live f b l i = ⊎_elim (λ e. absurd (out e)) (λ m. (chain-live z cs 0 first (first ∷ c.rest) c.chain (chunk_at cs f).next m).1) (chain_next z cs 0 first f (first ∷ c.rest) c.chain (c.every f b l))
    where
      c : Chained z first cs
      c = h.chained

      out : (chunk_at cs f).next.0 ≡ NONE → ⊥
      out e = omega (arith, lim.chunks)

  module _ (c : ChunkNo) (x : Chunk) (es' : List Entry) (b : c.0 < z.chunks) (was : (chunk_at cs c).status ≢ live) (is : x.status ≢ live) (len : length es' ≡ length es)
      (rows : (f : ChunkNo) (e : EntryNo) → f ≢ c → e.0 < z.entries → entry_at z es' f e ≡ entry_at z es f e) where
    many : c.0 < length cs
    many = rw h.chunks-sized b

    -- another chunk's row
    pub put_other : (f : ChunkNo) → f ≢ c → chunk_at (set cs c.0 x) f ≡ chunk_at cs f
    put_other f ne = chunk-put cs c x f (λ y. y ≡ chunk_at cs f) many (λ p. absurd (ne p)) (λ _. refl)

    pub put-here : chunk_at (set cs c.0 x) c ≡ x
    put-here = chunk-put cs c x c (λ y. y ≡ x) many (λ _. refl) (λ ne. absurd (ne refl))

    not_live : (f : ChunkNo) → (chunk_at cs f).status ≡ live → f ≢ c
    not_live f l p = was (rw p at l)

    pub put-range : (f : ChunkNo) (k : ℕ) → f.0 < z.chunks → (chunk_at cs f).status ≡ live → InRange z cs f k → InRange z (set cs c.0 x) f k
    put-range f k bf l r =
        record {
          from = rw (put_other f (not_live f l)) r.from;
          to = rw (put_other f (not_live f l)) (λ i. rw (put_other (chunk_at cs f).next (not_live (chunk_at cs f).next (next-live f bf l i))) (r.to i));
        }

    pub put-list : (f : ChunkNo) → f.0 < z.chunks → f ≢ c → (listed z (set cs c.0 x) es' f ≡ listed z cs es f) × Links z es' f (chunk_at (set cs c.0 x) f).used 0 (chunk_at (set cs c.0 x) f).head (listed z (set cs c.0 x) es' f)
    put-list f bf ne =
        list-quiet z lim cs (set cs c.0 x) es es' f (h.lists f bf) (ap (λ (y : Chunk). y.head) (put_other f ne)) (rw (put_other f ne) (le_refl _)) (rw (put_other f ne) (h.lists f bf).row.used)
        (λ e m. rw (rows f e ne (inside f bf e m)) (refl, refl))
      where
        inside : (f : ChunkNo) → f.0 < z.chunks → Every (λ e. e.0 < z.entries) (listed z cs es f)
        inside f bf e m = le_trans (links-below z es f (chunk_at cs f).used 0 (chunk_at cs f).head (listed z cs es f) (h.lists f bf).links e m) (h.lists f bf).row.used

    -- the keys of another chunk's list
    pub put-keys : (P : ℕ → Type 0) (f : ChunkNo) → f.0 < z.chunks → f ≢ c → Every (λ e. P (entry_at z es f e).key) (listed z cs es f) → Every (λ e. P (entry_at z es' f e).key) (listed z (set cs c.0 x) es' f)
    put-keys P f bf ne p e m = rw (rows f e ne (le_trans (links-below z es f (chunk_at cs f).used 0 (chunk_at cs f).head (listed z cs es f) (h.lists f bf).links e m') (h.lists f bf).row.used)) (p e m')
      where
        m' : Memᴰ e (listed z cs es f)
        m' = rw (put-list f bf ne).0 at m

    put-chained : Chained z first (set cs c.0 x)
    put-chained =
        record {
          rest = g.rest;
          chain = chain-frame z cs (set cs c.0 x) 0 first (first ∷ g.rest) g.chain (λ f m. rw (put_other f (not_live f (chain-live z cs 0 first (first ∷ g.rest) g.chain f m).1)) (refl, refl, refl));
          from = rw (put_other first (not_live first (chain-live z cs 0 first (first ∷ g.rest) g.chain first (Memᴰ.head refl)).1)) g.from;
          counted = g.counted ∙ omega (arith, live-set cs c x many, none_of (chunk_at cs c) was, none_of x is);
          every = λ f bf l. ⊎_elim (λ (p : f ≡ c). absurd (is (rw put-here at (rw p at l)))) (λ ne. g.every f bf (rw (put_other f ne) at l)) (same-chunk f c);
        }
      where
        g : Chained z first cs
        g = h.chained

        none_of : (y : Chunk) → y.status ≢ live → one live y ≡ 0
        none_of y ne = rw (ne_eqb y.status live ne)

    pub based-put : ListRight z (set cs c.0 x) es' c → Based z first (set cs c.0 x) es'
    based-put here =
        record {
          chunks-sized = length-set cs c.0 x ∙ h.chunks-sized;
          entries-sized = len ∙ h.entries-sized;
          lists = λ f bf. ⊎_elim (λ (p : f ≡ c). rw p here) (λ ne. other f bf ne) (same-chunk f c);
          chained = put-chained;
          key-in-range = λ f bf l. ⊎_elim (λ (p : f ≡ c). absurd (is (rw put-here at (rw p at l)))) (λ ne. ranged f bf ne (rw (put_other f ne) at l)) (same-chunk f c);
        }
      where
        other : (f : ChunkNo) → f.0 < z.chunks → f ≢ c → ListRight z (set cs c.0 x) es' f
        other f bf ne = record { row = rw (put_other f ne) (h.lists f bf).row; slot = λ e be. rw (put_other f ne, rows f e ne be) ((h.lists f bf).slot e be); links = (put-list f bf ne).1 }

        ranged : (f : ChunkNo) → f.0 < z.chunks → f ≢ c → (chunk_at cs f).status ≡ live → Every (λ e. InRange z (set cs c.0 x) f (entry_at z es' f e).key) (listed z (set cs c.0 x) es' f)
        ranged f bf ne l = put-keys (InRange z (set cs c.0 x) f) f bf ne (λ e m. put-range f (entry_at z es f e).key bf l (h.key-in-range f bf l e m))

    -- a task that does not hold the chunk
    pub put-task : (t : Task) → t.chunk ≢ c → Tasked z cs es t → Tasked z (set cs c.0 x) es' t
    put-task t ne r =
        record {
          idle = r.idle;
          holds = r.holds;
          chunk-of-key = λ bt. ⊎_map (λ p. ap (λ (y : Chunk). y.status) (put_other t.chunk ne) ∙ p) (λ p. (ap (λ (y : Chunk). y.status) (put_other t.chunk ne) ∙ p.0, λ op. put-range t.chunk t.key bt p.0 (p.1 op))) (r.chunk-of-key bt);
          entry = λ be. held (r.entry be);
        }
      where
        held : EntryHeld z cs es t.chunk t.entry t.key t.stage → EntryHeld z (set cs c.0 x) es' t.chunk t.entry t.key t.stage
        held y =
            record {
              inside = y.inside;
              used = rw (put_other t.chunk ne) y.used;
              keyed = ap (λ (v : Entry). v.key) (rows t.chunk t.entry ne (le_trans y.used (h.lists t.chunk y.inside).row.used)) ∙ y.keyed;
              linked = λ o. rw (put-list t.chunk y.inside ne).0 (y.linked o);
            }
