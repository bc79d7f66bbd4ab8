-- What a write that leaves status, frozen mark, minimum key and next of every chunk keeps.
use Prim.Native.Nat.{ℕ, ◌≤◌, ◌<◌}
use mathlib.Core.Path.{◌≡◌, refl, sym, ap, ◌∙◌}
use mathlib.Core.Logic.{◌⊎◌, inl, inr, ⊎_elim, ⊎_map, ◌≢◌}
use mathlib.Core.List.{List, ◌∷◌, Memᴰ}
use native.Mathlib.Nat.{le_trans}
use native.Mathlib.Omega.{arith}
use lib.ListN.{length, set, length-set}
use Rattle.rules.specs.Walks.{InRange}
use Rattle.rules.specs.declared.Sizes.{Sizes}
use Rattle.rules.specs.declared.Directory.{Directory}
use Rattle.rules.specs.declared.Task.{Task}
use Rattle.rules.specs.declared.Chunk.{Chunk}
use Rattle.rules.specs.declared.Entry.{Entry}
use Rattle.rules.specs.declared.ChunkNo.{ChunkNo}
use Rattle.rules.specs.declared.EntryNo.{EntryNo}
use lib.Dec.{eqb}
use Rattle.rules.specs.Words.{pick, unused, live, new, to_swap}
use Rattle.rules.specs.Tables.{chunk_at, entry_at}
use Rattle.laws.specs.Counts.{Every}
use Rattle.views.specs.Views.{Links, Chained}
use Rattle.views.proofs.Rows.{chunk-put, live-set, unused-set}
use Rattle.views.proofs.Entries.{links-length, links-view, links-frame}
use Rattle.views.proofs.Chunks.{chain-frame}
use Rattle.statements.specs.Sound.{Limited}
use Rattle.facts.specs.Facts.{ListRight, listed, KeyInRange, Roles, Made, Rebalancing, Tabled, Same, EntryHeld, Tasked}

pub same-all : (cs : List Chunk) → Same cs cs
same-all cs = record { sized = refl; live = refl; unused = refl; status = λ c. refl; min = λ c. refl; next = λ c. refl }

pub same-put : (cs : List Chunk) (d : ChunkNo) (x : Chunk) → d.0 < length cs → x.status ≡ (chunk_at cs d).status → x.min ≡ (chunk_at cs d).min → x.next ≡ (chunk_at cs d).next → Same cs (set cs d.0 x)
same-put cs d x b p r t =
    record {
      sized = length-set cs d.0 x;
      live = omega (arith, live-set cs d x b, ap (λ (n : ℕ). pick {A = ℕ} (eqb n live) 1 0) p);
      unused = omega (arith, unused-set cs d x b, ap (λ (n : ℕ). pick {A = ℕ} (eqb n unused) 1 0) p);
      status = λ c. chunk-put cs d x c (λ y. y.status ≡ (chunk_at cs c).status) b (λ e. rw e p) (λ ne. refl);
      min = λ c. chunk-put cs d x c (λ y. y.min ≡ (chunk_at cs c).min) b (λ e. rw e r) (λ ne. refl);
      next = λ c. chunk-put cs d x c (λ y. y.next ≡ (chunk_at cs c).next) b (λ e. rw e t) (λ ne. refl);
    }

module _ (z : Sizes) (cs cs' : List Chunk) (same : Same cs cs') where
  pub range-kept : (c : ChunkNo) (k : ℕ) → InRange z cs c k → InRange z cs' c k
  range-kept c k h = record { from = rw (same.min c) h.from; to = rw (same.next c, same.min (chunk_at cs c).next) h.to }

  pub chained-kept : (first : ChunkNo) → Chained z first cs → Chained z first cs'
  chained-kept first h =
      record {
        rest = h.rest;
        chain = chain-frame z cs cs' 0 first (first ∷ h.rest) h.chain (λ c m. (same.status c, same.min c, same.next c));
        from = same.min first ∙ h.from;
        counted = h.counted ∙ sym same.live;
        every = λ c b l. h.every c b (sym (same.status c) ∙ l);
      }

  -- the frozen marks are as they were
  abbrev pub Frozen : Type 0
  Frozen = (c : ChunkNo) → (chunk_at cs' c).frozen ≡ (chunk_at cs c).frozen

  roles-kept : Frozen → (d : Directory) (c : ChunkNo) → Roles d c.0 (chunk_at cs c) → Roles d c.0 (chunk_at cs' c)
  roles-kept frozen d c h =
      record {
        old = λ e. (frozen c ∙ (h.old e).0, same.status c ∙ (h.old e).1);
        new = λ ne o. (frozen c ∙ (h.new ne o).0, same.status c ∙ (h.new ne o).1);
        other = λ a b e. (frozen c ∙ (h.other a b e).0, rw (same.status c) (h.other a b e).1);
      }

  rebalancing-kept : Frozen → (d : Directory) → Rebalancing z d cs → Rebalancing z d cs'
  rebalancing-kept frozen d h =
      record { known = h.known; none = h.none; unmade = h.unmade; old = h.old; room = λ a b. rw same.unused (h.room a b); new = h.new; second = h.second; apart = h.apart; old-new = h.old-new; old-second = h.old-second; roles = λ c b. roles-kept frozen d c (h.roles c b) }

  module _ (es es' : List Entry) where
    -- the chunk's list and its keys are as they were
    pub record Quiet (c : ChunkNo) : Type 0 where
      pub list : listed z cs' es' c ≡ listed z cs es c
      pub keys : Every (λ e. (entry_at z es' c e).key ≡ (entry_at z es c e).key) (listed z cs es c)

    -- what held of each key of the list holds still
    pub quiet-keys : (P : ℕ → Type 0) (c : ChunkNo) → Quiet c → Every (λ e. P (entry_at z es c e).key) (listed z cs es c) → Every (λ e. P (entry_at z es' c e).key) (listed z cs' es' c)
    quiet-keys P c q h e m = rw (q.keys e m') (h e m')
      where
        m' : Memᴰ e (listed z cs es c)
        m' = rw q.list at m

    -- in one chunk that is no new one the list may grow by a key of its range
    abbrev pub Grown : ChunkNo → Type 0
    Grown c = ((chunk_at cs c).status ≢ new) × ((chunk_at cs c).status ≡ live → Every (λ e. InRange z cs c (entry_at z es' c e).key) (listed z cs' es' c))

    pub tabled-kept : Frozen → (d : Directory) → Tabled z d cs es → length es' ≡ length es → ((c : ChunkNo) → c.0 < z.chunks → ListRight z cs' es' c) →
        ((c : ChunkNo) → c.0 < z.chunks → Quiet c ⊎ Grown c) → Tabled z d cs' es'
    tabled-kept frozen d h len lists lists-so =
        record {
          chunks-sized = same.sized ∙ h.chunks-sized;
          entries-sized = len ∙ h.entries-sized;
          lists = lists;
          chained = chained-kept d.first h.chained;
          key-in-range = in-range;
          rebalancing = rebalancing-kept frozen d h.rebalancing;
          made = λ e. made_kept e (h.made e);
        }
      where
        in-range : KeyInRange z cs' es'
        in-range c b l = ⊎_elim (λ q. quiet-keys (InRange z cs' c) c q (λ e m. range-kept c _ (h.key-in-range c b (sym (same.status c) ∙ l) e m))) (λ g e m. range-kept c _ (g.1 (sym (same.status c) ∙ l) e m)) (lists-so c b)

        quiet : (c : ChunkNo) → c.0 < z.chunks → (chunk_at cs c).status ≡ new → Quiet c
        quiet c b e = ⊎_elim (λ q. q) (λ g. absurd (g.0 e)) (lists-so c b)

        made_kept : d.stage ≡ to_swap → Made z d cs es → Made z d cs' es'
        made_kept e m =
            record {
              first-min = same.min d.new ∙ m.first-min ∙ sym (same.min d.old);
              second-min = λ b. rw (same.min d.old, same.min d.second) (m.second-min b);
              second-in = λ b. rw (same.min d.second) (range-kept d.old (chunk_at cs d.second).min (m.second-in b));
              first-keys = quiet-keys (InRange z cs' d.old) d.new first (λ x n. range-kept d.old (entry_at z es d.new x).key (m.first-keys x n));
              first_below = λ b. quiet-keys (λ k. k < (chunk_at cs' d.second).min) d.new first (λ x n. rw (same.min d.second) (m.first_below b x n));
              second-keys = λ b. quiet-keys (InRange z cs' d.old) d.second (second b) (λ x n. range-kept d.old (entry_at z es d.second x).key (m.second-keys b x n));
              second_from = λ b. quiet-keys (λ k. (chunk_at cs' d.second).min ≤ k) d.second (second b) (λ x n. rw (same.min d.second) (m.second_from b x n));
            }
          where
            r : Rebalancing z d cs
            r = h.rebalancing

            late : to_swap ≤ d.stage
            late = omega arith

            first : Quiet d.new
            first = quiet d.new (r.new late) (((r.roles d.new (r.new late)).new (r.old-new late) (inl refl)).1 ∙ rw e)

            second : d.second.0 < z.chunks → Quiet d.second
            second b = quiet d.second b (((r.roles d.second b).new (r.old-second late) (inr refl)).1 ∙ rw e)

    pub tasked-kept : (t : Task) → Tasked z cs es t → ((c : ChunkNo) → c.0 < z.chunks → (chunk_at cs c).used ≤ (chunk_at cs' c).used) →
        ((c : ChunkNo) (e : EntryNo) → c.0 < z.chunks → e.0 < (chunk_at cs c).used → (entry_at z es' c e).key ≡ (entry_at z es c e).key) →
        ((c : ChunkNo) (e : EntryNo) → c.0 < z.chunks → Memᴰ e (listed z cs es c) → Memᴰ e (listed z cs' es' c)) → Tasked z cs' es' t
    tasked-kept t h used keys members =
        record {
          idle = h.idle;
          holds = h.holds;
          chunk-of-key = λ b. ⊎_map (λ p. same.status t.chunk ∙ p) (λ p. (same.status t.chunk ∙ p.0, λ op. range-kept t.chunk t.key (p.1 op))) (h.chunk-of-key b);
          entry = λ b. held (h.entry b);
        }
      where
        held : EntryHeld z cs es t.chunk t.entry t.key t.stage → EntryHeld z cs' es' t.chunk t.entry t.key t.stage
        held e = record { inside = e.inside; used = le_trans e.used (used t.chunk e.inside); keyed = keys t.chunk t.entry e.inside e.used ∙ e.keyed; linked = λ ne. members t.chunk t.entry e.inside (e.linked ne) }

-- a list whose rows keep their keys and nexts is the same list
pub list-quiet : (z : Sizes) (lim : Limited z) (cs cs' : List Chunk) (es es' : List Entry) (c : ChunkNo) → ListRight z cs es c →
    (chunk_at cs' c).head ≡ (chunk_at cs c).head → (chunk_at cs c).used ≤ (chunk_at cs' c).used → (chunk_at cs' c).used ≤ z.entries →
    Every (λ x. ((entry_at z es' c x).key ≡ (entry_at z es c x).key) × ((entry_at z es' c x).next ≡ (entry_at z es c x).next)) (listed z cs es c) →
    (listed z cs' es' c ≡ listed z cs es c) × Links z es' c (chunk_at cs' c).used 0 (chunk_at cs' c).head (listed z cs' es' c)
list-quiet z lim cs cs' es es' c h head used small rows = (seen, rw seen links)
  where
    l : List EntryNo
    l = listed z cs es c

    links : Links z es' c (chunk_at cs' c).used 0 (chunk_at cs' c).head l
    links = rw head (links-frame z es es' c (chunk_at cs c).used (chunk_at cs' c).used 0 (chunk_at cs c).head l used h.links rows)

    seen : listed z cs' es' c ≡ l
    seen = links-view z es' c (chunk_at cs' c).used small lim.entries z.entries 0 (chunk_at cs' c).head l (le_trans (links-length z es' c (chunk_at cs' c).used 0 (chunk_at cs' c).head l links) small) links
