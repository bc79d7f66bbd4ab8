-- Begin and drain keep the facts.
use Prim.Native.Nat.{ℕ, ◌≤◌, ◌<◌}
use mathlib.Core.Path.{◌≡◌, refl, sym, ap, ◌∙◌}
use mathlib.Core.Logic.{◌⊎◌, ⊎_elim, ◌≢◌}
use mathlib.Core.List.{List}
use native.Mathlib.Nat.{le_refl}
use native.Mathlib.Omega.{arith}
use lib.Dec.{eqb, ltb}
use lib.ListN.{length, set}
use borrow.Author.Tests.{ltb-false, eqb-true}
use Rattle.rules.specs.declared.Sizes.{Sizes}
use Rattle.rules.specs.declared.Directory.{Directory}
use Rattle.rules.specs.declared.Task.{Task}
use Rattle.rules.specs.declared.Chunk.{Chunk}
use Rattle.rules.specs.declared.ChunkNo.{ChunkNo}
use Rattle.rules.specs.Words.{NONE, chunk_no, no_chunk, unused, live, idle, to_drain, to_copy}
use Rattle.rules.specs.Tables.{Tables, chunk_at, chunk, task}
use Rattle.rules.specs.Walks.{locate, InRange}
use Rattle.rules.specs.Rebalance.{Outcome, unused_count, published_on, frozen_of, begins, drains, with_rebalance}
use Rattle.laws.proofs.Tests.{picked}
use Rattle.views.specs.Views.{Links}
use Rattle.views.proofs.Rows.{chunk-put}
use Rattle.statements.specs.Sound.{Limited}
use Rattle.facts.specs.Facts.{RowRight, ListRight, listed, KeyInRange, Roles, Rebalancing, Tabled, Same, Tasked, Leaves, Kept}
use Rattle.facts.proofs.Sames.{same-put, range-kept, chained-kept, quiet-keys, tasked-kept, list-quiet}
use Rattle.facts.proofs.Going.{located}
use Rattle.facts.proofs.Stacking.{same-leaves, stacked-kept}

module _ (z : Sizes) (lim : Limited z) (s : Tables) (kept : Kept z s) where
  h : Tabled z s.directory s.chunks s.entries
  h = kept.tables

  -- ---- begin
  module _ (k : ℕ) (resting : s.directory.stage ≡ idle) (room : 2 ≤ unused_count s.chunks) where
    c : ChunkNo
    c = locate z s k

    c-in : c.0 < z.chunks
    unfolding c
    c-in = (located z lim s h k).0

    c-live : (chunk s c).status ≡ live
    unfolding c
    c-live = (located z lim s h k).1.0

    many : c.0 < length s.chunks
    many = rw h.chunks-sized c-in

    cs : List Chunk
    cs = set s.chunks c.0 (frozen_of (chunk s c))

    d : Directory
    d = with_rebalance s.directory to_drain c no_chunk no_chunk

    same : Same s.chunks cs
    unfolding cs
    same = same-put s.chunks c (frozen_of (chunk s c)) many refl refl refl

    -- all of a row but its frozen mark is as it was
    row_is : (f : ChunkNo) (P : Chunk → Type 0) → (f ≡ c → P (frozen_of (chunk s c))) → (f ≢ c → P (chunk s f)) → P (chunk_at cs f)
    unfolding cs
    row_is f P = chunk-put s.chunks c (frozen_of (chunk s c)) f P many

    head-is : (f : ChunkNo) → (chunk_at cs f).head ≡ (chunk s f).head
    head-is f = row_is f (λ y. y.head ≡ (chunk s f).head) (λ p. rw p refl) (λ _. refl)

    used-is : (f : ChunkNo) → (chunk_at cs f).used ≡ (chunk s f).used
    used-is f = row_is f (λ y. y.used ≡ (chunk s f).used) (λ p. rw p refl) (λ _. refl)

    row-right : (f : ChunkNo) → f.0 < z.chunks → RowRight z (chunk_at cs f)
    row-right f b = row_is f (RowRight z) here (λ _. (h.lists f b).row)
      where
        here : f ≡ c → RowRight z (frozen_of (chunk s c))
        here p = record { status = r.status; frozen = omega arith; next = r.next; used = r.used; empty = λ e. absurd (one (sym c-live ∙ e)) }
          where
            r : RowRight z (chunk s c)
            r = (h.lists c c-in).row

            one : ◌≡◌ {A = ℕ} 1 0 → ⊥
            one e = omega arith

    quiet : (f : ChunkNo) → f.0 < z.chunks → (listed z cs s.entries f ≡ listed z s.chunks s.entries f) × Links z s.entries f (chunk_at cs f).used 0 (chunk_at cs f).head (listed z cs s.entries f)
    quiet f b = list-quiet z lim s.chunks cs s.entries s.entries f (h.lists f b) (head-is f) (rw (used-is f) (le_refl _)) (row-right f b).used (λ x m. (refl, refl))

    list_right : (f : ChunkNo) → f.0 < z.chunks → ListRight z cs s.entries f
    list_right f b = record { row = row-right f b; slot = λ e be. rw (used-is f) ((h.lists f b).slot e be); links = (quiet f b).1 }

    in-range : KeyInRange z cs s.entries
    in-range f b l =
        quiet-keys z s.chunks cs same s.entries s.entries (InRange z cs f) f (record { list = (quiet f b).0; keys = λ e m. refl })
        (λ e m. range-kept z s.chunks cs same f _ (h.key-in-range f b (sym (same.status f) ∙ l) e m))

    -- the rebalance was idle, so no chunk was frozen, new or retired
    at_rest : (f : ChunkNo) → f.0 < z.chunks → ((chunk s f).frozen ≡ 0) × (((chunk s f).status ≡ unused) ⊎ ((chunk s f).status ≡ live))
    at_rest f b = (q.roles f b).other (λ e. none (sym (q.none resting) ∙ e)) (λ e. none (sym (q.unmade early).0 ∙ e)) (λ e. none (sym (q.unmade early).1 ∙ e))
      where
        q : Rebalancing z s.directory s.chunks
        q = h.rebalancing

        early : s.directory.stage ≤ to_copy
        early = omega arith

        none : NONE ≡ f.0 → ⊥
        none e = omega (arith, lim.chunks)

    roles : (f : ChunkNo) → f.0 < z.chunks → Roles d f.0 (chunk_at cs f)
    unfolding d
    roles f b =
        record {
          old = λ e. row_is f (λ y. (y.frozen ≡ 1) × (y.status ≡ live)) (λ _. (refl, c-live)) (λ ne. absurd (ne (sym (ap chunk_no e))));
          new = λ _ o. absurd (⊎_elim none none o);
          other = λ ne _ _. row_is f (λ y. (y.frozen ≡ 0) × ((y.status ≡ unused) ⊎ (y.status ≡ live))) (λ p. absurd (ne (ap (λ (c : ChunkNo). c.0) (sym p)))) (λ _. at_rest f b);
        }
      where
        none : NONE ≡ f.0 → ⊥
        none e = omega (arith, lim.chunks)

    rebalancing : Rebalancing z d cs
    unfolding d
    rebalancing =
        record {
          known = omega arith;
          none = λ e. absurd (idle-not e);
          unmade = λ _. (refl, refl);
          old = λ _. c-in;
          room = λ _ _. rw same.unused room;
          new = λ b. absurd (late b);
          second = λ b. absurd (late b);
          apart = λ b. absurd (late b);
          old-new = λ b. absurd (late b);
          old-second = λ b. absurd (late b);
          roles = roles;
        }
      where
        idle-not : ◌≡◌ {A = ℕ} 1 0 → ⊥
        idle-not e = omega arith

        late : 3 ≤ 1 → ⊥
        late b = omega arith

    task-right : (t : Task) → Tasked z s.chunks s.entries t → Tasked z cs s.entries t
    task-right t r = tasked-kept z s.chunks cs same s.entries s.entries t r (λ f b. rw (used-is f) (le_refl _)) (λ f e b u. refl) (λ f e b m. rw (quiet f b).0 m)

    abbrev after : Tables
    after = record { directory = with_rebalance s.directory to_drain (locate z s k) no_chunk no_chunk; tasks = s.tasks; chunks = set s.chunks (locate z s k).0 (frozen_of (chunk s (locate z s k))); entries = s.entries; values = s.values; marks = s.marks; stacks = s.stacks; index = s.index }

    begun-leaves : (f : ChunkNo) → Leaves z s after f
    unfolding c cs
    begun-leaves f = record { tasked = λ t _ r. task-right t r; min = λ _. same.min f }

    begun : Kept z after
    unfolding c cs d
    begun =
        record {
          tasks-sized = kept.tasks-sized;
          values-sized = kept.values-sized;
          marks-sized = kept.marks-sized;
          marks = kept.marks;
          tables = record { chunks-sized = same.sized ∙ h.chunks-sized; entries-sized = h.entries-sized; lists = list_right; chained = chained-kept z s.chunks cs same s.directory.first h.chained; key-in-range = in-range; rebalancing = rebalancing; made = λ e. absurd (three e) };
          tasks = λ n. task-right (task s n) (kept.tasks n);
          stacks-sized = kept.stacks-sized;
          stacks = λ n b. stacked-kept z lim s kept after n (begun-leaves (task s n).chunk) b;
        }
      where
        three : ◌≡◌ {A = ℕ} 1 3 → ⊥
        three e = omega arith

  pub begin-kept : (k : ℕ) → Kept z (begins z s k).tables
  begin-kept k =
      picked K (eqb s.directory.stage idle)
      (λ e. picked K (ltb (unused_count s.chunks) 2) (λ _. kept) (λ r. begun k (eqb-true _ _ e) (ltb-false _ _ r))) (λ _. kept)
    where
      K : Outcome → Type 0
      K o = Kept z o.tables

  pub begin-leaves : (k : ℕ) (f : ChunkNo) → Leaves z s (begins z s k).tables f
  begin-leaves k f =
      picked L (eqb s.directory.stage idle)
      (λ e. picked L (ltb (unused_count s.chunks) 2) (λ _. same-leaves z s f) (λ r. begun-leaves k (eqb-true _ _ e) (ltb-false _ _ r) f)) (λ _. same-leaves z s f)
    where
      L : Outcome → Type 0
      L o = Leaves z s o.tables f

  pub drain-leaves : (f : ChunkNo) → Leaves z s (drains z s).tables f
  drain-leaves f = picked (λ (o : Outcome). Leaves z s o.tables f) (published_on s.tasks s.directory.old) (λ _. same-leaves z s f) (λ _. record { tasked = λ t _ r. r; min = λ _. refl })

  -- ---- drain
  module _ (draining : s.directory.stage ≡ to_drain) where
    q : Rebalancing z s.directory s.chunks
    q = h.rebalancing

    d' : Directory
    d' = with_rebalance s.directory to_copy s.directory.old no_chunk no_chunk

    drained-roles : (f : ChunkNo) → f.0 < z.chunks → Roles d' f.0 (chunk s f)
    unfolding d'
    drained-roles f b =
        record {
          old = λ e. (((q.roles f b).old e).0, ((q.roles f b).old e).1 ∙ rw draining);
          new = λ _ o. absurd (⊎_elim none none o);
          other = λ ne _ _. (q.roles f b).other ne (λ e. none (sym (q.unmade early).0 ∙ e)) (λ e. none (sym (q.unmade early).1 ∙ e));
        }
      where
        early : s.directory.stage ≤ to_copy
        early = omega arith

        none : NONE ≡ f.0 → ⊥
        none e = omega (arith, lim.chunks)

    drained : Kept z (record { directory = with_rebalance s.directory to_copy s.directory.old no_chunk no_chunk; tasks = s.tasks; chunks = s.chunks; entries = s.entries; values = s.values; marks = s.marks; stacks = s.stacks; index = s.index })
    unfolding d'
    drained =
        record {
          tasks-sized = kept.tasks-sized;
          values-sized = kept.values-sized;
          marks-sized = kept.marks-sized;
          marks = kept.marks;
          tables =
              record {
                chunks-sized = h.chunks-sized;
                entries-sized = h.entries-sized;
                lists = h.lists;
                chained = h.chained;
                key-in-range = h.key-in-range;
                rebalancing = record { known = omega arith; none = λ e. absurd (two e); unmade = λ _. (refl, refl); old = λ _. q.old (omega arith); room = λ _ _. q.room (omega arith) (omega arith); new = λ b. absurd (late b); second = λ b. absurd (late b); apart = λ b. absurd (late b); old-new = λ b. absurd (late b); old-second = λ b. absurd (late b); roles = drained-roles };
                made = λ e. absurd (three e);
              };
          tasks = kept.tasks;
          stacks-sized = kept.stacks-sized;
          stacks = kept.stacks;
        }
      where
        two : ◌≡◌ {A = ℕ} 2 0 → ⊥
        two e = omega arith

        three : ◌≡◌ {A = ℕ} 2 3 → ⊥
        three e = omega arith

        late : 3 ≤ 2 → ⊥
        late b = omega arith

    pub drain_kept : Kept z (drains z s).tables
    drain_kept = picked (λ (o : Outcome). Kept z o.tables) (published_on s.tasks s.directory.old) (λ _. kept) (λ _. drained)
