-- The facts hold of fresh tables.
use Prim.Native.Nat.{ℕ, zero, suc, ◌*◌, ◌≤◌, ◌<◌}
use mathlib.Core.Path.{◌≡◌, refl, ap, ◌∙◌}
use mathlib.Core.Logic.{◌⊎◌, inl, inr, ⊎_elim, ◌≢◌}
use mathlib.Core.List.Memᴰ
use mathlib.Core.List.{List, []}
use native.Mathlib.Omega.{arith}
use lib.ListN.{length, get_or, set, replicate, length-replicate, length-set}
use Rattle.rules.specs.declared.Sizes.{Sizes}
use Rattle.rules.specs.declared.Directory.{Directory}
use Rattle.rules.specs.declared.Chunk.{Chunk}
use Rattle.rules.specs.declared.Entry.{Entry}
use Rattle.rules.specs.declared.ChunkNo.{ChunkNo}
use Rattle.rules.specs.declared.EntryNo.{EntryNo}
use Rattle.rules.specs.Words.{NONE, chunk_no, no_chunk, unused, live, idle}
use Rattle.rules.specs.Tables.{idle_task, empty_chunk, empty_entry, empty_stack, chunk_at, entry_at}
use Rattle.rules.specs.Rebalance.{with_status}
use Rattle.rules.specs.Shape.{live_count}
use Rattle.rules.specs.Calls.{fresh}
use Rattle.laws.specs.Counts.{Every}
use Rattle.views.specs.Views.{Links, Chain, Chained}
use Rattle.views.proofs.Rows.{chunk-put, live-set, one}
use Rattle.views.proofs.Entries.{links-view}
use Rattle.statements.specs.Sound.{Limited}
use Rattle.facts.specs.Facts.{RowRight, ListRight, listed, Roles, Rebalancing, Tasked, Kept}
use Rattle.rules.proofs.Fresh.{get_d_replicate}
use Rattle.facts.proofs.Numbers.{number-none}
use Rattle.facts.proofs.Stacking.{none-stacked}

-- every row of such a table is the one, past its end too
pub get_or-all : {A : Type 0} (n i : ℕ) (a : A) → get_or (replicate n a) i a ≡ a
get_or-all zero i a = refl
get_or-all (suc n) zero a = refl
get_or-all (suc n) (suc i) a = get_or-all n i a

none-live : (n : ℕ) → live_count (replicate n empty_chunk) ≡ 0
unfolding live_count
none-live zero = refl
none-live (suc n) = none-live n

module _ (z : Sizes) (lim : Limited z) where
  cs : List Chunk
  cs = set (replicate z.chunks empty_chunk) 0 (with_status empty_chunk live)

  es : List Entry
  es = replicate (z.chunks * z.entries) empty_entry

  many : 0 < length (replicate z.chunks empty_chunk)
  many = rw length-replicate lim.some

  -- chunk 0 is live, the others are unused, and all are empty
  chunk-is : (c : ChunkNo) (P : Chunk → Type 0) → (c ≡ chunk_no 0 → P (with_status empty_chunk live)) → (c ≢ chunk_no 0 → P empty_chunk) → P (chunk_at cs c)
  unfolding cs
  chunk-is c P f g = chunk-put (replicate z.chunks empty_chunk) (chunk_no 0) (with_status empty_chunk live) c P many f (λ ne. rw (get_or-all z.chunks c.0 empty_chunk) (g ne))

  entry-is : (c : ChunkNo) (e : EntryNo) → entry_at z es c e ≡ empty_entry
  unfolding es
  entry-is c e = get_or-all (z.chunks * z.entries) _ empty_entry

  list-is : (c : ChunkNo) → (Links z es c (chunk_at cs c).used 0 (chunk_at cs c).head []) × (listed z cs es c ≡ [])
  unfolding Links
  list-is c = (at, links-view z es c 0 (omega arith) lim.entries z.entries 0 (chunk_at cs c).head [] (omega arith) at)
    where
      at : (chunk_at cs c).head.0 ≡ NONE
      at = chunk-is c (λ y. y.head.0 ≡ NONE) (λ _. refl) (λ _. refl)

  nothing-listed : (c : ChunkNo) (P : EntryNo → Type 0) → Every P (listed z cs es c)
  nothing-listed c P x m = absurd (Memᴰ.not-nil (rw (list-is c).1 at m))

  list_right : (c : ChunkNo) → ListRight z cs es c
  list_right c =
      record {
        row = chunk-is c (RowRight z) (λ _. record { status = omega arith; frozen = omega arith; next = number-none z.chunks; used = omega arith; empty = λ e. absurd (one e) }) (λ _. record { status = omega arith; frozen = omega arith; next = number-none z.chunks; used = omega arith; empty = λ e. refl });
        slot = λ e b. rw (entry-is c e) (record { handle = λ _. number-none z.handles; next = λ _. number-none z.entries; empty = λ _. refl });
        links = rw (list-is c).1 (list-is c).0;
      }
    where
      one : ◌≡◌ {A = ℕ} 1 0 → ⊥
      one e = omega arith

  one-live : 1 ≡ live_count cs
  unfolding cs
  one-live = omega (arith, none-live z.chunks, ap (one live) (get_or-all z.chunks 0 empty_chunk), live-set (replicate z.chunks empty_chunk) (chunk_no 0) (with_status empty_chunk live) many)

  chained-right : Chained z (chunk_no 0) cs
  unfolding Chain
  chained-right =
      record {
        rest = [];
        chain = (refl, lim.some, first (λ y. y.status ≡ live) refl, omega arith, first (λ y. y.next.0 ≡ NONE) refl);
        from = first (λ y. y.min ≡ 0) refl;
        counted = one-live;
        every = λ c b l. Memᴰ.head (chunk-is c (λ y. y.status ≡ live → c ≡ chunk_no 0) (λ p _. p) (λ _ q. absurd (zero q)) l);
      }
    where
      first : (P : Chunk → Type 0) → P (with_status empty_chunk live) → P (chunk_at cs (chunk_no 0))
      first P p = chunk-is (chunk_no 0) P (λ _. p) (λ ne. absurd (ne refl))

      zero : ◌≡◌ {A = ℕ} 0 1 → ⊥
      zero q = omega arith

  resting : Directory
  resting = record { first = chunk_no 0; stage = idle; old = no_chunk; new = no_chunk; second = no_chunk; indexed = 1 }

  rebalancing-right : Rebalancing z resting cs
  unfolding resting
  rebalancing-right =
      record {
        known = omega arith;
        none = λ _. refl;
        unmade = λ _. (refl, refl);
        old = λ b. absurd (late b);
        room = λ b _. absurd (late b);
        new = λ b. absurd (later b);
        second = λ b. absurd (later b);
        apart = λ b. absurd (later b);
        old-new = λ b. absurd (later b);
        old-second = λ b. absurd (later b);
        roles = roles;
      }
    where
      late : 1 ≤ 0 → ⊥
      late b = omega arith

      later : 3 ≤ 0 → ⊥
      later b = omega arith

      roles : (c : ChunkNo) → c.0 < z.chunks → Roles resting c.0 (chunk_at cs c)
      roles c b =
          record {
            old = λ e. absurd (never e);
            new = λ _ o. absurd (⊎_elim never never o);
            other = λ _ _ _. chunk-is c (λ y. (y.frozen ≡ 0) × ((y.status ≡ unused) ⊎ (y.status ≡ live))) (λ _. (refl, inr refl)) (λ _. (refl, inl refl));
          }
        where
          never : NONE ≡ c.0 → ⊥
          never e = omega (arith, lim.chunks)

  pub fresh_kept : Kept z (fresh z)
  unfolding cs es resting
  fresh_kept =
      record {
        tasks-sized = length-replicate z.tasks idle_task;
        values-sized = length-replicate z.handles 0;
        marks-sized = length-replicate z.handles 0;
        marks = λ h. rw (get_or-all {A = ℕ} z.handles h 0) (omega arith);
        tables =
            record {
              chunks-sized = length-set (replicate z.chunks empty_chunk) 0 (with_status empty_chunk live) ∙ length-replicate z.chunks empty_chunk;
              entries-sized = length-replicate (z.chunks * z.entries) empty_entry;
              lists = λ c b. list_right c;
              chained = chained-right;
              key-in-range = λ c b l. nothing-listed c _;
              rebalancing = rebalancing-right;
              made = λ e. absurd (three e);
            };
        tasks = λ n. rw (get_or-all z.tasks n idle_task) idle-task;
        stacks-sized = length-replicate z.tasks (empty_stack z);
        stacks = λ n b. rw (get_d_replicate z.tasks n (empty_stack z) [] b) (none-stacked z cs es _);
      }
    where
      three : ◌≡◌ {A = ℕ} 0 3 → ⊥
      three e = omega arith

      out-chunk : NONE < z.chunks → ⊥
      out-chunk b = omega (arith, lim.chunks)

      out-entry : NONE < z.entries → ⊥
      out-entry b = omega (arith, lim.entries)

      idle-task : Tasked z cs es idle_task
      idle-task = record { idle = λ _. refl; holds = λ ne. absurd (ne refl); chunk-of-key = λ b. absurd (out-chunk b); entry = λ b. absurd (out-entry b) }
