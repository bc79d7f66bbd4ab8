-- Each write of a step keeps the facts of the tables and of every task.
use Prim.Native.Nat.{ℕ, ◌+◌, ◌≤◌, ◌<◌}
use mathlib.Core.Path.{◌≡◌, refl, ap}
use mathlib.Core.Logic.{◌⊎◌, inl, inr, ◌≢◌}
use mathlib.Core.Bool.{true}
use mathlib.Core.List.{List, Memᴰ}
use native.Mathlib.Nat.{le_trans, le_refl}
use native.Mathlib.Numerals.{add-one}
use native.Mathlib.Decide.{ℕ_discrete}
use native.Mathlib.Omega.{arith}
use lib.ListN.{length, set, length-set}
use Rattle.rules.specs.declared.Sizes.{Sizes}
use Rattle.rules.specs.declared.Directory.{Directory}
use Rattle.rules.specs.declared.Task.{Task}
use Rattle.rules.specs.declared.Chunk.{Chunk}
use Rattle.rules.specs.declared.Entry.{Entry}
use Rattle.rules.specs.declared.ChunkNo.{ChunkNo}
use Rattle.rules.specs.declared.EntryNo.{EntryNo}
use Rattle.rules.specs.declared.HandleNo.{HandleNo}
use Rattle.rules.specs.Words.{chunk_no, entry_no, no_entry, no_handle, unused}
use Rattle.rules.specs.Tables.{chunk_at, entry_at, row}
use Rattle.rules.specs.Stages.{with_handle}
use Rattle.rules.specs.Shape.{numbers}
use Rattle.laws.specs.Counts.{Every}
use Rattle.views.specs.Views.{Links}
use Rattle.views.proofs.Rows.{chunk-put, entry-put}
use Rattle.views.proofs.Entries.{links-below}
use Rattle.statements.specs.Sound.{Limited}
use Rattle.facts.specs.Facts.{RowRight, SlotRight, listed, Tabled, Same, EntryHeld, Tasked}
use Rattle.facts.proofs.Numbers.{number-none}
use Rattle.facts.proofs.Sames.{same-all, same-put, tabled-kept, tasked-kept, list-quiet}

pub same-chunk : (c d : ChunkNo) → (c ≡ d) ⊎ (c ≢ d)
same-chunk c d = elim (ℕ_discrete c.0 d.0) [ yes e ↦ inl (ap chunk_no e) | no ne ↦ inr (λ e. ne (ap (λ (c : ChunkNo). c.0) e)) ]

-- the facts after a write, and that it leaves each task's
pub record Written (z : Sizes) (d : Directory) (cs : List Chunk) (es : List Entry) (cs' : List Chunk) (es' : List Entry) : Type 0 where
  pub tables : Tabled z d cs' es'
  pub tasks : (t : Task) → Tasked z cs es t → Tasked z cs' es' t
  pub same : Same cs cs'
  pub members : (c : ChunkNo) (e : EntryNo) → c.0 < z.chunks → Memᴰ e (listed z cs es c) → Memᴰ e (listed z cs' es' c)

module _ (z : Sizes) (lim : Limited z) (d : Directory) (cs : List Chunk) (es : List Entry) (h : Tabled z d cs es) where
  pub nothing_written : Written z d cs es cs es
  nothing_written = record { tables = h; tasks = λ t r. r; same = same-all cs; members = λ c e b m. m }

  -- a linked entry is one of the chunk's
  pub below : (c : ChunkNo) → c.0 < z.chunks → Every (λ x. x.0 < (chunk_at cs c).used) (listed z cs es c)
  below c b = links-below z es c (chunk_at cs c).used 0 (chunk_at cs c).head (listed z cs es c) (h.lists c b).links

  pub inside : (c : ChunkNo) → c.0 < z.chunks → Every (λ x. x.0 < z.entries) (listed z cs es c)
  inside c b x m = le_trans (below c b x m) (h.lists c b).row.used

  module _ (c : ChunkNo) (e : EntryNo) (n : HandleNo) (b : c.0 < z.chunks) (u : e.0 < (chunk_at cs c).used) (num : numbers z.handles n.0 ≡ true) where
    named : List Entry
    named = set es (row z c e) (with_handle (entry_at z es c e) n)

    e-in : e.0 < z.entries
    e-in = le_trans u (h.lists c b).row.used

    named-row : (f : ChunkNo) (x : EntryNo) → x.0 < z.entries → ((entry_at z named f x).key ≡ (entry_at z es f x).key) × ((entry_at z named f x).next ≡ (entry_at z es f x).next)
    unfolding named
    named-row f x bx = entry-put z es c e (with_handle (entry_at z es c e) n) f x (λ y. (y.key ≡ (entry_at z es f x).key) × (y.next ≡ (entry_at z es f x).next)) h.entries-sized b e-in bx (λ p q. rw (p, q) (refl, refl)) (λ _. (refl, refl))

    named-slot : (f : ChunkNo) → f.0 < z.chunks → (x : EntryNo) → x.0 < z.entries → SlotRight z (chunk_at cs f).used x.0 (entry_at z named f x)
    unfolding named
    named-slot f bf x bx = entry-put z es c e (with_handle (entry_at z es c e) n) f x (λ y. SlotRight z (chunk_at cs f).used x.0 y) h.entries-sized b e-in bx here (λ _. (h.lists f bf).slot x bx)
      where
        here : f ≡ c → x ≡ e → SlotRight z (chunk_at cs f).used x.0 (with_handle (entry_at z es c e) n)
        here p q = rw (p, q) (record { handle = λ _. num; next = ((h.lists c b).slot e e-in).next; empty = λ le. absurd (never le) })
          where
            never : (chunk_at cs c).used ≤ e.0 → ⊥
            never le = omega (arith, u)

    named-quiet : (f : ChunkNo) → f.0 < z.chunks → (listed z cs named f ≡ listed z cs es f) × Links z named f (chunk_at cs f).used 0 (chunk_at cs f).head (listed z cs named f)
    named-quiet f bf = list-quiet z lim cs cs es named f (h.lists f bf) refl (le_refl _) (h.lists f bf).row.used (λ x m. named-row f x (inside f bf x m))

    pub name-written : Written z d cs es cs (set es (row z c e) (with_handle (entry_at z es c e) n))
    unfolding named
    name-written =
        record {
          tables = tabled-kept z cs cs (same-all cs) es named (λ f. refl) d h (length-set es _ _) (λ f bf. record { row = (h.lists f bf).row; slot = named-slot f bf; links = (named-quiet f bf).1 }) (λ f bf. inl (record { list = (named-quiet f bf).0; keys = λ x m. (named-row f x (inside f bf x m)).0 }));
          tasks = λ t r. tasked-kept z cs cs (same-all cs) es named t r (λ f bf. le_refl _) (λ f x bf ux. (named-row f x (le_trans ux (h.lists f bf).row.used)).0) (λ f x bf m. rw (named-quiet f bf).0 m);
          same = same-all cs;
          members = λ f x bf m. rw (named-quiet f bf).0 m;
        }

  -- ---- a slot taken
  module _ (c : ChunkNo) (k : ℕ) (b : c.0 < z.chunks) (used : (chunk_at cs c).status ≢ unused) (room : (chunk_at cs c).used < z.entries) where
    slot : EntryNo
    slot = entry_no (chunk_at cs c).used

    taken : Chunk
    taken = record { status = (chunk_at cs c).status; frozen = (chunk_at cs c).frozen; min = (chunk_at cs c).min; next = (chunk_at cs c).next; head = (chunk_at cs c).head; used = (chunk_at cs c).used + 1 }

    chunks' : List Chunk
    chunks' = set cs c.0 taken

    filled : Entry
    filled = record { key = k; handle = no_handle; next = no_entry }

    entries' : List Entry
    entries' = set es (row z c slot) filled

    many : c.0 < length cs
    many = rw h.chunks-sized b

    slot_same : Same cs chunks'
    unfolding taken chunks'
    slot_same = same-put cs c taken many refl refl refl

    slot-head : (f : ChunkNo) → (chunk_at chunks' f).head ≡ (chunk_at cs f).head
    unfolding taken chunks'
    slot-head f = chunk-put cs c taken f (λ y. y.head ≡ (chunk_at cs f).head) many (λ p. rw p refl) (λ _. refl)

    slot-used : (f : ChunkNo) → (P : ℕ → Type 0) → (f ≡ c → P ((chunk_at cs c).used + 1)) → (f ≢ c → P (chunk_at cs f).used) → P (chunk_at chunks' f).used
    unfolding taken chunks'
    slot-used f P = chunk-put cs c taken f (λ y. P y.used) many

    -- a used entry's row is as it was
    slot_row : (f : ChunkNo) (x : EntryNo) → x.0 < (chunk_at cs f).used → x.0 < z.entries → entry_at z entries' f x ≡ entry_at z es f x
    unfolding slot entries'
    slot_row f x ux bx = entry-put z es c slot filled f x (λ y. y ≡ entry_at z es f x) h.entries-sized b room bx (λ p q. absurd (never p q)) (λ _. refl)
      where
        never : f ≡ c → x ≡ slot → ⊥
        never p q = omega (arith, ux, ap (λ (e : EntryNo). e.0) q, ap (λ (f : ChunkNo). (chunk_at cs f).used) p)

    slot-slot : (f : ChunkNo) → f.0 < z.chunks → (x : EntryNo) → x.0 < z.entries → SlotRight z (chunk_at chunks' f).used x.0 (entry_at z entries' f x)
    unfolding slot entries' filled
    slot-slot f bf x bx =
        entry-put z es c slot filled f x (λ y. SlotRight z (chunk_at chunks' f).used x.0 y) h.entries-sized b room bx
        (λ p q. record { handle = λ _. number-none z.handles; next = λ _. number-none z.entries; empty = λ le. absurd (slot-used f (λ n. n ≤ x.0 → ⊥) (λ _ le. over (ap (λ (e : EntryNo). e.0) q) le) (λ ne. absurd (ne p)) le) })
        (λ apart. slot-used f (λ n. SlotRight z n x.0 (entry_at z es f x)) (λ p. grown p (apart p)) (λ _. (h.lists f bf).slot x bx))
      where
        over : x.0 ≡ (chunk_at cs c).used → (chunk_at cs c).used + 1 ≤ x.0 → ⊥
        over q le = omega arith

        grown : f ≡ c → (x ≡ slot → ⊥) → SlotRight z ((chunk_at cs c).used + 1) x.0 (entry_at z es f x)
        grown p ne = record { handle = λ lt. s.handle (less lt); next = λ lt. s.next (less lt); empty = λ le. s.empty (more le) }
          where
            s : SlotRight z (chunk_at cs f).used x.0 (entry_at z es f x)
            s = (h.lists f bf).slot x bx

            other : x.0 ≢ (chunk_at cs c).used
            other q = ne (ap entry_no q)

            less : x.0 < (chunk_at cs c).used + 1 → x.0 < (chunk_at cs f).used
            less lt = omega (arith, other, ap (λ (f : ChunkNo). (chunk_at cs f).used) p)

            more : (chunk_at cs c).used + 1 ≤ x.0 → (chunk_at cs f).used ≤ x.0
            more le = omega (arith, ap (λ (f : ChunkNo). (chunk_at cs f).used) p)

    slot-chunk : (f : ChunkNo) → f.0 < z.chunks → RowRight z (chunk_at chunks' f)
    unfolding taken chunks'
    slot-chunk f bf = chunk-put cs c taken f (RowRight z) many (λ p. record { status = r.status; frozen = r.frozen; next = r.next; used = rw add-one room; empty = λ e. absurd (used e) }) (λ _. (h.lists f bf).row)
      where
        r : RowRight z (chunk_at cs c)
        r = (h.lists c b).row

    slot-quiet : (f : ChunkNo) → f.0 < z.chunks → (listed z chunks' entries' f ≡ listed z cs es f) × Links z entries' f (chunk_at chunks' f).used 0 (chunk_at chunks' f).head (listed z chunks' entries' f)
    slot-quiet f bf =
        list-quiet z lim cs chunks' es entries' f (h.lists f bf) (slot-head f) (slot-more f) (slot-chunk f bf).used
        (λ x m. rw (slot_row f x (below f bf x m) (inside f bf x m)) (refl, refl))
      where
        slot-more : (f : ChunkNo) → (chunk_at cs f).used ≤ (chunk_at chunks' f).used
        slot-more f = slot-used f (λ n. (chunk_at cs f).used ≤ n) (λ p. rw p (omega arith)) (λ _. le_refl _)

    pub slot-written : Written z d cs es
        (set cs c.0 (record { status = (chunk_at cs c).status; frozen = (chunk_at cs c).frozen; min = (chunk_at cs c).min; next = (chunk_at cs c).next; head = (chunk_at cs c).head; used = (chunk_at cs c).used + 1 }))
        (set es (row z c (entry_no (chunk_at cs c).used)) (record { key = k; handle = no_handle; next = no_entry }))
    unfolding taken chunks' entries' filled slot
    slot-written =
        record {
          tables = tabled-kept z cs chunks' slot_same es entries' (λ f. chunk-put cs c taken f (λ y. y.frozen ≡ (chunk_at cs f).frozen) many (λ p. rw p refl) (λ _. refl)) d h (length-set es _ _) (λ f bf. record { row = slot-chunk f bf; slot = slot-slot f bf; links = (slot-quiet f bf).1 }) (λ f bf. inl (record { list = (slot-quiet f bf).0; keys = λ x m. ap (λ (y : Entry). y.key) (slot_row f x (below f bf x m) (inside f bf x m)) }));
          tasks = λ t r. tasked-kept z cs chunks' slot_same es entries' t r (λ f bf. slot-used f (λ n. (chunk_at cs f).used ≤ n) (λ p. rw p (omega arith)) (λ _. le_refl _)) (λ f x bf ux. ap (λ (y : Entry). y.key) (slot_row f x ux (le_trans ux (h.lists f bf).row.used))) (λ f x bf m. rw (slot-quiet f bf).0 m);
          same = slot_same;
          members = λ f x bf m. rw (slot-quiet f bf).0 m;
        }

    -- the slot taken is the key's, and its number is below the count
    pub slot_held : EntryHeld z
        (set cs c.0 (record { status = (chunk_at cs c).status; frozen = (chunk_at cs c).frozen; min = (chunk_at cs c).min; next = (chunk_at cs c).next; head = (chunk_at cs c).head; used = (chunk_at cs c).used + 1 }))
        (set es (row z c (entry_no (chunk_at cs c).used)) (record { key = k; handle = no_handle; next = no_entry })) c (entry_no (chunk_at cs c).used) k 7
    unfolding taken chunks' entries' filled slot
    slot_held =
        record {
          inside = b;
          used = slot-used c (λ n. (chunk_at cs c).used < n) (λ _. omega arith) (λ ne. absurd (ne refl));
          keyed = entry-put z es c slot filled c slot (λ y. y.key ≡ k) h.entries-sized b room room (λ _ _. refl) (λ ne. absurd (ne refl refl));
          linked = λ ne. absurd (ne refl);
        }
