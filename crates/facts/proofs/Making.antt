-- A new chunk made of a list of entries: the facts of the tables then, and the keys of its list.
use Prim.Native.Nat.{ℕ, ◌+◌, ◌≤◌, ◌<◌}
use mathlib.Core.Path.{◌≡◌, refl, sym, ap, ◌∙◌}
use mathlib.Core.Logic.{inr, ⊎_elim, ◌≢◌}
use mathlib.Core.Bool.{true}
use mathlib.Core.List.{List}
use native.Mathlib.Nat.{le_trans, le_refl, zero-add}
use native.Mathlib.Omega.{arith}
use lib.Dec.{eqb, ltb}
use lib.ListN.{length, set}
use borrow.Author.Tests.{ltb-true, ltb-false}
use Rattle.rules.specs.Walks.{InRange}
use Rattle.rules.specs.Map.{Ascends}
use Rattle.views.specs.Copies.{entry_key, up_from, filled}
use Rattle.rules.specs.declared.Sizes.{Sizes}
use Rattle.rules.specs.declared.Task.{Task}
use Rattle.rules.specs.declared.Chunk.{Chunk}
use Rattle.rules.specs.declared.Entry.{Entry}
use Rattle.rules.specs.declared.ChunkNo.{ChunkNo}
use Rattle.rules.specs.declared.EntryNo.{EntryNo}
use Rattle.rules.specs.Words.{pick, no_chunk, no_entry, entry_no, unused, live, new, retired}
use Rattle.rules.specs.Tables.{empty_entry, chunk_at, entry_at}
use Rattle.rules.specs.Shape.{numbers}
use Rattle.laws.specs.Counts.{Every}
use Rattle.laws.proofs.Tests.{by-test}
use Rattle.views.specs.Views.{Links}
use Rattle.views.proofs.Copies.{filled-length, filled-other, filled-links, filled-rows, filled-every}
use Rattle.views.proofs.Entries.{links-length, links-view}
use Rattle.statements.specs.Sound.{Limited}
use Rattle.facts.specs.Facts.{SlotRight, listed, Tasked}
use Rattle.facts.proofs.Numbers.{number-none}
use Rattle.facts.proofs.Putting.{Based, based-put, put-here, put_other, put-task, put-range, put-keys}

-- the row of a new chunk
abbrev pub new_row : ℕ → List Entry → Chunk
new_row min l = record { status = new; frozen = 0; min = min; next = no_chunk; head = pick (eqb (length l) 0) no_entry (entry_no 0); used = length l }

module _ (z : Sizes) (lim : Limited z) (first : ChunkNo) (cs : List Chunk) (es : List Entry) (h : Based z first cs es)
    (c : ChunkNo) (min : ℕ) (l : List Entry) (b : c.0 < z.chunks) (empty : (chunk_at cs c).status ≡ unused) (short : length l ≤ z.entries)
    (rising : Ascends entry_key 0 l) (handles : Every (λ x. numbers z.handles x.handle.0 ≡ true) l) where
  abbrev pub made_chunks : List Chunk
  made_chunks = set cs c.0 (new_row min l)

  abbrev pub made_entries : List Entry
  made_entries = filled z c 0 l es

  was : (chunk_at cs c).status ≢ live
  was e = never (sym empty ∙ e)
    where
      never : ◌≡◌ {A = ℕ} 0 1 → ⊥
      never e = omega arith

  is : (new_row min l).status ≢ live
  is e = omega arith

  fits : 0 + length l ≤ z.entries
  fits = rw zero-add short

  len : length made_entries ≡ length es
  len = filled-length z c 0 l es

  pub rows : (f : ChunkNo) (e : EntryNo) → f ≢ c → e.0 < z.entries → entry_at z made_entries f e ≡ entry_at z es f e
  rows f e ne be = filled-other z c b 0 l es f e fits h.entries-sized be (λ p. absurd (ne p))

  pub made_other : (f : ChunkNo) → f ≢ c → chunk_at made_chunks f ≡ chunk_at cs f
  made_other = put_other z lim first cs es h c (new_row min l) made_entries b was is len rows

  pub made-here : chunk_at made_chunks c ≡ new_row min l
  made-here = put-here z lim first cs es h c (new_row min l) made_entries b was is len rows

  pub made_range : (f : ChunkNo) (k : ℕ) → f.0 < z.chunks → (chunk_at cs f).status ≡ live → InRange z cs f k → InRange z made_chunks f k
  made_range = put-range z lim first cs es h c (new_row min l) made_entries b was is len rows

  pub made-keys : (P : ℕ → Type 0) (f : ChunkNo) → f.0 < z.chunks → f ≢ c → Every (λ e. P (entry_at z es f e).key) (listed z cs es f) → Every (λ e. P (entry_at z made_entries f e).key) (listed z made_chunks made_entries f)
  made-keys = put-keys z lim first cs es h c (new_row min l) made_entries b was is len rows

  links : Links z made_entries c (chunk_at made_chunks c).used 0 (chunk_at made_chunks c).head (up_from 0 (length l))
  links = rw made-here (filled-links z c b (length l) 0 0 l es (rw zero-add (le_refl _)) short h.entries-sized rising)

  pub seen : listed z made_chunks made_entries c ≡ up_from 0 (length l)
  seen = links-view z made_entries c (chunk_at made_chunks c).used small lim.entries z.entries 0 (chunk_at made_chunks c).head (up_from 0 (length l)) (le_trans (links-length z made_entries c (chunk_at made_chunks c).used 0 (chunk_at made_chunks c).head (up_from 0 (length l)) links) small) links
    where
      small : (chunk_at made_chunks c).used ≤ z.entries
      small = rw made-here short

  pub slot : (e : EntryNo) → e.0 < z.entries → SlotRight z (length l) e.0 (entry_at z made_entries c e)
  slot e be = by-test (ltb e.0 (length l)) (λ t. used (ltb-true _ _ t)) (λ t. past (ltb-false _ _ t))
    where
      used : e.0 < length l → SlotRight z (length l) e.0 (entry_at z made_entries c e)
      used lt =
          filled-rows z c b (λ y. SlotRight z (length l) e.0 y) 0 l es fits h.entries-sized
          (λ x m n num. record { handle = λ _. handles x m; next = λ _. num; empty = λ le. absurd (never le) }) e (omega arith) (omega arith)
        where
          never : length l ≤ e.0 → ⊥
          never le = omega arith

      past : length l ≤ e.0 → SlotRight z (length l) e.0 (entry_at z made_entries c e)
      past ge = rw (filled-other z c b 0 l es c e fits h.entries-sized be (λ _. inr (rw zero-add ge)), blank) (record { handle = λ _. number-none z.handles; next = λ _. number-none z.entries; empty = λ _. refl })
        where
          blank : entry_at z es c e ≡ empty_entry
          blank = ((h.lists c b).slot e be).empty (rw ((h.lists c b).row.empty empty) (omega arith))

  pub based-made : Based z first made_chunks made_entries
  based-made =
      based-put z lim first cs es h c (new_row min l) made_entries b was is len rows
      (record {
        row = rw made-here (record { status = omega arith; frozen = omega arith; next = number-none z.chunks; used = short; empty = λ e. absurd (never e) });
        slot = rw made-here slot;
        links = rw seen links;
      })
    where
      never : ◌≡◌ {A = ℕ} 2 0 → ⊥
      never e = omega arith

  -- the keys of its list are those of the list that it was made of
  pub made_list : (P : ℕ → Type 0) → Every (λ x. P x.key) l → Every (λ e. P (entry_at z made_entries c e).key) (listed z made_chunks made_entries c)
  made_list P all = rw seen (filled-every z c b P 0 l es fits h.entries-sized all)

  -- no task holds an unused chunk
  pub made-task : (t : Task) → Tasked z cs es t → Tasked z made_chunks made_entries t
  made-task t r = put-task z lim first cs es h c (new_row min l) made_entries b was is len rows t apart r
    where
      apart : t.chunk ≢ c
      apart p = ⊎_elim (λ (q : (chunk_at cs t.chunk).status ≡ retired). third (sym q ∙ ap (λ (c : ChunkNo). (chunk_at cs c).status) p ∙ empty)) (λ q. was (rw p at q.0)) (r.chunk-of-key (rw p b))
        where
          third : ◌≡◌ {A = ℕ} 3 0 → ⊥
          third e = omega arith
