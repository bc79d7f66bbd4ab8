-- Copy keeps the facts.
use Prim.Native.Nat.{ℕ, ◌+◌, ◌/◌, ◌≤◌, ◌<◌}
use mathlib.Core.Path.{◌≡◌, refl, sym, ap, ◌∙◌}
use mathlib.Core.Logic.{⊎_elim, ◌≢◌}
use mathlib.Core.Bool.{true}
use mathlib.Core.List.{List}
use native.Mathlib.Nat.{le_trans, min-le_left}
use native.Mathlib.Omega.{arith}
use lib.Dec.{leb}
use lib.ListN.{length, get_or, set, take, drop, length-take, length-drop}
use borrow.Author.Tests.{leb-false}
use Rattle.rules.specs.Walks.{InRange}
use Rattle.rules.specs.Map.{Ascends}
use Rattle.views.specs.Copies.{entry_key, filled}
use Rattle.rules.specs.declared.Sizes.{Sizes}
use Rattle.rules.specs.declared.Directory.{Directory}
use Rattle.rules.specs.declared.Task.{Task}
use Rattle.rules.specs.declared.Chunk.{Chunk}
use Rattle.rules.specs.declared.Entry.{Entry}
use Rattle.rules.specs.declared.ChunkNo.{ChunkNo}
use Rattle.rules.specs.Words.{NONE, chunk_no, no_chunk, unused, live, new, to_copy, to_swap}
use Rattle.rules.specs.Tables.{Tables, empty_entry, chunk_at, entry_at, chunk, task, with_directory, with_chunks, with_entries}
use Rattle.rules.specs.Rebalance.{Outcome, unused_count, unused_from, naming_from, makes, copies, at, with_rebalance}
use Rattle.rules.specs.Shape.{numbers}
use Rattle.laws.specs.Counts.{Every}
use Rattle.laws.proofs.Tests.{picked}
use Rattle.views.specs.Views.{Links}
use Rattle.views.proofs.Rows.{chunk-either}
use Rattle.views.proofs.Copies.{fill_is}
use Rattle.views.proofs.Entries.{links-length}
use Rattle.views.proofs.Naming.{naming-rising, naming-length, naming-every, rising-take, rising-drop, rising-from, rising-grows, take_below, get_or-in, every_take, every_drop, unused-first, unused-next}
use Rattle.views.proofs.Stacks.{ascends-above}
use Rattle.statements.specs.Sound.{Limited}
use Rattle.facts.specs.Facts.{listed, Roles, Made, Rebalancing, Tabled, Tasked, Leaves, Kept}
use Rattle.facts.proofs.Numbers.{number_in, number-none}
use Rattle.facts.proofs.Stacking.{stacked-kept}
use Rattle.facts.proofs.Putting.{Based, based-of}
use Rattle.facts.proofs.Making.{new_row, made_other, made-here, made_range, made-keys, made_list, made-task, based-made}

-- what holds of the tables with one new chunk or two, and every other chunk as it was, holds of those that copy leaves
module _ (z : Sizes) (s : Tables) where
  abbrev first_free : ChunkNo
  first_free = unused_from s.chunks 0

  abbrev second_free : ChunkNo
  second_free = unused_from (drop (first_free.0 + 1) s.chunks) (first_free.0 + 1)

  pub copy-by : (P : Tables → Type 0) →
      ((c : ChunkNo) (cs : List Chunk) (es : List Entry) → ((f : ChunkNo) → f ≢ first_free → f ≢ second_free → chunk_at cs f ≡ chunk s f) → P (with_chunks (with_entries (with_directory s (at z s to_swap first_free c)) es) cs)) → P (copies z s).tables
  copy-by P by =
      picked (λ (o : Outcome). P o.tables) (leb (length l) (z.entries / 2))
      (λ _. rw (fill_is z first_free (with_directory s (at z s to_swap first_free no_chunk)) 0 l) (by no_chunk _ _ (λ f ne _. first l f ne)))
      (λ _. rw (fill_is z first_free (with_directory s (at z s to_swap first_free second_free)) 0 l₁, fill_is z second_free (with_chunks (with_entries (with_directory s (at z s to_swap first_free second_free)) (filled z first_free 0 l₁ s.entries)) (set s.chunks first_free.0 (new_row (chunk s s.directory.old).min l₁))) 0 l₂)
      (by second_free _ _ (λ f ne nf. chunk-either (set s.chunks first_free.0 (new_row (chunk s s.directory.old).min l₁)) second_free (new_row (get_or l ((length l + 1) / 2) empty_entry).key l₂) f (λ y. y ≡ chunk s f) (λ e. absurd (nf e)) (first l₁ f ne))))
    where
      l : List Entry
      l = naming_from z s.entries s.directory.old z.entries (chunk s s.directory.old).head

      l₁ : List Entry
      l₁ = take ((length l + 1) / 2) l

      l₂ : List Entry
      l₂ = drop ((length l + 1) / 2) l

      first : (r : List Entry) (f : ChunkNo) → f ≢ first_free → chunk_at (set s.chunks first_free.0 (new_row (chunk s s.directory.old).min r)) f ≡ chunk s f
      first r f ne = chunk-either s.chunks first_free (new_row (chunk s s.directory.old).min r) f (λ y. y ≡ chunk s f) (λ e. absurd (ne e)) refl

module _ (z : Sizes) (lim : Limited z) (s : Tables) (kept : Kept z s) (copying : s.directory.stage ≡ to_copy) where
  h : Tabled z s.directory s.chunks s.entries
  h = kept.tables

  q : Rebalancing z s.directory s.chunks
  q = h.rebalancing

  pub base : Based z s.directory.first s.chunks s.entries
  base = based-of z s.directory s.chunks s.entries h

  abbrev old : ChunkNo
  old = s.directory.old

  pub old-in : old.0 < z.chunks
  old-in = q.old (omega arith)

  old-role : ((chunk s old).frozen ≡ 1) × ((chunk s old).status ≡ live)
  old-role = (((q.roles old old-in).old refl).0, ((q.roles old old-in).old refl).1 ∙ rw copying)

  -- ---- the entries that are copied
  abbrev l : List Entry
  l = naming_from z s.entries old z.entries (chunk s old).head

  pub links : Links z s.entries old (chunk s old).used 0 (chunk s old).head (listed z s.chunks s.entries old)
  links = (h.lists old old-in).links

  pub small : (chunk s old).used ≤ z.entries
  small = (h.lists old old-in).row.used

  pub l-rising : Ascends entry_key 0 l
  l-rising = naming-rising z s.entries old (chunk s old).used small lim.entries z.entries 0 (chunk s old).head (listed z s.chunks s.entries old) links

  pub l-short : length l ≤ z.entries
  l-short = le_trans (naming-length z s.entries old (chunk s old).used small lim.entries z.entries 0 (chunk s old).head (listed z s.chunks s.entries old) links) (le_trans (links-length z s.entries old (chunk s old).used 0 (chunk s old).head (listed z s.chunks s.entries old) links) small)

  pub l-handles : Every (λ x. numbers z.handles x.handle.0 ≡ true) l
  l-handles = naming-every z s.entries old (chunk s old).used small lim.entries (λ x. numbers z.handles x.handle.0 ≡ true) z.entries 0 (chunk s old).head (listed z s.chunks s.entries old) links (λ x m b. number_in _ _ b)

  l-range : Every (λ x. InRange z s.chunks old x.key) l
  l-range = naming-every z s.entries old (chunk s old).used small lim.entries (λ x. InRange z s.chunks old x.key) z.entries 0 (chunk s old).head (listed z s.chunks s.entries old) links (λ x m b. h.key-in-range old old-in old-role.1 x m)

  -- ---- the chunks that they go to
  abbrev a : ChunkNo
  a = unused_from s.chunks 0

  abbrev b : ChunkNo
  b = unused_from (drop (a.0 + 1) s.chunks) (a.0 + 1)

  room : 2 ≤ unused_count s.chunks
  room = q.room (omega arith) (omega arith)

  pub a-free : (a.0 < z.chunks) × ((chunk s a).status ≡ unused)
  a-free = (rw (← h.chunks-sized) (unused-first s.chunks (le_trans (omega arith) room)).0, (unused-first s.chunks (le_trans (omega arith) room)).1)

  b-found : (b.0 < length s.chunks) × ((chunk s b).status ≡ unused) × (a.0 + 1 ≤ b.0)
  b-found = unused-next s.chunks (a.0 + 1) (omega (arith, room, (unused-first s.chunks (le_trans (omega arith) room)).2))

  pub b-free : (b.0 < z.chunks) × ((chunk s b).status ≡ unused)
  b-free = (rw (← h.chunks-sized) b-found.0, b-found.1)

  pub b-apart : b ≢ a
  b-apart p = omega (arith, b-found.2, ap (λ (c : ChunkNo). c.0) p)

  pub not-unused : (c : ChunkNo) → (chunk s c).status ≡ unused → old ≢ c
  not-unused c e p = never (sym old-role.1 ∙ ap (λ (c : ChunkNo). (chunk s c).status) p ∙ e)
    where
      never : ◌≡◌ {A = ℕ} 1 0 → ⊥
      never e = omega arith

  -- ---- the rebalance afterwards
  abbrev after : ChunkNo → Directory
  after c = with_rebalance s.directory to_swap old a c

  module _ (c : ChunkNo) (cs' : List Chunk) (num : numbers z.chunks c.0 ≡ true) (apart : a.0 ≢ c.0) (old-c : old.0 ≢ c.0)
      (at_old : chunk_at cs' old ≡ chunk s old) (at_new : ((chunk_at cs' a).frozen ≡ 0) × ((chunk_at cs' a).status ≡ new)) (at_second : c.0 < z.chunks → ((chunk_at cs' c).frozen ≡ 0) × ((chunk_at cs' c).status ≡ new))
      (others : (f : ChunkNo) → f ≢ a → f ≢ c → chunk_at cs' f ≡ chunk s f) where
    roles : (f : ChunkNo) → f.0 < z.chunks → Roles (after c) f.0 (chunk_at cs' f)
    roles f bf =
        record {
          old = λ e. rw (← (ap chunk_no e), at_old) old-role;
          new = λ _ o. ⊎_elim (λ (e : a.0 ≡ f.0). rw (← (ap chunk_no e)) at_new) (λ (e : c.0 ≡ f.0). second e) o;
          other = λ n1 n2 n3. rw (others f (λ p. n2 (ap (λ (c : ChunkNo). c.0) (sym p))) (λ p. n3 (ap (λ (c : ChunkNo). c.0) (sym p)))) ((q.roles f bf).other n1 (λ e. none (sym (q.unmade early).0 ∙ e)) (λ e. none (sym (q.unmade early).1 ∙ e)));
        }
      where
        second : c.0 ≡ f.0 → ((chunk_at cs' f).frozen ≡ 0) × ((chunk_at cs' f).status ≡ new)
        second e = rw (← (ap chunk_no e)) (at_second (rw e bf))

        early : s.directory.stage ≤ to_copy
        early = omega arith

        none : NONE ≡ f.0 → ⊥
        none e = omega (arith, lim.chunks)

    rebalancing : Rebalancing z (after c) cs'
    rebalancing =
        record {
          known = omega arith;
          none = λ e. absurd (three e);
          unmade = λ le. absurd (late le);
          old = λ _. old-in;
          room = λ _ le. absurd (late le);
          new = λ _. a-free.0;
          second = λ _. num;
          apart = λ _. apart;
          old-new = λ _ e. not-unused a a-free.1 (ap chunk_no e);
          old-second = λ _. old-c;
          roles = roles;
        }
      where
        three : ◌≡◌ {A = ℕ} 3 0 → ⊥
        three e = omega arith

        late : 3 ≤ 2 → ⊥
        late le = omega arith

  -- what a copy leaves of every task, and of a chunk in use
  abbrev Copied : List Chunk → List Entry → Type 0
  Copied cs' es' = ((t : Task) → Tasked z s.chunks s.entries t → Tasked z cs' es' t) × ((f : ChunkNo) → f ≢ a → f ≢ b → chunk_at cs' f ≡ chunk s f)

  -- the tables with the new chunks, by their chunks and entries
  abbrev with : ChunkNo → List Chunk → List Entry → Tables
  with c cs' es' = with_chunks (with_entries (with_directory s (after c)) es') cs'

  copied-leaves : (c : ChunkNo) (cs' : List Chunk) (es' : List Entry) → Copied cs' es' → (f : ChunkNo) → Leaves z s (with c cs' es') f
  copied-leaves c cs' es' t f = record { tasked = λ x _ r. t.0 x r; min = λ u. ap (λ (y : Chunk). y.min) (t.1 f (λ p. u (rw p a-free.1)) (λ p. u (rw p b-free.1))) }

  copied : (c : ChunkNo) (cs' : List Chunk) (es' : List Entry) → Based z s.directory.first cs' es' → Rebalancing z (after c) cs' → Made z (after c) cs' es' → Copied cs' es' → Kept z (with c cs' es')
  copied c cs' es' g r m t =
      record {
        tasks-sized = kept.tasks-sized;
        values-sized = kept.values-sized;
        marks-sized = kept.marks-sized;
        marks = kept.marks;
        tables = record { chunks-sized = g.chunks-sized; entries-sized = g.entries-sized; lists = g.lists; chained = g.chained; key-in-range = g.key-in-range; rebalancing = r; made = λ _. m };
        tasks = λ n. t.0 (task s n) (kept.tasks n);
        stacks-sized = kept.stacks-sized;
        stacks = λ n b. stacked-kept z lim s kept (with c cs' es') n (copied-leaves c cs' es' t (task s n).chunk) b;
      }

  -- ---- to one chunk
  one-copied : Copied (set s.chunks a.0 (new_row (chunk s old).min l)) (filled z a 0 l s.entries)
  one-copied = (made-task z lim s.directory.first s.chunks s.entries base a (chunk s old).min l a-free.0 a-free.1 l-short l-rising l-handles, λ f ne _. made_other z lim s.directory.first s.chunks s.entries base a (chunk s old).min l a-free.0 a-free.1 l-short l-rising l-handles f ne)

  one : Kept z (makes z (with_directory s (after no_chunk)) a (chunk s old).min l)
  one = rw (fill_is z a (with_directory s (after no_chunk)) 0 l) (copied no_chunk cs₁ es₁ base₁ (rebalancing no_chunk cs₁ (number-none z.chunks) (λ e. never a-free.0 e) (λ e. never old-in e) at_old (rw at_new (refl, refl)) (λ i. absurd (out i)) (λ f ne _. made_other z lim s.directory.first s.chunks s.entries base a (chunk s old).min l a-free.0 a-free.1 l-short l-rising l-handles f ne)) made one-copied)
    where
      cs₁ : List Chunk
      cs₁ = set s.chunks a.0 (new_row (chunk s old).min l)

      es₁ : List Entry
      es₁ = filled z a 0 l s.entries

      base₁ : Based z s.directory.first cs₁ es₁
      base₁ = based-made z lim s.directory.first s.chunks s.entries base a (chunk s old).min l a-free.0 a-free.1 l-short l-rising l-handles

      at_old : chunk_at cs₁ old ≡ chunk s old
      at_old = made_other z lim s.directory.first s.chunks s.entries base a (chunk s old).min l a-free.0 a-free.1 l-short l-rising l-handles old (not-unused a a-free.1)

      at_new : chunk_at cs₁ a ≡ new_row (chunk s old).min l
      at_new = made-here z lim s.directory.first s.chunks s.entries base a (chunk s old).min l a-free.0 a-free.1 l-short l-rising l-handles

      never : {n : ℕ} → n < z.chunks → n ≡ NONE → ⊥
      never i e = omega (arith, lim.chunks)

      out : NONE < z.chunks → ⊥
      out i = omega (arith, lim.chunks)

      made : Made z (after no_chunk) cs₁ es₁
      made =
          record {
            first-min = rw (at_new, at_old) refl;
            second-min = λ i. absurd (out i);
            second-in = λ i. absurd (out i);
            first-keys = made_list z lim s.directory.first s.chunks s.entries base a (chunk s old).min l a-free.0 a-free.1 l-short l-rising l-handles (InRange z cs₁ old) (λ x m. made_range z lim s.directory.first s.chunks s.entries base a (chunk s old).min l a-free.0 a-free.1 l-short l-rising l-handles old x.key old-in old-role.1 (l-range x m));
            first_below = λ i. absurd (out i);
            second-keys = λ i. absurd (out i);
            second_from = λ i. absurd (out i);
          }

  -- ---- to two chunks
  module _ (over : z.entries / 2 < length l) where
    abbrev half : ℕ
    half = (length l + 1) / 2

    abbrev least : ℕ
    least = (get_or l half empty_entry).key

    pub inner : half < length l
    inner = omega (arith, lim.two)

    abbrev l₁ : List Entry
    l₁ = take half l

    abbrev l₂ : List Entry
    l₂ = drop half l

    pub l₁-short : length l₁ ≤ z.entries
    l₁-short = rw length-take (le_trans (min-le_left half (length l)) (le_trans (omega (arith, inner)) l-short))

    pub l₂-short : length l₂ ≤ z.entries
    l₂-short = rw length-drop (omega (arith, l-short))

    pub l₂-rising : Ascends entry_key 0 l₂
    l₂-rising = rising-from least 0 l₂ (rising-drop 0 half l inner l-rising) (λ x m. omega arith)

    abbrev cs₁ : List Chunk
    cs₁ = set s.chunks a.0 (new_row (chunk s old).min l₁)

    abbrev es₁ : List Entry
    es₁ = filled z a 0 l₁ s.entries

    abbrev cs₂ : List Chunk
    cs₂ = set cs₁ b.0 (new_row least l₂)

    abbrev es₂ : List Entry
    es₂ = filled z b 0 l₂ es₁

    pub h₁ : Every (λ x. numbers z.handles x.handle.0 ≡ true) l₁
    h₁ = every_take (λ x. numbers z.handles x.handle.0 ≡ true) half l l-handles

    pub h₂ : Every (λ x. numbers z.handles x.handle.0 ≡ true) l₂
    h₂ = every_drop (λ x. numbers z.handles x.handle.0 ≡ true) half l l-handles

    pub r₁ : Ascends entry_key 0 l₁
    r₁ = rising-take 0 half l l-rising

    pub base₁ : Based z s.directory.first cs₁ es₁
    base₁ = based-made z lim s.directory.first s.chunks s.entries base a (chunk s old).min l₁ a-free.0 a-free.1 l₁-short r₁ h₁

    same₁ : (f : ChunkNo) → f ≢ a → chunk_at cs₁ f ≡ chunk s f
    same₁ = made_other z lim s.directory.first s.chunks s.entries base a (chunk s old).min l₁ a-free.0 a-free.1 l₁-short r₁ h₁

    here₁ : chunk_at cs₁ a ≡ new_row (chunk s old).min l₁
    here₁ = made-here z lim s.directory.first s.chunks s.entries base a (chunk s old).min l₁ a-free.0 a-free.1 l₁-short r₁ h₁

    pub b-unused : (chunk_at cs₁ b).status ≡ unused
    b-unused = rw (same₁ b b-apart) b-free.1

    base₂ : Based z s.directory.first cs₂ es₂
    base₂ = based-made z lim s.directory.first cs₁ es₁ base₁ b least l₂ b-free.0 b-unused l₂-short l₂-rising h₂

    same₂ : (f : ChunkNo) → f ≢ b → chunk_at cs₂ f ≡ chunk_at cs₁ f
    same₂ = made_other z lim s.directory.first cs₁ es₁ base₁ b least l₂ b-free.0 b-unused l₂-short l₂-rising h₂

    at_second : chunk_at cs₂ b ≡ new_row least l₂
    at_second = made-here z lim s.directory.first cs₁ es₁ base₁ b least l₂ b-free.0 b-unused l₂-short l₂-rising h₂

    at_first : chunk_at cs₂ a ≡ new_row (chunk s old).min l₁
    at_first = same₂ a (λ p. b-apart (sym p)) ∙ here₁

    at_old : chunk_at cs₂ old ≡ chunk s old
    at_old = same₂ old (not-unused b b-free.1) ∙ same₁ old (not-unused a a-free.1)

    range₁ : (k : ℕ) → InRange z s.chunks old k → InRange z cs₁ old k
    range₁ k i = made_range z lim s.directory.first s.chunks s.entries base a (chunk s old).min l₁ a-free.0 a-free.1 l₁-short r₁ h₁ old k old-in old-role.1 i

    range₂ : (k : ℕ) → InRange z s.chunks old k → InRange z cs₂ old k
    range₂ k i = made_range z lim s.directory.first cs₁ es₁ base₁ b least l₂ b-free.0 b-unused l₂-short l₂-rising h₂ old k old-in (rw (same₁ old (not-unused a a-free.1)) old-role.1) (range₁ k i)

    -- what holds of the keys of a half holds of the keys of its chunk's list
    first-list : (P : ℕ → Type 0) → Every (λ x. P x.key) l₁ → Every (λ e. P (entry_at z es₂ a e).key) (listed z cs₂ es₂ a)
    first-list P all =
        made-keys z lim s.directory.first cs₁ es₁ base₁ b least l₂ b-free.0 b-unused l₂-short l₂-rising h₂ P a a-free.0 (λ p. b-apart (sym p))
        (made_list z lim s.directory.first s.chunks s.entries base a (chunk s old).min l₁ a-free.0 a-free.1 l₁-short r₁ h₁ P all)

    second-list : (P : ℕ → Type 0) → Every (λ x. P x.key) l₂ → Every (λ e. P (entry_at z es₂ b e).key) (listed z cs₂ es₂ b)
    second-list = made_list z lim s.directory.first cs₁ es₁ base₁ b least l₂ b-free.0 b-unused l₂-short l₂-rising h₂

    two_made : Made z (after b) cs₂ es₂
    two_made =
        record {
          first-min = rw (at_first, at_old) refl;
          second-min = λ _. rw (at_second, at_old) (past (rising-grows (chunk s old).min half l inner (rising-from 0 (chunk s old).min l l-rising (λ x m. (l-range x m).from))));
          second-in = λ _. rw at_second (range₂ least (l-range (get_or l half empty_entry) (get_or-in half l inner)));
          first-keys = first-list (InRange z cs₂ old) (every_take (λ x. InRange z cs₂ old x.key) half l (λ x m. range₂ x.key (l-range x m)));
          first_below = λ _. rw at_second (first-list (λ k. k < least) (take_below 0 half l inner l-rising));
          second-keys = λ _. second-list (InRange z cs₂ old) (every_drop (λ x. InRange z cs₂ old x.key) half l (λ x m. range₂ x.key (l-range x m)));
          second_from = λ _. second-list (λ k. (chunk_at cs₂ b).min ≤ k) (λ x m. rw at_second (ascends-above entry_key least l₂ (rising-drop 0 half l inner l-rising) x m));
        }
      where
        past : (chunk s old).min + half ≤ least → (chunk s old).min < least
        past le = omega (arith, lim.two)

    two-copied : Copied cs₂ es₂
    two-copied = (λ t r. made-task z lim s.directory.first cs₁ es₁ base₁ b least l₂ b-free.0 b-unused l₂-short l₂-rising h₂ t (made-task z lim s.directory.first s.chunks s.entries base a (chunk s old).min l₁ a-free.0 a-free.1 l₁-short r₁ h₁ t r), λ f n1 n2. same₂ f n2 ∙ same₁ f n1)

    two-leaves : (f : ChunkNo) → Leaves z s (makes z (makes z (with_directory s (after b)) a (chunk s old).min l₁) b least l₂) f
    two-leaves f = rw (fill_is z a (with_directory s (after b)) 0 l₁, fill_is z b (with b cs₁ es₁) 0 l₂) (copied-leaves b cs₂ es₂ two-copied f)

    two : Kept z (makes z (makes z (with_directory s (after b)) a (chunk s old).min l₁) b least l₂)
    two =
        rw (fill_is z a (with_directory s (after b)) 0 l₁, fill_is z b (with b cs₁ es₁) 0 l₂)
        (copied b cs₂ es₂ base₂ (rebalancing b cs₂ (number_in _ _ b-free.0) (λ e. b-apart (sym (ap chunk_no e))) (λ e. not-unused b b-free.1 (ap chunk_no e)) at_old (rw at_first (refl, refl)) (λ _. rw at_second (refl, refl)) two-copied.1) two_made two-copied)

  pub copy-kept : Kept z (copies z s).tables
  copy-kept = picked (λ (o : Outcome). Kept z o.tables) (leb (length l) (z.entries / 2)) (λ _. one) (λ t. two (leb-false _ _ t))

  pub copy-leaves : (f : ChunkNo) → Leaves z s (copies z s).tables f
  copy-leaves f =
      picked (λ (o : Outcome). Leaves z s o.tables f) (leb (length l) (z.entries / 2))
      (λ _. rw (fill_is z a (with_directory s (after no_chunk)) 0 l) (copied-leaves no_chunk _ _ one-copied f)) (λ t. two-leaves (leb-false _ _ t) f)
