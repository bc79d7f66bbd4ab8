-- Release keeps the facts.
use Prim.Native.Nat.{ℕ, zero, suc, ◌≤◌, ◌<◌}
use mathlib.Core.Path.{◌≡◌, refl, sym, ap, ◌∙◌}
use mathlib.Core.Logic.{◌⊎◌, inl, inr, ⊎_elim, ◌≢◌}
use mathlib.Core.Bool.{Bool, false, false≢true}
use mathlib.Core.List.{List, [], ◌∷◌}
use native.Mathlib.Nat.{le_refl}
use native.Mathlib.Decide.{ℕ_discrete}
use native.Mathlib.Omega.{arith}
use lib.Dec.{eqb}
use lib.ListN.{length, get_or, set}
use borrow.Author.Tests.{eqb-false}
use Rattle.rules.specs.declared.Sizes.{Sizes}
use Rattle.rules.specs.declared.Directory.{Directory}
use Rattle.rules.specs.declared.Task.{Task}
use Rattle.rules.specs.declared.Chunk.{Chunk}
use Rattle.rules.specs.declared.Entry.{Entry}
use Rattle.rules.specs.declared.ChunkNo.{ChunkNo}
use Rattle.rules.specs.declared.EntryNo.{EntryNo}
use Rattle.rules.specs.Words.{NONE, chunk_no, unused, live, to_release}
use Rattle.rules.specs.Tables.{Tables, idle_task, empty_chunk, empty_entry, with_directory, chunk_at, entry_at, chunk, task, put_chunk, with_chunks, with_entries}
use Rattle.rules.specs.Rebalance.{Outcome, held_chunk, clears, releases, at_rest}
use Rattle.laws.proofs.Tests.{picked, by-test}
use Rattle.views.specs.Views.{Links}
use Rattle.views.specs.Copies.{cleared}
use Rattle.views.proofs.Copies.{clears-is, cleared-length, cleared-other, cleared-here}
use Rattle.views.proofs.Entries.{links-view}
use Rattle.statements.specs.Sound.{Limited}
use Rattle.facts.specs.Facts.{ListRight, listed, Roles, Rebalancing, Tabled, Leaves, Kept}
use Rattle.facts.proofs.Numbers.{number-none}
use Rattle.facts.proofs.Stacking.{same-leaves, stacked-kept}
use Rattle.facts.proofs.Writes.{same-chunk}
use Rattle.facts.proofs.Putting.{Based, based-of, based-put, put-here, put_other, put-task}

-- no task holds the chunk
pub none-holds : (ts : List Task) (c : ChunkNo) (n : ℕ) → held_chunk ts c ≡ false → c.0 ≢ NONE → (get_or ts n idle_task).chunk.0 ≢ c.0
unfolding held_chunk
none-holds [] c n h ne e = ne (sym e)
none-holds (t ∷ ts) c zero h ne e = by-test (eqb t.chunk.0 c.0) (λ q. false≢true (sym h ∙ rw q)) (λ q. eqb-false _ _ q e)
none-holds (t ∷ ts) c (suc n) h ne e = none-holds ts c n (picked (λ (b : Bool). b ≡ false → held_chunk ts c ≡ false) (eqb t.chunk.0 c.0) (λ _ q. absurd (false≢true (sym q))) (λ _ q. q) h) ne e

module _ (z : Sizes) (lim : Limited z) (s : Tables) (kept : Kept z s) (releasing : s.directory.stage ≡ to_release) (free : held_chunk s.tasks s.directory.old ≡ false) where
  h : Tabled z s.directory s.chunks s.entries
  h = kept.tables

  q : Rebalancing z s.directory s.chunks
  q = h.rebalancing

  old : ChunkNo
  old = s.directory.old

  old-in : old.0 < z.chunks
  unfolding old
  old-in = q.old (omega arith)

  was : (chunk s old).status ≢ live
  unfolding old
  was e = never (sym (((q.roles s.directory.old old-in).old refl).1 ∙ rw releasing) ∙ e)
    where
      never : ◌≡◌ {A = ℕ} 3 1 → ⊥
      never e = omega arith

  es : List Entry
  es = cleared z old z.entries s.entries

  cs : List Chunk
  cs = set s.chunks old.0 empty_chunk

  len : length es ≡ length s.entries
  unfolding es
  len = cleared-length z old z.entries s.entries

  rows : (f : ChunkNo) (e : EntryNo) → f ≢ old → e.0 < z.entries → entry_at z es f e ≡ entry_at z s.entries f e
  unfolding es
  rows f e ne b = cleared-other z old old-in z.entries s.entries f e (le_refl _) h.entries-sized b (λ p. absurd (ne p))

  zero_one : empty_chunk.status ≢ live
  zero_one e = omega arith

  base : Based z s.directory.first s.chunks s.entries
  base = based-of z s.directory s.chunks s.entries h

  here : chunk_at cs old ≡ empty_chunk
  unfolding cs
  here = put-here z lim s.directory.first s.chunks s.entries base old empty_chunk es old-in was zero_one len rows

  empty-row : (e : EntryNo) → e.0 < z.entries → entry_at z es old e ≡ empty_entry
  unfolding es
  empty-row e b = cleared-here z old old-in z.entries s.entries e (le_refl _) h.entries-sized b

  list-here : ListRight z cs es old
  unfolding Links
  list-here =
      record {
        row = rw here (record { status = omega arith; frozen = omega arith; next = number-none z.chunks; used = omega arith; empty = λ _. refl });
        slot = λ e b. rw (here, empty-row e b) (record { handle = λ _. number-none z.handles; next = λ _. number-none z.entries; empty = λ _. refl });
        links = rw (none, here) refl;
      }
    where
      none : listed z cs es old ≡ []
      none = links-view z es old 0 (omega arith) lim.entries z.entries 0 (chunk_at cs old).head [] (omega arith) (rw here refl)

  released : Based z s.directory.first cs es
  unfolding cs
  released = based-put z lim s.directory.first s.chunks s.entries base old empty_chunk es old-in was zero_one len rows list-here

  d : Directory
  d = at_rest s.directory

  roles : (f : ChunkNo) → f.0 < z.chunks → Roles d f.0 (chunk_at cs f)
  unfolding d cs old
  roles f b = record { old = λ e. absurd (none e); new = λ _ o. absurd (⊎_elim none none o); other = λ _ _ _. ⊎_elim (λ (p : f ≡ old). rw (p, here) (refl, inl refl)) (λ ne. kept-role ne) (same-chunk f old) }
    where
      none : NONE ≡ f.0 → ⊥
      none e = omega (arith, lim.chunks)

      r : Roles s.directory f.0 (chunk s f)
      r = q.roles f b

      other : f ≢ old → chunk_at cs f ≡ chunk s f
      other ne = put_other z lim s.directory.first s.chunks s.entries base old empty_chunk es old-in was zero_one len rows f ne

      kept-role : f ≢ old → ((chunk_at cs f).frozen ≡ 0) × (((chunk_at cs f).status ≡ unused) ⊎ ((chunk_at cs f).status ≡ live))
      kept-role ne = rw (other ne) (elim (ℕ_discrete s.directory.new.0 f.0) [ yes e ↦ is-new (inl e) | no n1 ↦ elim (ℕ_discrete s.directory.second.0 f.0) [ yes e ↦ is-new (inr e) | no n2 ↦ r.other not-old n1 n2 ] ])
        where
          not-old : s.directory.old.0 ≢ f.0
          not-old e = ne (sym (ap chunk_no e))

          is-new : (s.directory.new.0 ≡ f.0) ⊎ (s.directory.second.0 ≡ f.0) → ((chunk s f).frozen ≡ 0) × (((chunk s f).status ≡ unused) ⊎ ((chunk s f).status ≡ live))
          is-new o = ((r.new not-old o).0, inr ((r.new not-old o).1 ∙ rw releasing))

  abbrev after : Tables
  after = with_chunks (with_entries (with_directory s (at_rest s.directory)) es) cs

  -- no task holds the chunk that goes
  unheld : (n : ℕ) → (task s n).chunk ≢ old
  unfolding old
  unheld n p = none-holds s.tasks s.directory.old n free (λ e. absurd (omega (arith, lim.chunks, old-in, e))) (ap (λ (c : ChunkNo). c.0) p)

  after-leaves : (n : ℕ) → Leaves z s after (task s n).chunk
  unfolding cs es
  after-leaves n =
      record {
        tasked = λ t e r. put-task z lim s.directory.first s.chunks s.entries base old empty_chunk es old-in was zero_one len rows t (λ p. unheld n (sym e ∙ p)) r;
        min = λ _. ap (λ (y : Chunk). y.min) (put_other z lim s.directory.first s.chunks s.entries base old empty_chunk es old-in was zero_one len rows (task s n).chunk (unheld n));
      }

  cleared-kept : Kept z (put_chunk (clears z s z.entries (with_directory s (at_rest s.directory)) s.directory.old) s.directory.old empty_chunk)
  unfolding d cs es old
  cleared-kept =
      rw (clears-is z s.directory.old s z.entries (with_directory s (at_rest s.directory)))
      (record {
        tasks-sized = kept.tasks-sized;
        values-sized = kept.values-sized;
        marks-sized = kept.marks-sized;
        marks = kept.marks;
        tables =
            record {
              chunks-sized = released.chunks-sized;
              entries-sized = released.entries-sized;
              lists = released.lists;
              chained = released.chained;
              key-in-range = released.key-in-range;
              rebalancing = record { known = omega arith; none = λ _. refl; unmade = λ _. (refl, refl); old = λ b. absurd (late b); room = λ b _. absurd (late b); new = λ b. absurd (later b); second = λ b. absurd (later b); apart = λ b. absurd (later b); old-new = λ b. absurd (later b); old-second = λ b. absurd (later b); roles = roles };
              made = λ e. absurd (three e);
            };
        tasks = λ n. (after-leaves n).tasked (task s n) refl (kept.tasks n);
        stacks-sized = kept.stacks-sized;
        stacks = λ n b. stacked-kept z lim s kept after n (after-leaves n) b;
      })
    where
      late : 1 ≤ 0 → ⊥
      late b = omega arith

      later : 3 ≤ 0 → ⊥
      later b = omega arith

      three : ◌≡◌ {A = ℕ} 0 3 → ⊥
      three e = omega arith

pub release-kept : (z : Sizes) → Limited z → (s : Tables) → Kept z s → s.directory.stage ≡ to_release → Kept z (releases z s).tables
release-kept z lim s kept e = picked (λ (o : Outcome). Kept z o.tables) (held_chunk s.tasks s.directory.old) (λ _. kept) (λ f. cleared-kept z lim s kept e f)

pub release-leaves : (z : Sizes) → Limited z → (s : Tables) → Kept z s → s.directory.stage ≡ to_release → (n : ℕ) → Leaves z s (releases z s).tables (task s n).chunk
unfolding es cs old
release-leaves z lim s kept e n =
    picked (λ (o : Outcome). Leaves z s o.tables (task s n).chunk) (held_chunk s.tasks s.directory.old) (λ _. same-leaves z s (task s n).chunk)
    (λ f. rw (clears-is z s.directory.old s z.entries (with_directory s (at_rest s.directory))) (after-leaves z lim s kept e f n))
