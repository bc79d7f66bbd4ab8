-- The stacks: entries on them stay linked, with their keys, while their chunk is held; and what a task's own step leaves on its stack.
use Prim.Native.Nat.{ℕ, suc, ◌-◌, ◌≤◌, ◌<◌}
use mathlib.Core.Path.{◌≡◌, refl, sym, ap, ◌∙◌}
use mathlib.Core.Logic.{◌≢◌, ⊎_map}
use mathlib.Core.Bool.{true, false}
use mathlib.Core.List.Memᴰ
use mathlib.Core.List.{List, [], ◌∷◌, ◌++◌, Memᴰ}
use native.Mathlib.Nat.{le_trans}
use native.Mathlib.Omega.{arith}
use lib.Dec.{eqb, ltb}
use lib.ListN.{length, get_or, set}
use borrow.Author.Tests.{lt-ltb, eq-eqb, eqb-true, eqb-false, ltb-true, ltb-false}
use Rattle.rules.specs.declared.Sizes.{Sizes}
use Rattle.rules.specs.declared.Task.{Task}
use Rattle.rules.specs.declared.Chunk.{Chunk}
use Rattle.rules.specs.declared.Entry.{Entry}
use Rattle.rules.specs.declared.ChunkNo.{ChunkNo}
use Rattle.rules.specs.declared.EntryNo.{EntryNo}
use Rattle.rules.specs.declared.Decision.{Decision}
use Rattle.rules.specs.Words.{no_entry, no_handle, live, get}
use Rattle.rules.specs.Tables.{Tables, empty_stack, chunk, entry_at, task, stack}
use Rattle.rules.specs.Walks.{depth, top, off, over, linked, InRange}
use Rattle.rules.specs.Map.{Ascends}
use Rattle.rules.specs.Stages
use Rattle.laws.specs.Counts.{Every}
use Rattle.laws.proofs.EachStage.{at_stage}
use Rattle.laws.proofs.Tests.{by-test}
use Rattle.views.specs.Views.{Links, on_stack}
use Rattle.views.proofs.Entries.{links-below, links-length}
use Rattle.views.proofs.Stacks.{Last, last-of, member-last, member-others, length_last, ascends-others, ascends_same, all_none, depth-over, over-top, over-off, on-over, Within, within-view}
use Rattle.statements.specs.Sound.{Limited}
use Rattle.facts.specs.Facts.{listed, Tabled, EntryHeld, Tasked, Stacked, Leaves, Kept}
use Rattle.facts.proofs.Going.{located}

-- tables that are as they were
pub same-leaves : (z : Sizes) (s : Tables) (c : ChunkNo) → Leaves z s s c
same-leaves z s c = record { tasked = λ t _ r. r; min = λ _. refl }

-- nothing on it, whatever the task
pub none-stacked : (z : Sizes) (cs : List Chunk) (es : List Entry) (t : Task) → Stacked z cs es t (empty_stack z)
unfolding over Ascends
none-stacked z cs es t = record { on = []; words = refl; short = omega arith; linked = λ e m. absurd (Memᴰ.not-nil m); rises = tt; held = λ ne. absurd (ne refl) }

some-on : {P : Type 0} (l : List EntryNo) → (l ≡ [] → P) → ((x : EntryNo) (r : List EntryNo) → l ≡ x ∷ r → P) → P
some-on [] f g = f refl
some-on (x ∷ r) f g = g x r refl

not-empty : (x : EntryNo) (l r : List EntryNo) → r ≡ x ∷ l → r ≢ []
not-empty x l r e q = go (sym e ∙ q)
  where
    go : x ∷ l ≡ [] → ⊥
    go p = omega (arith, ap length p)

has-member : (l : List EntryNo) (e : EntryNo) → Memᴰ e l → l ≢ []
has-member l e m q = Memᴰ.not-nil (rw q at m)

-- where a task holds nothing at 23 its stack is empty
pub stack-empty : (z : Sizes) (cs : List Chunk) (es : List Entry) (t : Task) (w : List EntryNo) → Stacked z cs es t w → t.stage ≢ 23 → w ≡ empty_stack z
unfolding over
stack-empty z cs es t w k ne = some-on k.on (λ e. k.words ∙ ap (λ (l : List EntryNo). over l (empty_stack z)) e) (λ x r e. absurd (ne (k.held (not-empty x r k.on e)).0))

module _ (z : Sizes) (lim : Limited z) (s : Tables) (kept : Kept z s) where
  abbrev h : Tabled z s.directory s.chunks s.entries
  h = kept.tables

  -- ---- over a call that is none of the task's: what it leaves of a task that holds the same chunk it leaves of each entry on the stack
  module _ (x : Tables) (n : ℕ) (leaves : Leaves z s x (task s n).chunk) (b : n < z.tasks) where
    abbrev c : ChunkNo
    c = (task s n).chunk

    abbrev k : Stacked z s.chunks s.entries (task s n) (stack s n)
    k = kept.stacks n b

    -- a get that has found the entry
    abbrev holder : EntryNo → Task
    holder e = record { stage = 3; operation = get; function = 0; key = (entry_at z s.entries c e).key; argument = 0; chunk = c; entry = e; old = no_handle; new = no_handle; published = 0; swapped = 0 }

    module _ (e : EntryNo) (m : Memᴰ e k.on) where
      inside : c.0 < z.chunks
      inside = (k.held (has-member k.on e m)).1

      used : e.0 < (chunk s c).used
      used = links-below z s.entries c (chunk s c).used 0 (chunk s c).head (listed z s.chunks s.entries c) (h.lists c inside).links e (k.linked e m)

      small : e.0 < z.entries
      small = le_trans used (h.lists c inside).row.used

      holding : Tasked z s.chunks s.entries (holder e)
      holding =
          record {
            idle = λ q. absurd (three q);
            holds = λ _. record { fits = refl; function = refl; chunk = lt-ltb _ _ inside; entry = lt-ltb _ _ small; old = refl; new = refl; published = refl; swapped = refl };
            chunk-of-key = λ _. ⊎_map (λ q. q) (λ p. (p.0, λ _. h.key-in-range c inside p.0 e (k.linked e m))) ((kept.tasks n).chunk-of-key inside);
            entry = λ _. record { inside = inside; used = used; keyed = refl; linked = λ _. k.linked e m };
          }
        where
          three : ◌≡◌ {A = ℕ} 3 0 → ⊥
          three q = omega arith

      after : EntryHeld z x.chunks x.entries (task s n).chunk e (entry_at z s.entries (task s n).chunk e).key 3
      after = (leaves.tasked (holder e) refl holding).entry small

    -- its key stays
    pub key-stays : Every (λ e. (entry_at z x.entries (task s n).chunk e).key ≡ (entry_at z s.entries (task s n).chunk e).key) (kept.stacks n b).on
    key-stays e m = (after e m).keyed

    pub stacked-kept : Stacked z x.chunks x.entries (task s n) (stack s n)
    stacked-kept =
        record {
          on = k.on;
          words = k.words;
          short = k.short;
          linked = λ e m. (after e m).linked (omega arith);
          rises = ascends_same (λ e. (entry_at z s.entries (task s n).chunk e).key) (λ e. (entry_at z x.entries (task s n).chunk e).key) 0 k.on key-stays k.rises;
          held = k.held;
        }

  -- ---- what is on a task's stack, by its words
  module _ (n : ℕ) (b : n < z.tasks) where
    abbrev pub t : Task
    t = task s n

    abbrev pub stands : Stacked z s.chunks s.entries t (stack s n)
    stands = kept.stacks n b

    -- nothing, or those below and the one on top
    pub data Seen : Type 0 where
      empty : stands.on ≡ [] → stack s n ≡ empty_stack z → z.entries ≤ (top z (stack s n)).0 → Seen
      topped : (l : List EntryNo) (e : EntryNo) → stands.on ≡ l ++ e ∷ [] → e.0 < z.entries → top z (stack s n) ≡ e → off z (stack s n) ≡ over l (empty_stack z) → depth z (stack s n) ≡ suc (length l) → Seen

    pub on-small : Every (λ e. e.0 < z.entries) stands.on
    on-small e m = le_trans (links-below z s.entries t.chunk (chunk s t.chunk).used 0 (chunk s t.chunk).head (listed z s.chunks s.entries t.chunk) (h.lists t.chunk inside).links e (stands.linked e m)) (h.lists t.chunk inside).row.used
      where
        inside : t.chunk.0 < z.chunks
        inside = (stands.held (has-member stands.on e m)).1

    deep : depth z (stack s n) ≡ length stands.on
    deep = rw stands.words (depth-over z lim.entries stands.on z.entries on-small stands.short)

    pub on-is : on_stack z s n ≡ stands.on
    on-is = rw stands.words (on-over z lim.entries stands.on z.entries on-small stands.short)

    pub seen : Seen
    unfolding over depth
    seen = some-on stands.on nothing (λ x r e. some x r e (last-of x r))
      where
        nothing : stands.on ≡ [] → Seen
        nothing e = Seen.empty e words (rw (words, all_none z.entries _) lim.entries)
          where
            words : stack s n ≡ empty_stack z
            words = stands.words ∙ ap (λ (l : List EntryNo). over l (empty_stack z)) e

        some : (x : EntryNo) (r : List EntryNo) → stands.on ≡ x ∷ r → Last (x ∷ r) → Seen
        some x r e v = Seen.topped v.others v.last is (on-small v.last (rw is (member-last v.others v.last))) at_top without (deep ∙ many)
          where
            is : stands.on ≡ v.others ++ v.last ∷ []
            is = e ∙ v.is

            many : length stands.on ≡ suc (length v.others)
            many = ap length is ∙ length_last v.others v.last

            fits : length v.others < z.entries
            fits = omega (arith, many, stands.short)

            place : depth z (stack s n) - 1 ≡ length v.others
            place = omega (arith, deep, many)

            words : stack s n ≡ over (v.others ++ v.last ∷ []) (empty_stack z)
            words = stands.words ∙ ap (λ (l : List EntryNo). over l (empty_stack z)) is

            at_top : top z (stack s n) ≡ v.last
            at_top = ap (λ (i : ℕ). get_or (stack s n) i no_entry) place ∙ ap (λ (w : List EntryNo). get_or w (length v.others) no_entry) words ∙ over-top v.others v.last z.entries fits

            without : off z (stack s n) ≡ over v.others (empty_stack z)
            without = ap (λ (i : ℕ). set (stack s n) i no_entry) place ∙ ap (λ (w : List EntryNo). set w (length v.others) no_entry) words ∙ over-off v.others v.last z.entries fits

    -- ---- the task's own step
    taken : ltb (top z (stack s n)).0 z.entries ≡ true → Stacked z s.chunks s.entries t (off z (stack s n))
    taken q = go seen
      where
        go : Seen → Stacked z s.chunks s.entries t (off z (stack s n))
        go (Seen.empty _ _ o) = absurd (out (ltb-true _ _ q) o)
          where
            out : (top z (stack s n)).0 < z.entries → z.entries ≤ (top z (stack s n)).0 → ⊥
            out i o = omega arith
        go (Seen.topped l e is _ _ without _) =
            record {
              on = l;
              words = without;
              short = omega (arith, ap length is, length_last l e, stands.short);
              linked = λ x m. stands.linked x (rw is (member-others l e x m));
              rises = ascends-others (λ e. (entry_at z s.entries t.chunk e).key) 0 l e (rw is at stands.rises);
              held = λ _. stands.held (λ p. has-member (l ++ e ∷ []) e (member-last l e) (sym is ∙ p));
            }

    -- an empty stack is all none
    cleared : ltb (top z (stack s n)).0 z.entries ≡ false → stack s n ≡ empty_stack z
    cleared q = go seen
      where
        go : Seen → stack s n ≡ empty_stack z
        go (Seen.empty _ words _) = words
        go (Seen.topped _ _ _ i at _ _) = absurd (out (ltb-false _ _ q))
          where
            out : z.entries ≤ (top z (stack s n)).0 → ⊥
            out o = omega (arith, i, ap (λ (e : EntryNo). e.0) at)

    -- the chunk that the task fills from, and the entries that it takes from there
    pub found : ((Stages.next_down z s t).0 < z.chunks) × (((chunk s (Stages.next_down z s t)).status ≡ live) × InRange z s.chunks (Stages.next_down z s t) (Stages.sought z s t))
    found = located z lim s h (Stages.sought z s t)

    abbrev pub next : ChunkNo
    next = Stages.next_down z s t

    links : Links z s.entries next (chunk s next).used 0 (chunk s next).head (linked z s next)
    links = (h.lists next found.0).links

    few : (chunk s next).used ≤ z.entries
    few = (h.lists next found.0).row.used

    short : length (linked z s next) ≤ z.entries
    short = le_trans (links-length z s.entries next (chunk s next).used 0 (chunk s next).head (linked z s next) links) few

    pub takes : Within z s.entries next t.key (Stages.up_to z s t) 0 (linked z s next) (Stages.fills_with z s t)
    takes = within-view z s.entries next t.key (Stages.up_to z s t) (chunk s next).used few lim.entries z.entries 0 (chunk s next).head (linked z s next) short links

    pub takes-small : Every (λ e. e.0 < z.entries) (Stages.fills_with z s t)
    takes-small e m = le_trans (links-below z s.entries next (chunk s next).used 0 (chunk s next).head (linked z s next) links e (takes.listed e m)) few

    pub takes-short : length (Stages.fills_with z s t) ≤ z.entries
    takes-short = le_trans takes.short short

    filled : stack s n ≡ empty_stack z → Stacked z s.chunks s.entries (Stages.fills z s t).task (over (Stages.fills_with z s t) (stack s n))
    filled e =
        record {
          on = Stages.fills_with z s t;
          words = ap (over (Stages.fills_with z s t)) e;
          short = takes-short;
          linked = takes.listed;
          rises = takes.rises;
          held = λ _. (refl, found.0);
        }

    abbrev Own : Decision → Type 0
    Own x = Stacked z (Stages.apply z (Stages.put_own z s n x.task) x.write).chunks (Stages.apply z (Stages.put_own z s n x.task) x.write).entries x.task (Stages.stack_then z s t n)

    down-stacked : t.stage ≡ 23 → Own (Stages.scans_down z s t n)
    down-stacked e =
        rw (eq-eqb t.stage 23 e)
        (by-test (ltb (top z (stack s n)).0 z.entries) (λ q. rw q (taken q))
        (λ q. rw q (by-test (Stages.is_lowest z s t) (λ i. rw (i, cleared q) (none-stacked z s.chunks s.entries _)) (λ i. rw i (filled (cleared q))))))

    pub own-stacked : Own (Stages.decide z s n t)
    unfolding Stages.stage_does
    own-stacked =
        by-test (eqb t.stage 23) (λ q. at_stage z s n t Own 23 (eqb-true _ _ q) (down-stacked (eqb-true _ _ q)))
        (λ q. rw (q, stack-empty z s.chunks s.entries t (stack s n) stands (eqb-false _ _ q)) (none-stacked z _ _ _))
