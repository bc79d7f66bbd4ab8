-- What a downward scan's step does, and what the entry that it takes off and the chunk that it fills from show.
use Prim.Native.Nat.{ℕ, suc, ◌≤◌, ◌<◌}
use mathlib.Core.Path.{◌≡◌, refl, sym, ap, ◌∙◌}
use mathlib.Core.Bool.{true}
use mathlib.Core.List.{[], Memᴰ}
use native.Mathlib.Nat.{le_refl, le_of_lt, le_trans}
use native.Mathlib.Omega.{arith}
use lib.Dec.{ltb}
use lib.ListN.{length, get_or}
use borrow.Author.Tests.{lt-ltb, eq-eqb, le-ltb, eqb-true, ltb-true, ltb-false, leb-true}
use Rattle.rules.specs.declared.Sizes.{Sizes}
use Rattle.rules.specs.declared.Task.{Task}
use Rattle.rules.specs.declared.ChunkNo.{ChunkNo}
use Rattle.rules.specs.declared.EntryNo.{EntryNo}
use Rattle.rules.specs.declared.Decision.{Decision}
use Rattle.rules.specs.Words.{pick}
use Rattle.rules.specs.Tables.{Tables, task, stack, chunk, entry, value}
use Rattle.rules.specs.Walks.{linked, undeleted, off, over, InRange, Present}
use Rattle.rules.specs.Stages
use Rattle.laws.proofs.EachStage.{at_stage}
use Rattle.laws.proofs.Tests.{by-test, both, and_left, and_right}
use Rattle.views.specs.Views.{on_stack}
use Rattle.views.proofs.Entries.{links-below}
use Rattle.views.proofs.Stacks.{Within, member-others, length_last, depth-over, on-over}
use Rattle.laws.specs.Counts.{Every}
use Rattle.statements.specs.Sound.{Limited, Live}
use Rattle.facts.specs.Facts.{Kept}
use Rattle.facts.specs.Reached.{Reached}
use Rattle.facts.proofs.Covering.{only}
use Rattle.facts.proofs.Reaching.{reached-kept}
use Rattle.facts.proofs.Stacking.{Seen, seen, on-small, on-is, found, takes, takes-small, takes-short}
use Rattle.simulation.specs.Named.{PresentBy}
use Rattle.holds.proofs.Unlinked.{reached-unlinked}
use Rattle.simulation.proofs.Living.{under, reached-lively}
use Rattle.simulation.proofs.Showing.{present-to}
use Rattle.history.specs.Goes.{ShownBy}
use Rattle.history.proofs.Shown.{entry_named, live-shown}
use Rattle.scans.specs.Sunk.{Sinking}

module _ (z : Sizes) (lim : Limited z) (s : Tables) (r : Reached z s) (n : ℕ) (b : n < z.tasks) where
  kept : Kept z s
  kept = reached-kept z lim r

  abbrev t : Task
  t = task s n

  -- ---- the step
  abbrev By : Decision → Type 0
  By x = Sinking z s n x (Stages.stack_then z s t n)

  scans-down-by : t.stage ≡ 23 → By (Stages.scans_down z s t n)
  scans-down-by e = rw (eq-eqb t.stage 23 e) (go (seen z lim s kept n b))
    where
      go : Seen z lim s kept n b → Sinking z s n (Stages.scans_down z s t n) (pick (ltb (Stages.top_of z s t n).0 z.entries) (off z (stack s n)) (pick (Stages.is_lowest z s t) (stack s n) (over (Stages.fills_with z s t) (stack s n))))
      go (Seen.topped l x is small at without deep) = rw (lt-ltb (Stages.top_of z s t n).0 z.entries (rw at small)) (Sinking.takes l x (on-is z lim s kept n b ∙ is) (ap (Stages.takes_off z s t) at) (rw without (on-over z lim.entries l z.entries few (omega (arith, short)))) (rw without (omega (arith, depth-over z lim.entries l z.entries few (omega (arith, short)), deep))))
        where
          few : Every (λ e. e.0 < z.entries) l
          few e m = on-small z lim s kept n b e (rw is (member-others l x e m))

          short : suc (length l) ≤ z.entries
          short = omega (arith, ap length is, length_last l x, (kept.stacks n b).short)
      go (Seen.empty is words out) =
          rw (le-ltb (Stages.top_of z s t n).0 z.entries out)
          (by-test (Stages.is_lowest z s t)
          (λ q. rw q (Sinking.ends nothing refl (ltb-true _ _ (and_left _ _ q)) (leb-true _ _ (and_right (Stages.has_filled z s t) _ q))))
          (λ q. rw q (Sinking.fills nothing refl q (rw words (on-over z lim.entries (Stages.fills_with z s t) z.entries (takes-small z lim s kept n b) (takes-short z lim s kept n b))))))
        where
          nothing : on_stack z s n ≡ []
          nothing = on-is z lim s kept n b ∙ is

  -- what a task at 23 decides, and its stack then
  pub down_by : t.stage ≡ 23 → By (Stages.decide z s n t)
  unfolding Stages.stage_does
  down_by e = at_stage z s n t By 23 e (scans-down-by e)

  -- ---- an entry of the held chunk
  module _ (inside : t.chunk.0 < z.chunks) (e : EntryNo) (there : Memᴰ e (linked z s t.chunk)) where
    small : e.0 < z.entries
    small = le_trans (links-below z s.entries t.chunk (chunk s t.chunk).used 0 (chunk s t.chunk).head (linked z s t.chunk) (kept.tables.lists t.chunk inside).links e there) (kept.tables.lists t.chunk inside).row.used

    -- where it names an undeleted handle its key is present, with that handle's value
    pub off-present : undeleted z s.marks (entry z s t.chunk e).handle ≡ true → PresentBy z s (entry z s t.chunk e).key (value s (entry z s t.chunk e).handle)
    off-present u = record { handle = h; inside = h-in; named = (reached-lively z lim r).undeleted-live h (entry z s t.chunk e).key h-in unmarked (under z s.entries t.chunk inside (record { entry = e; inside = small; names = refl; keyed = refl })); undeleted = unmarked; valued = refl }
      where
        h : ℕ
        h = (entry z s t.chunk e).handle.0

        h-in : h < z.handles
        h-in = ltb-true _ _ (and_left _ _ u)

        unmarked : get_or s.marks h 0 ≡ 0
        unmarked = eqb-true _ _ (and_right (ltb h z.handles) _ u)

    -- where the chunk shows its key it names an undeleted handle
    pub shown-off : ShownBy z s t.chunk (entry z s t.chunk e).key → undeleted z s.marks (entry z s t.chunk e).handle ≡ true
    shown-off v = rw named (both _ _ (lt-ltb v.handle z.handles v.inside) (eq-eqb _ _ v.undeleted))
      where
        named : (entry z s t.chunk e).handle.0 ≡ v.handle
        named = entry_named z lim s r t.chunk e v.handle (entry z s t.chunk e).key inside there refl v.inside v.named

  -- ---- the chunk that it fills from
  abbrev c : ChunkNo
  c = Stages.next_down z s t

  pub next-in : c.0 < z.chunks
  next-in = (found z lim s kept n b).0

  -- the keys to fill with reach up to the upper end, and up to the key sought, and to no key less
  pub up-to-end : Stages.up_to z s t ≤ t.argument
  up-to-end = by-test (ltb (Stages.sought z s t) t.argument) (λ q. rw q (le_of_lt (ltb-true _ _ q))) (λ q. rw q (le_refl _))

  pub up-to-sought : Stages.up_to z s t ≤ Stages.sought z s t
  up-to-sought = by-test (ltb (Stages.sought z s t) t.argument) (λ q. rw q (le_refl _)) (λ q. rw q (ltb-false _ _ q))

  pub in-up-to : (q : ℕ) → q ≤ t.argument → q ≤ Stages.sought z s t → q ≤ Stages.up_to z s t
  in-up-to q end sought = by-test (ltb (Stages.sought z s t) t.argument) (λ e. rw e sought) (λ e. rw e end)

  -- its minimum key is at most the key sought
  pub next_low : (chunk s c).min ≤ Stages.sought z s t
  next_low = (found z lim s kept n b).1.1.from

  -- an entry taken from there lies in range, from its minimum key on
  pub taken_in : (e : EntryNo) → Memᴰ e (Stages.fills_with z s t) → (t.key ≤ (entry z s c e).key) × ((entry z s c e).key ≤ Stages.up_to z s t) × ((chunk s c).min ≤ (entry z s c e).key)
  taken_in e m = ((w.ranged e m).0, (w.ranged e m).1, (kept.tables.key-in-range c next-in (found z lim s kept n b).1.0 e (w.listed e m)).from)
    where
      w : Within z s.entries c t.key (Stages.up_to z s t) 0 (linked z s c) (Stages.fills_with z s t)
      w = takes z lim s kept n b

  -- a present key in range up to the key sought lies under its minimum key, or is taken and shown
  pub taken-all : (q v : ℕ) → Present z s q v → t.key ≤ q → q ≤ t.argument → q ≤ Stages.sought z s t → (chunk s c).min ≤ q →
      (e : EntryNo) × Memᴰ e (Stages.fills_with z s t) × ((entry z s c e).key ≡ q) × ShownBy z s c q
  taken-all q v p low up le from = (p.entry, (takes z lim s kept n b).all p.entry there (rw keyed low) (rw keyed (in-up-to q up le)), keyed, live-shown z lim s r c q v here range (present-to z lim s kept (reached-unlinked z lim r) p))
    where
      here : Live z s c
      here = record { numbered = next-in; is_live = (found z lim s kept n b).1.0 }

      range : InRange z s.chunks c q
      range = record { from = from; to = λ i. omega (arith, le, (found z lim s kept n b).1.1.to i) }

      same : p.chunk ≡ c
      same = only z lim s kept q p.chunk (record { numbered = p.numbered; is_live = p.is_live }) (rw p.keyed at (kept.tables.key-in-range p.chunk p.numbered p.is_live p.entry p.is_linked)) ∙ sym (only z lim s kept q c here range)

      keyed : (entry z s c p.entry).key ≡ q
      keyed = ap (λ (c : ChunkNo). (entry z s c p.entry).key) (sym same) ∙ p.keyed

      there : Memᴰ p.entry (linked z s c)
      there = rw same at p.is_linked
