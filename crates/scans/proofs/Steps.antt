-- What a scan's step does, by what is present at its moment.
use Prim.Native.Nat.{ℕ, ◌≤◌, ◌<◌}
use mathlib.Core.Path.{◌≡◌, refl, sym, ap, ◌∙◌}
use mathlib.Core.Bool.{true, false, false≢true}
use mathlib.Core.List.{Memᴰ}
use native.Mathlib.Nat.{le_trans}
use native.Mathlib.Decide.{dec_lt}
use native.Mathlib.Omega.{arith}
use lib.Dec.{ltb, leb}
use borrow.Author.Tests.{le-leb, ltb-true, ltb-false, leb-true}
use Rattle.rules.specs.declared.Sizes.{Sizes}
use Rattle.rules.specs.declared.Task.{Task}
use Rattle.rules.specs.declared.Write.TheVariants as write
use Rattle.rules.specs.declared.Report.TheVariants as report
use Rattle.rules.specs.declared.Decision.{Decision}
use Rattle.rules.specs.declared.ChunkNo.{ChunkNo}
use Rattle.rules.specs.declared.EntryNo.{EntryNo}
use Rattle.rules.specs.Tables.{Tables, chunk, entry, value}
use Rattle.rules.specs.Walks.{locate, linked, lies, undeleted, first_present, Present, InRange}
use Rattle.rules.specs.Stages
use Rattle.laws.specs.Counts.{Every}
use Rattle.laws.proofs.EachStage.{at_stage}
use Rattle.laws.proofs.Tests.{picked, and_left, and_right}
use Rattle.views.specs.Views.{Links}
use Rattle.views.proofs.Entries.{links-length}
use Rattle.statements.specs.Sound.{Limited, Live}
use Rattle.facts.specs.Facts.{Kept}
use Rattle.facts.proofs.Covering.{covers, only}
use Rattle.scans.specs.Scanned.{shows, Left, Scanning}
use Rattle.scans.proofs.First.{FirstOf, first-hit, first-miss}

module _ (z : Sizes) (lim : Limited z) (s : Tables) (kept : Kept z s) (from to : ℕ) where
  -- the chunk that has the cursor, and its first present entry
  abbrev c : ChunkNo
  c = locate z s from

  abbrev e : EntryNo
  e = first_present z s c from to

  here : Live z s c
  here = (covers z lim s kept from).0

  range : InRange z s.chunks c from
  range = (covers z lim s kept from).1

  links : Links z s.entries c (chunk s c).used 0 (chunk s c).head (linked z s c)
  links = (kept.tables.lists c here.numbered).links

  small : (chunk s c).used ≤ z.entries
  small = (kept.tables.lists c here.numbered).row.used

  -- a key from the cursor on, and below the next chunk, lies in the range of the chunk that has the cursor
  in-range : (q : ℕ) → from ≤ q → ((chunk s c).next.0 < z.chunks → q < (chunk s (chunk s c).next).min) → InRange z s.chunks c q
  in-range q le lt = record { from = le_trans range.from le; to = lt }

  -- where such a key is present an entry of that chunk shows it
  module _ (q v : ℕ) (p : Present z s q v) (le : from ≤ q) (up : q ≤ to) (lt : (chunk s c).next.0 < z.chunks → q < (chunk s (chunk s c).next).min) where
    alive : Live z s p.chunk
    alive = record { numbered = p.numbered; is_live = p.is_live }

    same : p.chunk ≡ c
    same = only z lim s kept q p.chunk alive (rw p.keyed at (kept.tables.key-in-range p.chunk p.numbered p.is_live p.entry p.is_linked)) ∙ sym (only z lim s kept q c here (in-range q le lt))

    keyed : (entry z s c p.entry).key ≡ q
    keyed = ap (λ (c : ChunkNo). (entry z s c p.entry).key) (sym same) ∙ p.keyed

    there : Memᴰ p.entry (linked z s c)
    there = rw same at p.is_linked

    unmarked : undeleted z s.marks (entry z s c p.entry).handle ≡ true
    unmarked = ap (λ (c : ChunkNo). undeleted z s.marks (entry z s c p.entry).handle) (sym same) ∙ p.is_undeleted

    showing : shows z s.entries s.marks c from to p.entry ≡ true
    showing = rw (keyed, le-leb from q le, le-leb q to up) unmarked

  -- ---- the first present entry
  module _ (i : e.0 < z.entries) where
    first : FirstOf z s.entries s.marks c from to (chunk s c).used small lim.entries (linked z s c) e
    first = first-hit z s.entries s.marks c from to (chunk s c).used small lim.entries z.entries 0 (chunk s c).head (linked z s c) links i

    ranged : lies from to (entry z s c e).key ≡ true
    ranged = and_left _ _ first.showing

    hit-from : from ≤ (entry z s c e).key
    hit-from = leb-true _ _ (and_left _ _ ranged)

    hit-to : (entry z s c e).key ≤ to
    hit-to = leb-true _ _ (and_right (leb from (entry z s c e).key) _ ranged)

    hit-present : Present z s (entry z s c e).key (value s (entry z s c e).handle)
    hit-present = record { chunk = c; entry = e; numbered = here.numbered; is_live = here.is_live; is_linked = first.linked; keyed = refl; is_undeleted = and_right (lies from to (entry z s c e).key) _ first.showing; valued = refl }

    -- no key from the cursor to that one is present
    hit-clear : (q v : ℕ) → Present z s q v → from ≤ q → q < (entry z s c e).key → ⊥
    hit-clear q v p le lt = omega (arith, first.least p.entry (there q v p le up below) (showing q v p le up below), keyed q v p le up below, lt)
      where
        up : q ≤ to
        up = omega (arith, lt, hit-to)

        below : (chunk s c).next.0 < z.chunks → q < (chunk s (chunk s c).next).min
        below n = omega (arith, lt, (kept.tables.key-in-range c here.numbered here.is_live e first.linked).to n)

  -- where it has none no key of its range from the cursor on is present
  missed : z.entries ≤ e.0 → (q v : ℕ) → Present z s q v → from ≤ q → ((chunk s c).next.0 < z.chunks → q < (chunk s (chunk s c).next).min) → q ≤ to → ⊥
  missed o q v p le below up = false≢true (sym (none p.entry (there q v p le up below)) ∙ showing q v p le up below)
    where
      none : Every (λ x. shows z s.entries s.marks c from to x ≡ false) (linked z s c)
      none = first-miss z s.entries s.marks c from to (chunk s c).used small lim.entries z.entries 0 (chunk s c).head (linked z s c) (le_trans (links-length z s.entries c (chunk s c).used 0 (chunk s c).head (linked z s c) links) small) links o

-- ---- the step
module _ (z : Sizes) (lim : Limited z) (s : Tables) (kept : Kept z s) (n : ℕ) (t : Task) where
  abbrev By : Decision → Type 0
  By = Scanning z s t

  scans-by : By (Stages.scans z s t)
  scans-by =
      picked By (ltb t.argument t.key) (λ o. Scanning.ends refl (λ q v p l. absurd (beyond (ltb-true _ _ o) q l)))
      (λ i. picked By (ltb e₀.0 z.entries) (λ e. giving (ltb-true _ _ e))
      (λ o. picked By (ltb (chunk s c₀).next.0 z.chunks) (λ m. Scanning.passes _ refl (ltb-false _ _ i) (before (ltb-true _ _ m)) (further (ltb-false _ _ o))) (λ m. ending (ltb-false _ _ o) (ltb-false _ _ m))))
    where
      c₀ : ChunkNo
      c₀ = locate z s t.key

      e₀ : EntryNo
      e₀ = first_present z s (locate z s t.key) t.key t.argument

      beyond : t.argument < t.key → (q : ℕ) → Left t q → ⊥
      beyond o q l = omega (arith, o, l.from, l.to)

      -- the pair is the first that is left
      giving : e₀.0 < z.entries → By (record { task = Stages.goes_past t (entry z s c₀ e₀).key; write = write.Nothing; report = report.Pair (entry z s c₀ e₀).key (value s (entry z s c₀ e₀).handle) })
      giving j = Scanning.gives _ _ refl (hit-present z lim s kept t.key t.argument j) (record { from = hit-from z lim s kept t.key t.argument j; to = hit-to z lim s kept t.key t.argument j }) first-left
        where
          first-left : (p w : ℕ) → Present z s p w → Left t p → (entry z s c₀ e₀).key ≤ p
          first-left p w there l = elim (dec_lt p (entry z s c₀ e₀).key) [ yes b ↦ absurd (hit-clear z lim s kept t.key t.argument j p w there l.from b) | no ge ↦ omega (arith, ge) ]

      -- the cursor lies below the next chunk, and what is left and present from there on
      before : (chunk s c₀).next.0 < z.chunks → t.key < (chunk s (chunk s c₀).next).min
      before i = (covers z lim s kept t.key).1.to i

      further : z.entries ≤ e₀.0 → (p w : ℕ) → Present z s p w → Left t p → (chunk s (chunk s c₀).next).min ≤ p
      further o p w there l = elim (dec_lt p (chunk s (chunk s c₀).next).min) [ yes b ↦ absurd (missed z lim s kept t.key t.argument o p w there l.from (λ _. b) l.to) | no ge ↦ omega (arith, ge) ]

      ending : z.entries ≤ e₀.0 → z.chunks ≤ (chunk s c₀).next.0 → By (Stages.finishes write.Nothing report.Done)
      ending o n = Scanning.ends refl (λ q v p l. absurd (missed z lim s kept t.key t.argument o q v p l.from (λ i. absurd (out i)) l.to))
        where
          out : (chunk s c₀).next.0 < z.chunks → ⊥
          out i = omega (arith, n, i)

  -- what a task at 22 decides
  pub scan-by : t.stage ≡ 22 → By (Stages.decide z s n t)
  unfolding Stages.stage_does
  scan-by q = at_stage z s n t By 22 q scans-by
