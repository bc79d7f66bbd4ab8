-- A step leaves what is present at every key, but for a deciding step at its own key, and there it does what the operation does.
use Prim.Native.Nat.{ℕ, ◌≤◌, ◌<◌}
use mathlib.Core.Path.{◌≡◌, refl, sym, ap, ◌∙◌}
use mathlib.Core.Logic.{◌⊎◌, inl, inr, ⊎_elim, ◌≢◌}
use mathlib.Core.Bool.{true, false≢true}
use mathlib.Core.List.{List}
use mathlib.Core.Option.{Option, none, some, none-ne-some, some-injective}
use native.Mathlib.Decide.{ℕ_discrete}
use native.Mathlib.Omega.{arith}
use lib.ListN.{get_or, set}
use lib.Seq.{get_or-set_same}
use Rattle.rules.specs.declared.Sizes.{Sizes}
use Rattle.rules.specs.declared.EntryNo.{EntryNo}
use Rattle.rules.specs.declared.Task.{Task}
use Rattle.rules.specs.declared.Entry.{Entry}
use Rattle.rules.specs.declared.Decision.{Decision}
use Rattle.rules.specs.declared.Write.{Write}
use Rattle.rules.specs.declared.Write.TheVariants as write
use Rattle.rules.specs.Words.{pick, live}
use Rattle.rules.specs.Tables.{Tables, chunk, entry, value, task}
use Rattle.rules.specs.Stages
use Rattle.rules.specs.Map.{Pair, pair_key, Ascends, lookup, insert, delete, Effect, effect, sequential}
use Rattle.map.proofs.Laws.{lookup-insert, lookup-delete}
use Rattle.map.proofs.Sequential.{on-absent, on-present, sequential-other}
use Rattle.laws.proofs.Tests.{picked}
use Rattle.views.proofs.Rows.{entry-put}
use Rattle.statements.specs.Sound.{Limited}
use Rattle.facts.specs.Facts.{EntryHeld, Kept}
use Rattle.statements.specs.Runs.{decides}
use Rattle.simulation.specs.Beside.{change_answer}
use Rattle.handles.proofs.Owning.{OwnedBy}
use Rattle.holds.specs.Held.{Held}
use Rattle.holds.specs.Marked.{Marked}
use Rattle.holds.specs.Unlinked.{UnlinkedNone}
use Rattle.simulation.specs.Named.{NamedIn, PresentBy, Lively}
use Rattle.simulation.proofs.Acts.{Swaps, Acts}
use Rattle.simulation.proofs.Rows
use Rattle.simulation.proofs.Rows.{record_same}
use Rattle.simulation.proofs.Living.{under, NewName, live_on, named_back, acts, same-status}
use Rattle.simulation.proofs.Showing.{row_named, named-one, present-one}

-- the map's pairs are what is present
abbrev pub Sim : Sizes → Tables → List Pair → Type 0
Sim z s m = (k v : ℕ) → (lookup m k ≡ some v → PresentBy z s k v) × (PresentBy z s k v → lookup m k ≡ some v)

-- an option of no value is none
pub is_none : (o : Option ℕ) → ((v : ℕ) → o ≡ some v → ⊥) → o ≡ none
is_none none f = refl
is_none (some v) f = absurd (f v refl)

module _ (z : Sizes) (lim : Limited z) (s : Tables) (kept : Kept z s) (own : OwnedBy z s) (held : Held z s) (marked : Marked z s) (un : UnlinkedNone z s.chunks s.entries) (lively : Lively z s) (n : ℕ) where
  abbrev t : Task
  t = task s n

  abbrev x : Decision
  x = Stages.decide z s n t

  abbrev ts : List Task
  ts = set s.tasks n x.task

  abbrev ss : List (List EntryNo)
  ss = set s.stacks n (Stages.stack_then z s t n)

  abbrev s' : Tables
  s' = Rows.after z lim s kept ts ss x.write

  -- ---- every key at which the step does not decide
  on : (k v : ℕ) → (decides z s t ≡ true → k ≢ t.key) → PresentBy z s k v → PresentBy z s' k v
  on k v far p = record { handle = p.handle; inside = p.inside; named = live_on z lim s kept n marked p.handle k p.inside p.undeleted p.named; undeleted = r.0 ∙ p.undeleted; valued = r.1 ∙ p.valued }
    where
      r : (get_or s'.marks p.handle 0 ≡ get_or s.marks p.handle 0) × (get_or s'.values p.handle 0 ≡ get_or s.values p.handle 0)
      r = record_same z lim s kept ts ss n own (acts z lim s kept n) p.handle k p.inside (under z s.entries p.named.chunk p.named.numbered p.named.named) far

  back : (k v : ℕ) → (decides z s t ≡ true → k ≢ t.key) → PresentBy z s' k v → PresentBy z s k v
  back k v far p = go (named_back z lim s kept n p.named.chunk p.named.numbered p.handle k p.inside p.named.named)
    where
      go : NamedIn z s.entries p.named.chunk p.handle k ⊎ NewName z s t p.named.chunk p.handle k → PresentBy z s k v
      go (inl w) = record { handle = p.handle; inside = p.inside; named = record { chunk = p.named.chunk; numbered = p.named.numbered; is_live = sym (same-status z lim s kept n p.named.chunk) ∙ p.named.is_live; named = w }; undeleted = sym r.0 ∙ p.undeleted; valued = sym r.1 ∙ p.valued }
        where
          r : (get_or s'.marks p.handle 0 ≡ get_or s.marks p.handle 0) × (get_or s'.values p.handle 0 ≡ get_or s.values p.handle 0)
          r = record_same z lim s kept ts ss n own (acts z lim s kept n) p.handle k p.inside (under z s.entries p.named.chunk p.named.numbered w) far
      go (inr w) = absurd (far w.decided w.key)

  -- ---- the key at which it decides
  module _ (swaps : Swaps z s t) where
    held-entry : EntryHeld z s.chunks s.entries t.chunk t.entry t.key t.stage
    held-entry = (kept.tasks n).entry swaps.row.entry

    is_live_lem : (chunk s t.chunk).status ≡ live
    is_live_lem = (held.publisher-live n swaps.published).is_live

    -- where a swap at 11 succeeds the key is absent
    absent : (v : ℕ) → PresentBy z s t.key v → ⊥
    absent v p = omega (arith, p.undeleted, rw is-old at (marked.old-deleted n swaps.past.0 swaps.past.1 (rw is-old p.inside)))
      where
        is-old : t.old.0 ≡ p.handle
        is-old = sym swaps.names ∙ row_named z lim s kept un p.inside p.named t.chunk t.entry (record { numbered = swaps.row.chunk; is_live = is_live_lem }) (held-entry.linked swaps.past.2) held-entry.keyed

    -- and then present with the argument
    named-now : t.new.0 < z.handles → t.swapped ≡ 0 → 10 ≤ t.stage → PresentBy z (Rows.after z lim s kept ts ss (write.Name t.chunk t.entry t.new)) t.key t.argument
    named-now b q le =
        record {
          handle = t.new.0;
          inside = b;
          named = record {
            chunk = t.chunk;
            numbered = swaps.row.chunk;
            is_live = is_live_lem;
            named = record {
              entry = t.entry;
              inside = swaps.row.entry;
              names = entry-put z s.entries t.chunk t.entry new t.chunk t.entry (λ y. y.handle.0 ≡ t.new.0) kept.tables.entries-sized swaps.row.chunk swaps.row.entry swaps.row.entry (λ _ _. refl) (λ ne. absurd (ne refl refl));
              keyed = entry-put z s.entries t.chunk t.entry new t.chunk t.entry (λ y. y.key ≡ t.key) kept.tables.entries-sized swaps.row.chunk swaps.row.entry swaps.row.entry (λ _ _. held-entry.keyed) (λ _. held-entry.keyed);
            };
          };
          undeleted = (marked.new-written n b q).0;
          valued = (marked.new-written n b q).1 le;
        }
      where
        new : Entry
        new = Stages.with_handle (entry z s t.chunk t.entry) t.new

  -- the old handle where stage 5 applies
  old-present : t.old.0 < z.handles → get_or s.marks t.old.0 0 ≡ 0 → PresentBy z s t.key (value s t.old)
  old-present b q = record { handle = t.old.0; inside = b; named = lively.old-live n b q; undeleted = q; valued = refl }

  module _ (m : List Pair) (sim : Sim z s m) (ascends : Ascends pair_key 0 m) where
    abbrev pub then-done : Effect
    then-done = sequential m t.operation t.key t.argument t.function

    -- the operation puts a value there, or takes the key out, and so do the tables
    abbrev pub Decided : Write → Type 0
    Decided w = ((v : ℕ) × (then-done ≡ effect (change_answer s t) (insert m t.key v)) × PresentBy z (Rows.after z lim s kept ts ss w) t.key v) ⊎ ((then-done ≡ effect (change_answer s t) (delete m t.key)) × ((v : ℕ) → PresentBy z (Rows.after z lim s kept ts ss w) t.key v → ⊥))

    at-present : t.old.0 < z.handles → get_or s.marks t.old.0 0 ≡ 0 → lookup m t.key ≡ some (value s t.old)
    at-present b q = (sim t.key (value s t.old)).1 (old-present b q)

    pub decided : {w : Write} → Acts z s t w → decides z s t ≡ true → Decided w
    decided (Acts.still v u) d = absurd (false≢true (sym u ∙ d))
    decided (Acts.takes b u) d = absurd (false≢true (sym u ∙ d))
    decided (Acts.writes b q u) d = absurd (false≢true (sym u ∙ d))
    decided (Acts.stores v b q i u) d =
        inl (
          v,
          on-present m t.operation t.key t.argument t.function (value s t.old) (at-present b q) ∙ i m,
          record { handle = t.old.0; inside = b; named = lively.old-live n b q; undeleted = q; valued = get_or-set_same s.values t.old.0 v 0 (rw kept.values-sized b) },
        )
    decided (Acts.deletes b q i u) d =
        inr (on-present m t.operation t.key t.argument t.function (value s t.old) (at-present b q) ∙ i m, gone)
      where
        gone : (v : ℕ) → PresentBy z (Rows.after z lim s kept ts ss (write.Delete t.old)) t.key v → ⊥
        gone v p = one (sym (get_or-set_same s.marks t.old.0 1 0 (rw kept.marks-sized b)) ∙ ap (λ (h : ℕ). get_or (set s.marks t.old.0 1) h 0) (named-one z lim s kept un b p.inside (lively.old-live n b q) p.named) ∙ p.undeleted)
          where
            one : ◌≡◌ {A = ℕ} 1 0 → ⊥
            one e = omega arith
    decided (Acts.names w b q le i u) d =
        inl (t.argument, on-absent m t.operation t.key t.argument t.function (is_none (lookup m t.key) (λ v e. absent w v ((sim t.key v).0 e))) ∙ i m, named-now w b q le)
    decided (Acts.drops w u) d = absurd (false≢true (sym u ∙ d))

    pub step-sim : Kept z s' → UnlinkedNone z s'.chunks s'.entries → Sim z s' (pick (decides z s t) then-done.map m)
    step-sim kept' un' = picked (Sim z s') (decides z s t) (λ d. by (decided (acts z lim s kept n) d)) (λ d k v. let far : decides z s t ≡ true → k ≢ t.key = λ u. absurd (false≢true (sym d ∙ u)) in (λ e. on k v far ((sim k v).0 e), λ p. (sim k v).1 (back k v far p)))
      where
        elsewhere : (k v : ℕ) → k ≢ t.key → (lookup then-done.map k ≡ some v → PresentBy z s' k v) × (PresentBy z s' k v → lookup then-done.map k ≡ some v)
        elsewhere k v ne = rw (sequential-other m t.operation t.key t.argument t.function k ne) (λ e. on k v (λ _. ne) ((sim k v).0 e), λ p. (sim k v).1 (back k v (λ _. ne) p))

        Here : List Pair → ℕ → Type 0
        Here l v = (lookup l t.key ≡ some v → PresentBy z s' t.key v) × (PresentBy z s' t.key v → lookup l t.key ≡ some v)

        everywhere : ((v : ℕ) → Here then-done.map v) → Sim z s' then-done.map
        everywhere here k v = elim (ℕ_discrete k t.key) [ yes e ↦ rw e (here v) | no ne ↦ elsewhere k v ne ]

        put_in : (w : ℕ) → PresentBy z s' t.key w → (v : ℕ) → Here (insert m t.key w) v
        put_in w p v = rw (lookup-insert t.key w m) (λ e. rw (← (some-injective w v e)) p, λ q. ap some (present-one z lim s' kept' un' p q))

        taken_out : ((v : ℕ) → PresentBy z s' t.key v → ⊥) → (v : ℕ) → Here (delete m t.key) v
        taken_out gone v = rw (lookup-delete 0 t.key m ascends) (λ e. absurd (none-ne-some _ e), λ p. absurd (gone v p))

        by : Decided x.write → Sim z s' then-done.map
        by (inl d) = everywhere (λ v. rw (ap (λ (y : Effect). y.map) d.1) (put_in d.0 d.2 v))
        by (inr d) = everywhere (λ v. rw (ap (λ (y : Effect). y.map) d.0) (taken_out d.1 v))

    pub step-changes : decides z s t ≡ true → then-done.answer ≡ change_answer s t
    step-changes d = ⊎_elim (λ c. ap (λ (y : Effect). y.answer) c.1) (λ c. ap (λ (y : Effect). y.answer) c.0) (decided (acts z lim s kept n) d)
