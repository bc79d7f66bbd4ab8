-- Stages 1 to 10, 13, 16 and 19 of a task: the write is allowed, and the task's row afterwards has the facts.
use Prim.Native.Nat.{ℕ, ◌≤◌, ◌<◌}
use mathlib.Core.Path.{◌≡◌, refl, sym, ap, ◌∙◌}
use mathlib.Core.Logic.{◌⊎◌, inl, inr, ⊎_elim, ◌≢◌}
use mathlib.Core.Bool.{true, not, false≢true}
use mathlib.Core.List.{List}
use native.Mathlib.Omega.{arith}
use lib.Dec.{eqb, ltb}
use borrow.Author.Tests.{lt-ltb, ltb-true, ltb-false, eqb-true}
use Rattle.rules.specs.declared.Sizes.{Sizes}
use Rattle.rules.specs.declared.EntryNo.{EntryNo}
use Rattle.rules.specs.declared.Task.{Task}
use Rattle.rules.specs.declared.Write.TheVariants as write
use Rattle.rules.specs.Words.{◌and◌, NONE, no_chunk, no_entry, no_handle, unused, live, new, retired, inserts, get, put, put_if_absent, remove, scan_down}
use Rattle.rules.specs.Tables.{Tables, with_own, chunk, entry, mark}
use Rattle.rules.specs.Walks.{locate, find, place, lowest_free, InRange}
use Rattle.rules.specs.Stages
use Rattle.rules.specs.Shape.{fits_operation}
use Rattle.laws.proofs.Tests.{picked}
use Rattle.statements.specs.Sound.{Limited}
use Rattle.facts.specs.Facts.{Tabled, Holds, hold_at, EntryHeld, Tasked, Waits}
use Rattle.facts.proofs.Numbers.{number_in, number-none}
use Rattle.facts.proofs.Writes.{slot_held, slot-written}
use Rattle.facts.proofs.Applying.{link-applied-linked, applied_by}
use Rattle.facts.proofs.Going
use Rattle.facts.proofs.Going.{Fine}

module _ (z : Sizes) (lim : Limited z) (s : Tables) (h : Tabled z s.directory s.chunks s.entries) (t : Task) (r : Tasked z s.chunks s.entries t) where
  -- ---- 1 and 16 locate
  pub locates-fine : (t.stage ≡ 1) ⊎ (t.stage ≡ 16) → Fine z s (Stages.locates z s t)
  locates-fine (inl e) =
      let H = Going.holds_at z lim s h t r 1 e (omega arith) in
      rw e (Going.going z lim s h t r 2 (locate z s t.key) no_entry t.old no_handle 0 0 (omega arith)
      (record { fits = Going.fit z lim s h t r 1 2 (λ op. true) refl e (omega arith) refl; function = H.function; chunk = lt-ltb _ _ (Going.located z lim s h t.key).0; entry = refl; old = H.old; new = refl; published = refl; swapped = refl })
      (λ _. inr ((Going.located z lim s h t.key).1.0, λ _. (Going.located z lim s h t.key).1.1)) (Going.no-entry z lim s h _))
  locates-fine (inr e) =
      let H = Going.holds_at z lim s h t r 16 e (omega arith) in
      rw e (Going.going z lim s h t r 17 (locate z s t.key) no_entry t.old no_handle 0 0 (omega arith)
      (record { fits = Going.fit z lim s h t r 16 17 (λ op. true) refl e (omega arith) refl; function = H.function; chunk = lt-ltb _ _ (Going.located z lim s h t.key).0; entry = refl; old = H.old; new = refl; published = refl; swapped = refl })
      (λ _. inr ((Going.located z lim s h t.key).1.0, λ _. (Going.located z lim s h t.key).1.1)) (Going.no-entry z lim s h _))

  -- ---- 2 find
  pub finds-fine : t.stage ≡ 2 → Fine z s (Stages.finds z s t)
  finds-fine e =
      let H = Going.holds_at z lim s h t r 2 e (omega arith) in
      picked (Fine z s) (Stages.has_key z s t)
      (λ i. Going.going z lim s h t r 3 t.chunk (find z s t.chunk t.key) no_handle no_handle 0 0 (omega arith)
      (record { fits = Going.fit z lim s h t r 2 3 (λ op. true) refl e (omega arith) refl; function = H.function; chunk = H.chunk; entry = Going.key_in z lim s h t r i; old = refl; new = refl; published = refl; swapped = refl })
      r.chunk-of-key (Going.found-held z lim s h t r t.chunk (ltb-true _ _ H.chunk) t.key 3))
      (λ i. picked (Fine z s) (inserts t.operation)
      (λ j. Going.going z lim s h t r 6 t.chunk t.entry t.old t.new t.published t.swapped (omega arith)
      (record { fits = Going.fit z lim s h t r 2 6 inserts refl e (omega arith) j; function = H.function; chunk = H.chunk; entry = H.entry; old = H.old; new = H.new; published = H.published; swapped = H.swapped })
      r.chunk-of-key (Going.entry-at z lim s h t r 2 e (omega arith) 6))
      (λ j. Going.finished z lim s h t r _ _ tt))

  -- ---- 3 read
  pub reads-fine : t.stage ≡ 3 → Fine z s (Stages.reads z s t)
  reads-fine e =
      let H = Going.holds_at z lim s h t r 3 e (omega arith) in
      picked (Fine z s) (ltb (entry z s t.chunk t.entry).handle.0 z.handles)
      (λ i. Going.going z lim s h t r 4 t.chunk t.entry (entry z s t.chunk t.entry).handle no_handle 0 0 (omega arith)
      (record { fits = Going.fit z lim s h t r 3 4 (λ op. true) refl e (omega arith) refl; function = H.function; chunk = H.chunk; entry = H.entry; old = i; new = refl; published = refl; swapped = refl })
      r.chunk-of-key (Going.entry-at z lim s h t r 3 e (omega arith) 4))
      (λ i. picked (Fine z s) (inserts t.operation)
      (λ j. Going.going z lim s h t r 8 t.chunk t.entry t.old t.new t.published t.swapped (omega arith)
      (record { fits = Going.fit z lim s h t r 3 8 inserts refl e (omega arith) j; function = H.function; chunk = H.chunk; entry = H.entry; old = rw (eqb-true t.old.0 NONE H.old) (number-none z.handles); new = H.new; published = H.published; swapped = H.swapped })
      r.chunk-of-key (Going.entry-at z lim s h t r 3 e (omega arith) 8))
      (λ j. Going.finished z lim s h t r _ _ tt))

  -- ---- 4 check
  pub checks-fine : t.stage ≡ 4 → Fine z s (Stages.checks z s t)
  checks-fine e =
      let H = Going.holds_at z lim s h t r 4 e (omega arith) in
      picked (Fine z s) (eqb (mark s t.old) 0)
      (λ _. picked (Fine z s) (eqb t.operation get) (λ _. Going.finished z lim s h t r _ _ tt)
      (λ g. picked (Fine z s) (eqb t.operation put_if_absent) (λ _. Going.finished z lim s h t r _ _ tt)
      (λ i. Going.going z lim s h t r 5 t.chunk t.entry t.old t.new t.published t.swapped (omega arith)
      (record { fits = Going.fit z lim s h t r 4 5 (λ op. not (eqb op get) and not (eqb op put_if_absent)) refl e (omega arith) (rw (g, i)); function = H.function; chunk = H.chunk; entry = H.entry; old = H.old; new = H.new; published = H.published; swapped = H.swapped })
      r.chunk-of-key (Going.entry-at z lim s h t r 4 e (omega arith) 5))))
      (λ _. picked (Fine z s) (eqb t.operation get) (λ _. Going.finished z lim s h t r _ _ tt)
      (λ g. picked (λ n. Fine z s (Stages.moves (Stages.keeps t n) write.Nothing)) (inserts t.operation)
      (λ i. Going.going z lim s h t r 8 t.chunk t.entry t.old t.new t.published t.swapped (omega arith)
      (record { fits = Going.fit z lim s h t r 4 8 inserts refl e (omega arith) i; function = H.function; chunk = H.chunk; entry = H.entry; old = number_in z.handles t.old.0 (ltb-true t.old.0 z.handles H.old); new = H.new; published = H.published; swapped = H.swapped })
      r.chunk-of-key (Going.entry-at z lim s h t r 4 e (omega arith) 8))
      (λ i. Going.going z lim s h t r 13 t.chunk t.entry t.old t.new t.published t.swapped (omega arith)
      (record { fits = Going.fit z lim s h t r 4 13 (λ op. not (eqb op get) and not (inserts op)) refl e (omega arith) (rw (g, i)); function = H.function; chunk = H.chunk; entry = H.entry; old = H.old; new = H.new; published = H.published; swapped = H.swapped })
      r.chunk-of-key (Going.entry-at z lim s h t r 4 e (omega arith) 13))))

  -- ---- 5 apply
  -- a remove sets its mark and goes on to see to the handle's name
  marking-fine : t.stage ≡ 5 → eqb t.operation remove ≡ true → Fine z s (Stages.moves (Stages.goes_to t 16 no_chunk no_entry t.old no_handle 0 0) (write.Delete t.old))
  marking-fine e g =
      let H = Going.holds_at z lim s h t r 5 e (omega arith) in
      record {
        allowed = tt;
        task = λ ts ss. Going.row-right z lim s h t r 16 no_chunk no_entry t.old no_handle 0 0 (omega arith)
            (record { fits = Going.fit z lim s h t r 5 16 (λ op. eqb op remove) refl e (omega arith) g; function = H.function; chunk = refl; entry = refl; old = H.old; new = refl; published = refl; swapped = refl })
            (Going.no-chunk z lim s h _) (Going.no-entry z lim s h _);
      }

  pub applies-fine : t.stage ≡ 5 → Fine z s (Stages.applies z s t)
  applies-fine e =
      let H = Going.holds_at z lim s h t r 5 e (omega arith) in
      picked (Fine z s) (eqb (mark s t.old) 0)
      (λ _. picked (Fine z s) (eqb t.operation remove)
      (marking-fine e)
      (λ _. picked (Fine z s) (eqb t.operation put) (λ _. Going.finished z lim s h t r _ _ tt) (λ _. Going.finished z lim s h t r _ _ tt)))
      (λ _. picked (Fine z s) (inserts t.operation)
      (λ _. Going.restarted z lim s h t r _ (rw e (omega arith)) (Going.fit z lim s h t r 5 1 (λ op. true) refl e (omega arith) refl))
      (λ i. Going.going z lim s h t r 13 t.chunk t.entry t.old t.new t.published t.swapped (omega arith)
      (record { fits = Going.fit z lim s h t r 5 13 (λ op. not (inserts op)) refl e (omega arith) (rw i); function = H.function; chunk = H.chunk; entry = H.entry; old = H.old; new = H.new; published = H.published; swapped = H.swapped })
      r.chunk-of-key (Going.entry-at z lim s h t r 5 e (omega arith) 13)))

  -- ---- 6 take entry
  pub in_use_lem : t.chunk.0 < z.chunks → ((chunk s t.chunk).status ≢ unused) × ((chunk s t.chunk).status ≢ new)
  in_use_lem b = ⊎_elim (λ (p : (chunk s t.chunk).status ≡ retired). rw p (omega arith)) (λ (p : ((chunk s t.chunk).status ≡ live) × (t.operation ≢ scan_down → InRange z s.chunks t.chunk t.key)). rw p.0 (omega arith)) (r.chunk-of-key b)

  pub takes-entry-fine : t.stage ≡ 6 → Fine z s (Stages.takes_entry z s t)
  takes-entry-fine e =
      let H = Going.holds_at z lim s h t r 6 e (omega arith) in
      let b : t.chunk.0 < z.chunks = ltb-true _ _ H.chunk in
      picked (Fine z s) (eqb (chunk s t.chunk).frozen 0)
      (λ _. picked (Fine z s) (ltb (chunk s t.chunk).used z.entries)
      (λ i. record {
        allowed = (b, (in_use_lem b).0, ltb-true _ _ i);
        task = λ ts ss. record {
          idle = λ q. absurd (seven q);
          holds = λ _. record { fits = Going.fit z lim s h t r 6 7 (λ op. true) refl e (omega arith) refl; function = H.function; chunk = H.chunk; entry = i; old = refl; new = refl; published = refl; swapped = refl };
          chunk-of-key = ((slot-written z lim s.directory s.chunks s.entries h t.chunk t.key b (in_use_lem b).0 (ltb-true _ _ i)).tasks t r).chunk-of-key;
          entry = λ _. slot_held z lim s.directory s.chunks s.entries h t.chunk t.key b (in_use_lem b).0 (ltb-true _ _ i);
        };
      })
      (λ _. Going.restarted z lim s h t r _ (rw e (omega arith)) (Going.fit z lim s h t r 6 1 (λ op. true) refl e (omega arith) refl)))
      (λ _. Going.restarted z lim s h t r _ (rw e (omega arith)) (Going.fit z lim s h t r 6 1 (λ op. true) refl e (omega arith) refl))
    where
      seven : ◌≡◌ {A = ℕ} 7 0 → ⊥
      seven q = omega arith

  -- ---- 7 link
  module _ (e : t.stage ≡ 7) (o : z.entries ≤ (find z s t.chunk t.key).0) where
    waiting : Holds z t (hold_at 7) → Waits z s.chunks s.entries t.chunk t.entry (place z s t.chunk t.key) t.key
    waiting H =
        record { numbered = b; in_use = (in_use_lem b).0; not_new = (in_use_lem b).1; used = x.used; keyed = x.keyed; lacks = Going.lacks-key z lim s h t r t.chunk b t.key o; placed = refl; range = λ l. ⊎_elim (λ (p : (chunk s t.chunk).status ≡ retired). absurd (neither l p)) (λ p. p.1 not-down) (r.chunk-of-key b) }
      where
        not-down : t.operation ≢ scan_down
        not-down q = absurd (false≢true (ap (λ (op : ℕ). fits_operation op 7) (sym q) ∙ rw e at H.fits))

        b : t.chunk.0 < z.chunks
        b = ltb-true _ _ H.chunk

        x : EntryHeld z s.chunks s.entries t.chunk t.entry t.key t.stage
        x = r.entry (ltb-true _ _ H.entry)

        neither : (chunk s t.chunk).status ≡ live → (chunk s t.chunk).status ≡ retired → ⊥
        neither l p = omega arith

    linked-then : (ts : List Task) (ss : List (List EntryNo)) → Holds z t (hold_at 7) → (m : ℕ) → t.entry.0 < z.entries →
        EntryHeld z (Stages.apply_link z (with_own s ts ss) t.chunk t.entry (place z s t.chunk t.key)).chunks (Stages.apply_link z (with_own s ts ss) t.chunk t.entry (place z s t.chunk t.key)).entries t.chunk t.entry t.key m
    linked-then ts ss H m b =
        record { inside = x.inside; used = x.used; keyed = x.keyed; linked = λ _. link-applied-linked z lim (with_own s ts ss) h t.chunk t.entry (place z s t.chunk t.key) t.key (waiting H) }
      where
        x : EntryHeld z (Stages.apply_link z (with_own s ts ss) t.chunk t.entry (place z s t.chunk t.key)).chunks (Stages.apply_link z (with_own s ts ss) t.chunk t.entry (place z s t.chunk t.key)).entries t.chunk t.entry t.key t.stage
        x = ((applied_by z lim (with_own s ts ss) h (write.Link t.chunk t.entry (place z s t.chunk t.key)) (t.key, waiting H)).written.tasks t r).entry b

    pub links-new-fine : Fine z s (Stages.moves (Stages.keeps t 8) (write.Link t.chunk t.entry (place z s t.chunk t.key)))
    links-new-fine =
        let H = Going.holds_at z lim s h t r 7 e (omega arith) in
        record {
          allowed = (t.key, waiting H);
          task = λ ts ss. record {
            idle = λ q. absurd (eight q);
            holds = λ _. record { fits = Going.fit z lim s h t r 7 8 (λ op. true) refl e (omega arith) refl; function = H.function; chunk = H.chunk; entry = H.entry; old = rw (eqb-true t.old.0 NONE H.old) (number-none z.handles); new = H.new; published = H.published; swapped = H.swapped };
            chunk-of-key = ((applied_by z lim (with_own s ts ss) h (write.Link t.chunk t.entry (place z s t.chunk t.key)) (t.key, waiting H)).written.tasks t r).chunk-of-key;
            entry = linked-then ts ss H 8;
          };
        }
      where
        eight : ◌≡◌ {A = ℕ} 8 0 → ⊥
        eight q = omega arith

  pub links-fine : t.stage ≡ 7 → Fine z s (Stages.links z s t)
  links-fine e =
      let H = Going.holds_at z lim s h t r 7 e (omega arith) in
      picked (Fine z s) (eqb (chunk s t.chunk).frozen 0)
      (λ _. picked (Fine z s) (Stages.has_other z s t)
      (λ i. Going.going z lim s h t r 8 t.chunk (find z s t.chunk t.key) no_handle no_handle 0 0 (omega arith)
      (record { fits = Going.fit z lim s h t r 7 8 (λ op. true) refl e (omega arith) refl; function = H.function; chunk = H.chunk; entry = i; old = number-none z.handles; new = refl; published = refl; swapped = refl })
      r.chunk-of-key (Going.found-held z lim s h t r t.chunk (ltb-true _ _ H.chunk) t.key 8))
      (λ i. links-new-fine e (ltb-false _ _ i)))
      (λ _. Going.restarted z lim s h t r _ (rw e (omega arith)) (Going.fit z lim s h t r 7 1 (λ op. true) refl e (omega arith) refl))

  -- ---- 8 take handle
  pub takes-handle-fine : t.stage ≡ 8 → Fine z s (Stages.takes_handle z s t)
  takes-handle-fine e =
      let H = Going.holds_at z lim s h t r 8 e (omega arith) in
      picked (Fine z s) (ltb (lowest_free z s).0 z.handles)
      (λ i. record {
        allowed = tt;
        task = λ ts ss. Going.row-right z lim s h t r 9 t.chunk t.entry t.old (lowest_free z s) 0 0 (omega arith)
            (record { fits = Going.fit z lim s h t r 8 9 (λ op. true) refl e (omega arith) refl; function = H.function; chunk = H.chunk; entry = H.entry; old = H.old; new = i; published = refl; swapped = refl })
            r.chunk-of-key (Going.entry-at z lim s h t r 8 e (omega arith) 9);
      })
      (λ _. Going.finished z lim s h t r _ _ tt)

  -- ---- 9 write
  pub writes-fine : t.stage ≡ 9 → Fine z s (Stages.writes z s t)
  writes-fine e =
      let H = Going.holds_at z lim s h t r 9 e (omega arith) in
      record {
        allowed = tt;
        task = λ ts ss. Going.row-right z lim s h t r 10 t.chunk t.entry t.old t.new t.published t.swapped (omega arith)
            (record { fits = Going.fit z lim s h t r 9 10 (λ op. true) refl e (omega arith) refl; function = H.function; chunk = H.chunk; entry = H.entry; old = H.old; new = H.new; published = H.published; swapped = H.swapped })
            r.chunk-of-key (Going.entry-at z lim s h t r 9 e (omega arith) 10);
      }

  -- ---- 10, 13, 19 publish
  pub publishes-fine : (t.stage ≡ 10) ⊎ ((t.stage ≡ 13) ⊎ (t.stage ≡ 19)) → Fine z s (Stages.publishes z s t)
  publishes-fine (inl e) =
      let H = Going.holds_at z lim s h t r 10 e (omega arith) in
      picked (Fine z s) (Stages.may_publish z s t)
      (λ _. rw e (Going.going z lim s h t r 11 t.chunk t.entry t.old t.new 1 0 (omega arith)
      (record { fits = Going.fit z lim s h t r 10 11 (λ op. true) refl e (omega arith) refl; function = H.function; chunk = H.chunk; entry = H.entry; old = H.old; new = H.new; published = refl; swapped = refl })
      r.chunk-of-key (Going.entry-at z lim s h t r 10 e (omega arith) 11)))
      (λ _. rw e (Going.restarted z lim s h t r _ (rw e (omega arith)) (Going.fit z lim s h t r 10 1 (λ op. true) refl e (omega arith) refl)))
  publishes-fine (inr (inl e)) =
      let H = Going.holds_at z lim s h t r 13 e (omega arith) in
      picked (Fine z s) (Stages.may_publish z s t)
      (λ _. rw e (Going.going z lim s h t r 14 t.chunk t.entry t.old t.new 1 0 (omega arith)
      (record { fits = Going.fit z lim s h t r 13 14 (λ op. true) refl e (omega arith) refl; function = H.function; chunk = H.chunk; entry = H.entry; old = H.old; new = H.new; published = refl; swapped = refl })
      r.chunk-of-key (Going.entry-at z lim s h t r 13 e (omega arith) 14)))
      (λ _. rw e (Going.restarted z lim s h t r _ (rw e (omega arith)) (Going.fit z lim s h t r 13 1 (λ op. true) refl e (omega arith) refl)))
  publishes-fine (inr (inr e)) =
      let H = Going.holds_at z lim s h t r 19 e (omega arith) in
      picked (Fine z s) (Stages.may_publish z s t)
      (λ _. rw e (Going.going z lim s h t r 20 t.chunk t.entry t.old t.new 1 0 (omega arith)
      (record { fits = Going.fit z lim s h t r 19 20 (λ op. true) refl e (omega arith) refl; function = H.function; chunk = H.chunk; entry = H.entry; old = H.old; new = H.new; published = refl; swapped = refl })
      r.chunk-of-key (Going.entry-at z lim s h t r 19 e (omega arith) 20)))
      (λ _. rw e (Going.going z lim s h t r 16 no_chunk no_entry t.old no_handle 0 0 (omega arith)
      (record { fits = Going.fit z lim s h t r 19 16 (λ op. true) refl e (omega arith) refl; function = H.function; chunk = refl; entry = refl; old = H.old; new = refl; published = refl; swapped = refl })
      (Going.no-chunk z lim s h _) (Going.no-entry z lim s h _)))
