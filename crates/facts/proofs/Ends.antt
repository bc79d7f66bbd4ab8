-- The other stages of a task, and so every stage: the write is allowed, and the task's row afterwards has the facts.
use Prim.Native.Nat.{ℕ, ◌+◌, ◌<◌}
use mathlib.Core.Path.{◌≡◌, refl, sym, ◌∙◌, subst}
use mathlib.Core.Logic.{◌⊎◌, inl, inr, ◌≢◌}
use mathlib.Core.Bool.{true}
use mathlib.Core.List.{List}
use native.Mathlib.Omega.{arith}
use lib.Dec.{eqb, ltb}
use lib.ListN.{set}
use borrow.Author.Tests.{ltb-true, eqb-true}
use Rattle.rules.specs.declared.Sizes.{Sizes}
use Rattle.rules.specs.declared.Task.{Task}
use Rattle.rules.specs.declared.Entry.{Entry}
use Rattle.rules.specs.declared.ChunkNo.{ChunkNo}
use Rattle.rules.specs.declared.HandleNo.{HandleNo}
use Rattle.rules.specs.declared.Report.{Report}
use Rattle.rules.specs.declared.Write.TheVariants as write
use Rattle.rules.specs.Words.{pick, ◌and◌, NONE, no_entry, no_handle, live, scan_down}
use Rattle.rules.specs.Tables.{Tables, row, chunk, entry}
use Rattle.rules.specs.Walks.{find, InRange}
use Rattle.rules.specs.Stages
use Rattle.rules.specs.Shape.{numbers, hold, flag_as, fits_operation}
use Rattle.laws.proofs.EachStage.{each-stage, scan-cases}
use Rattle.laws.proofs.Tests.{picked}
use Rattle.statements.specs.Sound.{Limited}
use Rattle.facts.specs.Facts.{Tabled, Holds, hold_at, EntryHeld, Tasked}
use Rattle.facts.proofs.Numbers.{number_in, number-none}
use Rattle.facts.proofs.Operations.{throughout, implies, fits-test}
use Rattle.facts.proofs.Going
use Rattle.facts.proofs.Going.{Fine}
use Rattle.facts.proofs.Stages as early
use Rattle.facts.proofs.Writes.{name-written}

module _ (z : Sizes) (lim : Limited z) (s : Tables) (h : Tabled z s.directory s.chunks s.entries) (t : Task) (r : Tasked z s.chunks s.entries t) where
  -- ---- 11, 14, 20 swap
  -- the entry comes to name a handle, or none
  naming : (n m w : ℕ) (x : HandleNo) → t.stage ≡ n → n ≢ 7 → m ≢ 0 → t.chunk.0 < z.chunks → t.entry.0 < z.entries → numbers z.handles x.0 ≡ true →
      Holds z (Stages.goes_to t m t.chunk t.entry t.old t.new 1 w) (hold_at m) →
      Fine z s (Stages.moves (Stages.goes_to t m t.chunk t.entry t.old t.new 1 w) (write.Name t.chunk t.entry x))
  naming n m w x e ne mz b be num holds =
      record { allowed = (b, held.used, num); task = λ ts ss. record { idle = λ q. absurd (mz q); holds = λ _. holds; chunk-of-key = after.chunk-of-key; entry = λ i. again (after.entry i) } }
    where
      held : EntryHeld z s.chunks s.entries t.chunk t.entry t.key t.stage
      held = r.entry be

      entries' : List Entry
      entries' = set s.entries (row z t.chunk t.entry) (Stages.with_handle (entry z s t.chunk t.entry) x)

      after : Tasked z s.chunks entries' t
      after = (name-written z lim s.directory s.chunks s.entries h t.chunk t.entry x b held.used num).tasks t r

      again : EntryHeld z s.chunks entries' t.chunk t.entry t.key t.stage → EntryHeld z s.chunks entries' t.chunk t.entry t.key m
      again y = record { inside = y.inside; used = y.used; keyed = y.keyed; linked = λ _. y.linked (λ q. ne (sym e ∙ q)) }

  -- the swap, done or failed, by what the two stages hold
  swapped : (n o k f w : ℕ) (x : HandleNo) → t.stage ≡ n → n ≢ 0 → n ≢ 7 → throughout 9 (λ op. implies (fits_operation op n and true) (fits_operation op (n + 1))) ≡ true → hold_at n ≡ hold 1 1 o k 1 0 → hold_at (n + 1) ≡ hold 1 1 o k 1 f → flag_as f 0 ≡ true → flag_as f w ≡ true → numbers z.handles x.0 ≡ true →
      Fine z s (pick (Stages.still_names z s t) (Stages.moves (Stages.goes_to t (n + 1) t.chunk t.entry t.old t.new 1 w) (write.Name t.chunk t.entry x)) (Stages.moves (Stages.keeps t (n + 1)) write.Nothing))
  swapped n o k f w x e ne n7 fits was is f0 fw num =
      picked (Fine z s) (Stages.still_names z s t)
      (λ _. naming n (n + 1) w x e n7 (omega arith) (ltb-true _ _ H.chunk) (ltb-true _ _ H.entry) num (next 1 w refl fw))
      (λ _. Going.going z lim s h t r (n + 1) t.chunk t.entry t.old t.new t.published t.swapped (omega arith) (next t.published t.swapped H.published (rw (eqb-true t.swapped 0 H.swapped) f0)) r.chunk-of-key (Going.entry-at z lim s h t r n e n7 (n + 1)))
    where
      H : Holds z t (hold 1 1 o k 1 0)
      H = subst (Holds z t) was (Going.holds_at z lim s h t r n e ne)

      next : (p v : ℕ) → flag_as 1 p ≡ true → flag_as f v ≡ true → Holds z (Stages.goes_to t (n + 1) t.chunk t.entry t.old t.new p v) (hold_at (n + 1))
      next p v i j = subst (Holds z (Stages.goes_to t (n + 1) t.chunk t.entry t.old t.new p v)) (sym is) (record { fits = Going.fit z lim s h t r n (n + 1) (λ op. true) fits e ne refl; function = H.function; chunk = H.chunk; entry = H.entry; old = H.old; new = H.new; published = i; swapped = j })

  swaps-fine : t.stage ≡ 11 → Fine z s (Stages.swaps z s t t.new)
  swaps-fine e = rw e (swapped 11 2 1 2 1 t.new e (omega arith) (omega arith) refl refl refl refl refl (number_in z.handles t.new.0 (ltb-true t.new.0 z.handles (Going.holds_at z lim s h t r 11 e (omega arith)).new)))

  clears-fine : (t.stage ≡ 14) ⊎ (t.stage ≡ 20) → Fine z s (Stages.swaps z s t no_handle)
  clears-fine (inl e) = rw e (swapped 14 1 0 2 1 no_handle e (omega arith) (omega arith) refl refl refl refl refl (number-none z.handles))
  clears-fine (inr e) = rw e (swapped 20 3 0 0 0 no_handle e (omega arith) (omega arith) refl refl refl refl refl (number-none z.handles))

  -- ---- 12, 15 unpublish
  ended : (n : ℕ) (why answer : Report) → t.stage ≡ n → n ≢ 0 → throughout 9 (λ op. implies (fits_operation op n and true) (fits_operation op 1)) ≡ true → Fine z s (pick (Stages.swap_failed z s t) (Stages.restarts t why) (Stages.finishes write.Nothing answer))
  ended n why answer e ne fits =
      picked (Fine z s) (Stages.swap_failed z s t) (λ _. Going.restarted z lim s h t r _ (rw e ne) (Going.fit z lim s h t r n 1 (λ op. true) fits e ne refl)) (λ _. Going.finished z lim s h t r _ _ tt)

  -- ---- 17, 18 find and read again
  finds-again-fine : t.stage ≡ 17 → Fine z s (Stages.finds_again z s t)
  finds-again-fine e =
      let H = Going.holds_at z lim s h t r 17 e (omega arith) in
      picked (Fine z s) (Stages.has_key z s t)
      (λ i. Going.going z lim s h t r 18 t.chunk (find z s t.chunk t.key) t.old no_handle 0 0 (omega arith)
      (record { fits = Going.fit z lim s h t r 17 18 (λ op. true) refl e (omega arith) refl; function = H.function; chunk = H.chunk; entry = Going.key_in z lim s h t r i; old = H.old; new = refl; published = refl; swapped = refl })
      r.chunk-of-key (Going.found-held z lim s h t r t.chunk (ltb-true _ _ H.chunk) t.key 18))
      (λ _. Going.finished z lim s h t r _ _ tt)

  reads-again-fine : t.stage ≡ 18 → Fine z s (Stages.reads_again z s t)
  reads-again-fine e =
      let H = Going.holds_at z lim s h t r 18 e (omega arith) in
      picked (Fine z s) (eqb (entry z s t.chunk t.entry).handle.0 t.old.0)
      (λ _. Going.going z lim s h t r 19 t.chunk t.entry t.old t.new t.published t.swapped (omega arith)
      (record { fits = Going.fit z lim s h t r 18 19 (λ op. true) refl e (omega arith) refl; function = H.function; chunk = H.chunk; entry = H.entry; old = H.old; new = H.new; published = H.published; swapped = H.swapped })
      r.chunk-of-key (Going.entry-at z lim s h t r 18 e (omega arith) 19))
      (λ _. Going.finished z lim s h t r _ _ tt)

  -- ---- 22 scan
  ends-right : t.stage ≡ 22 → (k a : ℕ) → Tasked z s.chunks s.entries (Stages.with_ends t k a)
  ends-right e k a =
      record {
        idle = λ q. absurd (busy q);
        holds = λ ne. let H = r.holds ne in record { fits = H.fits; function = H.function; chunk = H.chunk; entry = H.entry; old = H.old; new = H.new; published = H.published; swapped = H.swapped };
        chunk-of-key = λ b. Going.no-chunk z lim s h _ (rw (eqb-true t.chunk.0 NONE H.chunk) at b);
        entry = λ b. Going.no-entry z lim s h _ (rw (eqb-true t.entry.0 NONE H.entry) at b);
      }
    where
      busy : t.stage ≡ 0 → ⊥
      busy q = omega arith

      H : Holds z t (hold_at 22)
      H = Going.holds_at z lim s h t r 22 e (omega arith)

  scans-fine : t.stage ≡ 22 → Fine z s (Stages.scans z s t)
  scans-fine e = scan-cases z s 0 t (Fine z s) (Going.finished z lim s h t r _ _ tt) (λ k a. record { allowed = tt; task = λ ts ss. ends-right e k a }) (λ k a q v. record { allowed = tt; task = λ ts ss. ends-right e k a })

  -- ---- 23 scan down
  scans-down-fine : (n : ℕ) → t.stage ≡ 23 → Fine z s (Stages.scans_down z s t n)
  scans-down-fine n e =
      picked (Fine z s) (ltb (Stages.top_of z s t n).0 z.entries) (λ _. record { allowed = tt; task = λ ts ss. r })
      (λ _. picked (Fine z s) (Stages.is_lowest z s t) (λ _. Going.finished z lim s h t r _ _ tt)
      (λ _. Going.going z lim s h t r 23 next no_entry no_handle no_handle 0 0 (omega arith)
      (record { fits = rw e at H.fits; function = H.function; chunk = number_in _ _ found.0; entry = refl; old = refl; new = refl; published = refl; swapped = refl })
      (λ _. inr (found.1.0, λ ne. absurd (ne down))) (Going.no-entry z lim s h _)))
    where
      H : Holds z t (hold_at 23)
      H = Going.holds_at z lim s h t r 23 e (omega arith)

      next : ChunkNo
      next = Stages.next_down z s t

      found : (next.0 < z.chunks) × (((chunk s next).status ≡ live) × InRange z s.chunks next (Stages.sought z s t))
      found = Going.located z lim s h (Stages.sought z s t)

      down : t.operation ≡ scan_down
      down = eqb-true _ _ (fits-test 23 (λ op. eqb op scan_down) refl t.operation (rw e at H.fits))

  -- ---- every stage, of task number n
  pub decides-fine : (n : ℕ) → Fine z s (Stages.decide z s n t)
  decides-fine n =
      each-stage z s n t (Fine z s) (record {
        locates = early.locates-fine z lim s h t r;
        finds = early.finds-fine z lim s h t r;
        reads = early.reads-fine z lim s h t r;
        checks = early.checks-fine z lim s h t r;
        applies = early.applies-fine z lim s h t r;
        takes_entry = early.takes-entry-fine z lim s h t r;
        links = early.links-fine z lim s h t r;
        takes_handle = early.takes-handle-fine z lim s h t r;
        writes = early.writes-fine z lim s h t r;
        publishes = early.publishes-fine z lim s h t r;
        swaps = swaps-fine;
        clears = clears-fine;
        ends_insertion = λ e. ended 12 _ _ e (omega arith) refl;
        ends_absent = λ e. ended 15 _ _ e (omega arith) refl;
        finds_again = finds-again-fine;
        reads_again = reads-again-fine;
        ends_remove = λ e. Going.finished z lim s h t r _ _ tt;
        scans = scans-fine;
        scans_down = scans-down-fine n;
        stays = λ _. record { allowed = tt; task = λ ts ss. r };
      })
