-- What holds of a downward scan at every moment of it, along a run.
use Prim.Native.Nat.{ℕ, zero, suc, ◌-◌, ◌≤◌, ◌<◌}
use mathlib.Core.Path.{◌≡◌, refl, sym, ap, ◌∙◌, subst}
use mathlib.Core.Logic.{◌⊎◌, inl, inr, ⊎_elim, ⊎_map, ◌≢◌}
use mathlib.Core.Bool.{true, false}
use mathlib.Core.List.Memᴰ
use mathlib.Core.List.{List, [], ◌∷◌, ◌++◌, Memᴰ}
use native.Mathlib.Nat.{not-suc-le-zero}
use native.Mathlib.Decide.{ℕ_discrete, dec_lt}
use native.Mathlib.Omega.{arith}
use borrow.Author.Tests.{lt-ltb, le-ltb, leb-false}
use Rattle.rules.specs.declared.Sizes.{Sizes}
use Rattle.rules.specs.declared.Task.{Task}
use Rattle.rules.specs.declared.ChunkNo.{ChunkNo}
use Rattle.rules.specs.declared.EntryNo.{EntryNo}
use Rattle.rules.specs.declared.Decision.{Decision}
use Rattle.rules.specs.declared.Report.{Report}
use Rattle.rules.specs.declared.Write.TheVariants as write
use Rattle.rules.specs.declared.Report.TheVariants as report
use Rattle.rules.specs.Words.{unused, live, retired, scan_down}
use Rattle.rules.specs.Told.{Told, tells, told}
use Rattle.rules.specs.Tables.{Tables, stack, chunk, entry, value}
use Rattle.rules.specs.Walks.{linked, undeleted, InRange, Present}
use Rattle.rules.specs.Stages
use Rattle.rules.specs.Rebalance.{Outcome}
use Rattle.rules.specs.Calls.{Call, started, calls}
use Rattle.laws.specs.Counts.{Every}
use Rattle.laws.proofs.Tests.{by-test}
use Rattle.views.specs.Views.{on_words, on_stack}
use Rattle.views.proofs.Stacks.{member-last, member-others, member-cases, ascends-last}
use Rattle.statements.specs.Sound.{Limited}
use Rattle.statements.specs.Runs.{tables_at, Working, Stepped}
use Rattle.statements.specs.Answers.{GivesAt, Given}
use Rattle.simulation.specs.Named.{PresentBy}
use Rattle.simulation.proofs.Showing.{present-to}
use Rattle.holds.proofs.Unlinked.{reached-unlinked}
use Rattle.facts.specs.Facts.{Stacked, Leaves, Kept}
use Rattle.facts.specs.Reached.{Reached}
use Rattle.facts.proofs.Reaching.{reached-kept, run-reached, does-leaves}
use Rattle.facts.proofs.Stacking.{on-is, key-stays}
use Rattle.holds.proofs.Shaped.{calls-does}
use Rattle.history.specs.Turns.{Steps, Rests, Came}
use Rattle.history.specs.Goes.{ShownBy}
use Rattle.history.proofs.Runs.{tables-next, row_next, came}
use Rattle.history.proofs.Shown.{shown-stays}
use Rattle.scans.specs.Scanned.{Always}
use Rattle.scans.specs.Sunk.{Sinking, OfGiven, OnIt, Sunk}
use Rattle.scans.proofs.Judging.{found, row, decision, reports, more, less, here}
use Rattle.scans.proofs.Down.{down_by, shown-off, next-in, next_low, up-to-end, up-to-sought, taken_in, taken-all}

module _ (z : Sizes) (lim : Limited z) (run : ℕ → Call) (n : ℕ) where
  pub reached : (i : ℕ) → Reached z (tables_at z run i)
  reached = run-reached z run

  pub kept : (i : ℕ) → Kept z (tables_at z run i)
  kept i = reached-kept z lim (reached i)

  -- the row, and what is on the stack, at a moment
  abbrev pub at : ℕ → Task
  at i = row z lim run n i

  abbrev pub on : ℕ → List EntryNo
  on i = on_stack z (tables_at z run i) n

  module _ (i : ℕ) (b : n < z.tasks) where
    abbrev stands : Stacked z (tables_at z run i).chunks (tables_at z run i).entries (at i) (stack (tables_at z run i) n)
    stands = (reached-kept z lim (run-reached z run i)).stacks n b

    same-on : on i ≡ stands.on
    same-on = on-is z lim (tables_at z run i) (reached-kept z lim (run-reached z run i)) n b

    -- an entry on the stack is linked in the held chunk, which is one of the table
    pub on-linked : Every (λ e. Memᴰ e (linked z (tables_at z run i) (at i).chunk)) (on i)
    on-linked e m = stands.linked e (rw same-on at m)

    pub on-held : (e : EntryNo) → Memᴰ e (on i) → (at i).chunk.0 < z.chunks
    on-held e m = (stands.held (λ q. Memᴰ.not-nil (rw (same-on ∙ q) at m))).1

  module _ (k a f j : ℕ) where
    abbrev pub SunkAt : ℕ → Type 0
    SunkAt i = Sunk z run n k a j i (tables_at z run i) (at i) (on i)

    -- ---- at a moment
    module _ (i₀ : ℕ) (h : SunkAt i₀) where
      abbrev pub s : Tables
      s = tables_at z run i₀

      abbrev pub t : Task
      t = at i₀

      abbrev pub key_of : EntryNo → ℕ
      key_of e = (entry z s t.chunk e).key

      abbrev pub low : ℕ
      low = (chunk s t.chunk).min

      pub busy : t.stage ≢ 0
      busy e = absurd (omega (arith, h.stage, e))

      pub sinking : Sinking z s n (decision z lim run n i₀) (Stages.stack_then z s t n)
      sinking = down_by z lim s (reached i₀) n h.numbered h.stage

      -- the pair that a step gives is of the entry on top, which names an undeleted handle
      pub record Gave (q v : ℕ) : Type 0 where
        pub others : List EntryNo
        pub top : EntryNo
        pub is : on i₀ ≡ others ++ top ∷ []
        pub keyed : key_of top ≡ q
        pub marked : undeleted z s.marks (entry z s t.chunk top).handle ≡ true
        pub valued : value s (entry z s t.chunk top).handle ≡ v

      says : (q v : ℕ) → GivesAt z run n i₀ q v → {x : Decision} → decision z lim run n i₀ ≡ x → told x.report ≡ tells 5 q v
      says q v g is = ap told (sym (reports z lim run n i₀ busy g.own is) ∙ g.pair)

      quiet : {A : Type 0} (m q v : ℕ) → m ≢ 5 → (r : Report) → (told r).number ≡ m → told r ≡ tells 5 q v → A
      quiet m q v ne r is e = absurd (ne (sym is ∙ ap (λ (w : Told). w.number) e))

      gave-by : (l : List EntryNo) (e : EntryNo) → on i₀ ≡ l ++ e ∷ [] → decision z lim run n i₀ ≡ Stages.takes_off z s t e → (q v : ℕ) → GivesAt z run n i₀ q v → Gave q v
      gave-by l e is x q v g =
          by-test (undeleted z s.marks (entry z s t.chunk e).handle) pair (λ u. quiet 1 q v (omega arith) report.Moved refl (rw u at (says q v g x)))
        where
          pair : undeleted z s.marks (entry z s t.chunk e).handle ≡ true → Gave q v
          pair u = record { others = l; top = e; is = is; keyed = ap (λ (w : Told). w.first) told-pair; marked = u; valued = ap (λ (w : Told). w.second) told-pair }
            where
              told-pair : tells 5 (key_of e) (value s (entry z s t.chunk e).handle) ≡ tells 5 q v
              told-pair = rw u at (says q v g x)

      pub gave : (q v : ℕ) → GivesAt z run n i₀ q v → Gave q v
      gave q v g = go sinking
        where
          go : Sinking z s n (decision z lim run n i₀) (Stages.stack_then z s t n) → Gave q v
          go (Sinking.takes l e is x _ _) = gave-by l e is x q v g
          go (Sinking.ends _ x _ _) = quiet 8 q v (omega arith) report.Done refl (says q v g x)
          go (Sinking.fills _ x _ _) = quiet 1 q v (omega arith) report.Moved refl (says q v g x)

      pub gave-on : {q v : ℕ} (g : Gave q v) → Memᴰ g.top (on i₀)
      gave-on g = rw g.is (member-last g.others g.top)

      -- ---- the scan's own step
      module _ (after : j < i₀) (b : Steps z s (run i₀) n) where
        then-stepped : Stepped z run n j (suc i₀)
        then-stepped = record { at = i₀; since = after; before = omega arith; own = b.call }

        -- what it decides is its row then, and what is on its stack
        module _ (y : Task) (rep : Report) (is : decision z lim run n i₀ ≡ record { task = y; write = write.Nothing; report = rep }) (l : List EntryNo) (now_on : on_words z (Stages.stack_then z s t n) ≡ l) where
          pub next-tables : tables_at z run (suc i₀) ≡ Stages.put_own z s n y
          next-tables = tables-next z run i₀ ∙ ap (λ (o : Outcome). o.tables) b.done ∙ ap (λ (x : Decision). Stages.apply z (Stages.put_own z s n x.task) x.write) is

          pub next_row : at (suc i₀) ≡ y
          next_row = row_next z run lim n i₀ ∙ b.row ∙ ap (λ (x : Decision). x.task) is

          next-on : on (suc i₀) ≡ l
          next-on = ap (λ (x : Tables). on_stack z x n) (tables-next z run i₀) ∙ ap (on_words z) b.stack ∙ now_on

          -- so what holds of those in the tables as they were holds at the next moment
          goes_on : Sunk z run n k a j (suc i₀) s y l → SunkAt (suc i₀)
          goes_on w =
              rw (next_row, next-on, next-tables)
              (record {
                stage = w.stage;
                numbered = w.numbered;
                key = w.key;
                argument = w.argument;
                begins = w.begins;
                stepped = w.stepped;
                above = w.above;
                ranged = w.ranged;
                below = w.below;
                stacked = λ c q low up always. ⊎_map (λ g. g) (⊎_map (λ lt. lt) (λ (o : OnIt z run n k a j (suc i₀) s y l q). record { at = o.at; there = o.there; keyed = o.keyed; shows = record { handle = o.shows.handle; inside = o.shows.inside; named = o.shows.named; undeleted = o.shows.undeleted } })) (w.stacked c q low up always);
              })

        -- of a key given since, at the step or before it
        since : (P : ℕ → Type 0) → OfGiven z run n k a j i₀ s t (on i₀) P → ((q v : ℕ) → GivesAt z run n i₀ q v → P q) → OfGiven z run n k a j (suc i₀) s t (on i₀) P
        since P before here x q v lo hi g = elim (ℕ_discrete x i₀) [ yes e ↦ here q v (rw e at g) | no ne ↦ before x q v lo (omega (arith, ne, hi)) g ]

        -- one entry is taken off
        taken : (l : List EntryNo) (e : EntryNo) → on i₀ ≡ l ++ e ∷ [] → decision z lim run n i₀ ≡ Stages.takes_off z s t e → on_words z (Stages.stack_then z s t n) ≡ l → SunkAt (suc i₀)
        taken l e is x now_on =
            goes_on t _ x l now_on
            (record {
              stage = h.stage;
              numbered = h.numbered;
              key = h.key;
              argument = h.argument;
              begins = λ out. absurd (omega (arith, out, inside));
              stepped = λ _. then-stepped;
              above = λ c. since (λ q. low ≤ q) (h.above c) (λ q v g. rw (← gives q v g) (h.ranged e top-on).2);
              ranged = λ y m. h.ranged y (low-on y m);
              below = λ y m. since (λ q. key_of y < q) (h.below y (low-on y m)) (λ q v g. rw (← gives q v g) (ascends-last key_of 0 l e (rw (sym (same-on i₀ h.numbered) ∙ is) at (stands i₀ h.numbered).rises) y m));
              stacked = λ c q low up always. ⊎_elim (λ g. inl (more z lim run n j i₀ q g)) (⊎_elim (λ lt. inr (inl lt)) (onward q always)) (h.stacked c q low up (less z lim run n j i₀ q always));
            })
          where
            top-on : Memᴰ e (on i₀)
            top-on = rw is (member-last l e)

            low-on : (y : EntryNo) → Memᴰ y l → Memᴰ y (on i₀)
            low-on y m = rw is (member-others l e y m)

            inside : t.chunk.0 < z.chunks
            inside = on-held i₀ h.numbered e top-on

            -- what it gives is that entry's key
            gives : (q v : ℕ) → GivesAt z run n i₀ q v → key_of e ≡ q
            gives q v g =
                by-test (undeleted z s.marks (entry z s t.chunk e).handle) (λ u. ap (λ (w : Told). w.first) (pair u)) (λ u. quiet 1 q v (omega arith) report.Moved refl (rw u at (says q v g x)))
              where
                pair : undeleted z s.marks (entry z s t.chunk e).handle ≡ true → tells 5 (key_of e) (value s (entry z s t.chunk e).handle) ≡ tells 5 q v
                pair u = rw u at (says q v g x)

            onward : (q : ℕ) → Always z run n j (suc i₀) q → OnIt z run n k a j i₀ s t (on i₀) q → Given z run n j (suc i₀) q ⊎ ((q < low) ⊎ OnIt z run n k a j (suc i₀) s t l q)
            onward q always o = member-cases l e o.at (rw is at o.there) (λ p. inl (at_top p)) (λ m. inr (inr (record { at = o.at; there = m; keyed = o.keyed; shows = o.shows })))
              where
                at_top : o.at ≡ e → Given z run n j (suc i₀) q
                at_top p = record { at = i₀; value = value s (entry z s t.chunk e).handle; since = after; before = omega arith; gives = record { own = b.call; pair = reports z lim run n i₀ busy b.call x ∙ rw (marked, keyed) refl } }
                  where
                    keyed : key_of e ≡ q
                    keyed = ap key_of (sym p) ∙ o.keyed

                    marked : undeleted z s.marks (entry z s t.chunk e).handle ≡ true
                    marked = shown-off z lim s (reached i₀) n h.numbered inside e (on-linked i₀ h.numbered e top-on) (rw keyed o.shows)

        -- ---- the empty stack is filled
        module _ (empty : on i₀ ≡ []) (x : decision z lim run n i₀ ≡ Stages.fills z s t) (higher : Stages.is_lowest z s t ≡ false) (now_on : on_words z (Stages.stack_then z s t n) ≡ Stages.fills_with z s t) where
          abbrev pub c : ChunkNo
          c = Stages.next_down z s t

          -- it moves on, so what is given was given before
          unsaid : (P : ℕ → Type 0) → OfGiven z run n k a j i₀ s t (on i₀) P → OfGiven z run n k a j (suc i₀) s t (on i₀) P
          unsaid P before = since P before (λ q v g. quiet 1 q v (omega arith) report.Moved refl (says q v g x))

          -- where a chunk is held its minimum key lies above the lower end, and the next one's below it
          over-key : t.chunk.0 < z.chunks → t.key < low
          over-key i = leb-false _ _ (rw (lt-ltb t.chunk.0 z.chunks i) at higher)

          sought-held : t.chunk.0 < z.chunks → Stages.sought z s t ≡ low - 1
          sought-held i = rw (lt-ltb t.chunk.0 z.chunks i)

          sought-first : z.chunks ≤ t.chunk.0 → Stages.sought z s t ≡ t.argument
          sought-first o = rw (le-ltb t.chunk.0 z.chunks o)

          pub sinks-low : t.chunk.0 < z.chunks → (chunk s c).min < low
          sinks-low i = omega (arith, next_low z lim s (reached i₀) n h.numbered, sought-held i, over-key i)

          -- the keys to fill with lie below a held chunk's minimum key
          under_low : t.chunk.0 < z.chunks → Stages.up_to z s t < low
          under_low i = omega (arith, up-to-sought z lim s (reached i₀) n h.numbered, sought-held i, over-key i)

          -- a present key in range, and under a held chunk's minimum key, is under the next one's, or on the stack
          placed : (q v : ℕ) → Present z s q v → k ≤ q → q ≤ a → (t.chunk.0 < z.chunks → q < low) → (q < (chunk s c).min) ⊎ OnIt z run n k a j (suc i₀) s (Stages.fills z s t).task (Stages.fills_with z s t) q
          placed q v p from up held = elim (dec_lt q (chunk s c).min) [ yes lt ↦ inl lt | no ge ↦ inr (there (omega (arith, ge))) ]
            where
              to : q ≤ Stages.sought z s t
              to = elim (dec_lt t.chunk.0 z.chunks) [ yes i ↦ omega (arith, sought-held i, held i) | no out ↦ omega (arith, sought-first (omega (arith, out)), h.argument, up) ]

              there : (chunk s c).min ≤ q → OnIt z run n k a j (suc i₀) s (Stages.fills z s t).task (Stages.fills_with z s t) q
              there le = record { at = w.0; there = w.1; keyed = w.2; shows = w.3 }
                where
                  w : (e : EntryNo) × Memᴰ e (Stages.fills_with z s t) × ((entry z s c e).key ≡ q) × ShownBy z s c q
                  w = taken-all z lim s (reached i₀) n h.numbered q v p (rw h.key from) (rw h.argument up) to le

          filled : SunkAt (suc i₀)
          filled =
              goes_on (Stages.fills z s t).task report.Moved x (Stages.fills_with z s t) now_on
              (record {
                stage = refl;
                numbered = h.numbered;
                key = h.key;
                argument = h.argument;
                begins = λ out. absurd (omega (arith, out, next-in z lim s (reached i₀) n h.numbered));
                stepped = λ _. then-stepped;
                above = λ _. unsaid (λ q. (chunk s c).min ≤ q) (λ x q v lo hi g. elim (dec_lt t.chunk.0 z.chunks) [ yes i ↦ omega (arith, sinks-low i, h.above i x q v lo hi g) | no out ↦ absurd (h.begins (omega (arith, out)) x q v lo hi g) ]);
                ranged = λ e m. (rw (← h.key) (taken e m).0, omega (arith, (taken e m).1, up-to-end z lim s (reached i₀) n h.numbered, h.argument), (taken e m).2);
                below = λ e m. unsaid (λ q. (entry z s c e).key < q) (λ x q v lo hi g. elim (dec_lt t.chunk.0 z.chunks) [ yes i ↦ omega (arith, (taken e m).1, under_low i, h.above i x q v lo hi g) | no out ↦ absurd (h.begins (omega (arith, out)) x q v lo hi g) ]);
                stacked = λ _ q from up always. found z lim run i₀ q (here z lim run n j i₀ q after b.call always) (λ v p. elim (dec_lt t.chunk.0 z.chunks) [ yes i ↦ later q v from up always p (h.stacked i q from up (less z lim run n j i₀ q always)) | no out ↦ inr (placed q v p from up (λ i. absurd (out i))) ]);
              })
            where
              taken : (e : EntryNo) → Memᴰ e (Stages.fills_with z s t) → (t.key ≤ (entry z s c e).key) × ((entry z s c e).key ≤ Stages.up_to z s t) × ((chunk s c).min ≤ (entry z s c e).key)
              taken = taken_in z lim s (reached i₀) n h.numbered

              later : (q v : ℕ) → k ≤ q → q ≤ a → Always z run n j (suc i₀) q → Present z s q v → Given z run n j i₀ q ⊎ ((q < low) ⊎ OnIt z run n k a j i₀ s t (on i₀) q) →
                  Given z run n j (suc i₀) q ⊎ ((q < (chunk s c).min) ⊎ OnIt z run n k a j (suc i₀) s (Stages.fills z s t).task (Stages.fills_with z s t) q)
              later q v from up always p (inl g) = inl (more z lim run n j i₀ q g)
              later q v from up always p (inr (inl lt)) = inr (placed q v p from up (λ _. lt))
              later q v from up always p (inr (inr o)) = absurd (Memᴰ.not-nil (rw empty at o.there))

        step-sunk : (at (suc i₀)).stage ≢ 0 → SunkAt (suc i₀)
        step-sunk busy-on = go sinking
          where
            go : Sinking z s n (decision z lim run n i₀) (Stages.stack_then z s t n) → SunkAt (suc i₀)
            go (Sinking.takes l e is x now_on _) = taken l e is x now_on
            go (Sinking.ends _ x _ _) = absurd (busy-on (ap (λ (y : Task). y.stage) (row_next z run lim n i₀ ∙ b.row ∙ ap (λ (y : Decision). y.task) x)))
            go (Sinking.fills empty x higher now_on) = filled empty x higher now_on

      -- ---- a call that is none of the scan's
      module _ (after : j < i₀) (b : Rests z s (run i₀) n) where
        abbrev x : Tables
        x = (calls z s (run i₀)).tables

        leaves : Leaves z s x t.chunk
        leaves = subst (λ (o : Outcome). Leaves z s o.tables t.chunk) (sym (calls-does z lim s (reached i₀) (run i₀))) (does-leaves z lim s (reached-kept z lim (run-reached z run i₀)) n (run i₀))

        now_on : on_stack z x n ≡ on i₀
        now_on = ap (on_words z) b.stack

        -- what is given was given before
        unsaid-on : (P : ℕ → Type 0) → OfGiven z run n k a j i₀ s t (on i₀) P → OfGiven z run n k a j (suc i₀) s t (on i₀) P
        unsaid-on P before y q v lo hi g = elim (ℕ_discrete y i₀) [ yes e ↦ absurd (busy (b.unstepped (rw e at g.own))) | no ne ↦ before y q v lo (omega (arith, ne, hi)) g ]

        -- the held chunk is in use, so its minimum key stays, and the keys on the stack
        in_use : t.chunk.0 < z.chunks → (chunk s t.chunk).status ≢ unused
        in_use i e = ⊎_elim (λ q. omega (arith, e, q)) (λ q. omega (arith, e, q.0)) (((kept i₀).tasks n).chunk-of-key i)

        low-stays : t.chunk.0 < z.chunks → (chunk x t.chunk).min ≡ low
        low-stays i = leaves.min (in_use i)

        key-on : (e : EntryNo) → Memᴰ e (on i₀) → (entry z x t.chunk e).key ≡ key_of e
        key-on e m = key-stays z lim s (reached-kept z lim (run-reached z run i₀)) x n leaves h.numbered e (rw (same-on i₀ h.numbered) at m)

        then-there : t.chunk.0 < z.chunks → (q : ℕ) → Always z run n j (suc i₀) q → {A : Type 0} → ((v : ℕ) → PresentBy z x q v → A) → A
        then-there i q always f = found z lim run (suc i₀) q (always (suc i₀) (record { first = st.at; since = st.since; own = st.own; from = omega (arith, st.before); to = omega arith })) (λ v p. f v (rw (tables-next z run i₀) at (present-to z lim (tables_at z run (suc i₀)) (kept (suc i₀)) (reached-unlinked z lim (reached (suc i₀))) p)))
          where
            st : Stepped z run n j i₀
            st = h.stepped i

        -- an entry on the stack that was shown is shown
        on-still : t.chunk.0 < z.chunks → (q : ℕ) → Always z run n j (suc i₀) q → OnIt z run n k a j i₀ s t (on i₀) q → OnIt z run n k a j (suc i₀) x t (on i₀) q
        on-still i q always o = then-there i q always (λ v p. record { at = o.at; there = o.there; keyed = keyed; shows = shown-stays z lim s (reached i₀) (run i₀) n t.chunk q v i alive o.shows p })
          where
            keyed : (entry z x t.chunk o.at).key ≡ q
            keyed = key-on o.at o.there ∙ o.keyed

            kept_then : Kept z x
            kept_then = rw (tables-next z run i₀) at (kept (suc i₀))

            linked-then : Memᴰ o.at (linked z x t.chunk)
            linked-then = rw (tables-next z run i₀, b.row) at (on-linked (suc i₀) h.numbered o.at (rw (tables-next z run i₀, now_on) o.there))

            alive : ((chunk x t.chunk).status ≡ retired) ⊎ (((chunk x t.chunk).status ≡ live) × InRange z x.chunks t.chunk q)
            alive = ⊎_map (λ e. e) (λ e. (e.0, rw keyed at (kept_then.tables.key-in-range t.chunk i e.0 o.at linked-then))) (rw b.row at (kept_then.tasks n).chunk-of-key i)

        rests-sunk : SunkAt (suc i₀)
        rests-sunk =
            rw (tables-next z run i₀, b.row, now_on)
            (record {
              stage = h.stage;
              numbered = h.numbered;
              key = h.key;
              argument = h.argument;
              begins = λ out. unsaid-on (λ _. ⊥) (h.begins out);
              stepped = λ i. let st = h.stepped i in record { at = st.at; since = st.since; before = omega (arith, st.before); own = st.own };
              above = λ i. unsaid-on (λ q. (chunk x t.chunk).min ≤ q) (λ y q v lo hi g. rw (low-stays i) (h.above i y q v lo hi g));
              ranged = λ e m. rw (key-on e m, low-stays (on-held i₀ h.numbered e m)) (h.ranged e m);
              below = λ e m. unsaid-on (λ q. (entry z x t.chunk e).key < q) (λ y q v lo hi g. rw (key-on e m) (h.below e m y q v lo hi g));
              stacked = λ i q from up always. ⊎_map (more z lim run n j i₀ q) (⊎_map (λ lt. rw (low-stays i) lt) (on-still i q always)) (h.stacked i q from up (less z lim run n j i₀ q always));
            })

    -- ---- at every moment of a downward scan at work
    pub sunk : (i : ℕ) → Working z run n scan_down k a f j i → SunkAt i
    sunk zero w = absurd (not-suc-le-zero w.before)
    sunk (suc i) w = go (came z run lim n w) (sunk i)
      where
        go : Came z run n scan_down k a f j i → (Working z run n scan_down k a f j i → SunkAt i) → SunkAt (suc i)
        go (Came.begins e b) before =
            record {
              stage = ap (λ (y : Task). y.stage) is;
              numbered = b.numbered;
              key = ap (λ (y : Task). y.key) is;
              argument = ap (λ (y : Task). y.argument) is;
              begins = λ _ x q v lo hi g. absurd (omega (arith, e, lo, hi));
              stepped = λ c. absurd (out c);
              above = λ c. absurd (out c);
              ranged = λ x m. absurd (out (on-held (suc i) b.numbered x m));
              below = λ x m. absurd (out (on-held (suc i) b.numbered x m));
              stacked = λ c. absurd (out c);
            }
          where
            is : at (suc i) ≡ started z (tables_at z run i) scan_down k a f
            is = row_next z run lim n i ∙ b.row

            -- it holds no chunk yet
            out : (at (suc i)).chunk.0 < z.chunks → ⊥
            out c = omega (arith, c, ap (λ (y : Task). y.chunk.0) is, lim.chunks)
        go (Came.steps v b) before = step-sunk i (before v) v.before b (w.on (suc i) w.before (omega arith))
        go (Came.rests v b) before = rests-sunk i (before v) v.before b
