-- What a step of a task at work does, stage by stage.
use Prim.Native.Nat.{ℕ, ◌≤◌, ◌<◌}
use mathlib.Core.Path.{◌≡◌, refl, sym, ap, ◌∙◌}
use mathlib.Core.Logic.{◌⊎◌, inl, inr, ⊎_elim, ◌≢◌}
use mathlib.Core.Bool.{Bool, true, false, not, false≢true}
use mathlib.Core.List.{List}
use native.Mathlib.Omega.{arith}
use lib.Dec.{eqb, ltb, leb}
use lib.ListN.{get_or}
use borrow.Author.Tests.{ltb-true, ltb-false, leb-true, eqb-true, eqb-false, ne_eqb}
use Rattle.rules.specs.declared.Sizes.{Sizes}
use Rattle.rules.specs.declared.Task.{Task}
use Rattle.rules.specs.declared.ChunkNo.{ChunkNo}
use Rattle.rules.specs.declared.EntryNo.{EntryNo}
use Rattle.rules.specs.declared.HandleNo.{HandleNo}
use Rattle.rules.specs.declared.Decision.{Decision}
use Rattle.rules.specs.declared.Write.{Write}
use Rattle.rules.specs.declared.Write.TheVariants as write
use Rattle.rules.specs.declared.Report.{Report}
use Rattle.rules.specs.declared.Report.TheVariants as report
use Rattle.rules.specs.Words.{pick, ◌and◌, ◌or◌, no_entry, no_handle, get, put, put_if_absent, upsert, compute, remove, is_scan, inserts}
use Rattle.rules.specs.Tables.{Tables, chunk, entry, value, mark, task}
use Rattle.rules.specs.Walks.{locate, find, lowest_free, undeleted}
use Rattle.rules.specs.Stages
use Rattle.rules.specs.Map.{Pair, effect, on_absent}
use Rattle.laws.proofs.EachStage.{each-stage, scan-cases}
use Rattle.laws.proofs.Tests.{picked, by-test, or_cases, or_left, or_right}
use Rattle.statements.specs.Sound.{Limited}
use Rattle.facts.specs.Facts.{Holds, hold_at, EntryHeld, Kept}
use Rattle.facts.specs.Reached.{Reached}
use Rattle.statements.specs.Runs.{decides}
use Rattle.simulation.specs.Beside.{replaces, change_answer}
use Rattle.facts.proofs.Numbers.{holding}
use Rattle.facts.proofs.Operations.{fits-test, throughout, implies}
use Rattle.rules.specs.Shape.{fits_operation}
use Rattle.facts.proofs.Covering.{covers}
use Rattle.facts.proofs.Going.{lacks-key}
use Rattle.facts.proofs.Reaching.{reached-kept}
use Rattle.holds.proofs.Marks.{reached-marked}
use Rattle.holds.proofs.Unlinked.{reached-unlinked}
use Rattle.simulation.specs.Named.{PresentBy}
use Rattle.rules.specs.Told.{is_answer}
use Rattle.history.specs.Goes.{past, looks_in, looks_old, ShownBy, Gone, ending, Onward, stepped, Follows, Carries, Ends, Goes}
use Rattle.history.proofs.Shown.{live-absent, entry_named}

-- the operation goes on at a stage, with these holds, a write and a report
abbrev goes_by : Task → ℕ → ChunkNo → EntryNo → HandleNo → HandleNo → ℕ → ℕ → Write → Report → Decision
goes_by t m c e o h p w wr rep = record { task = Stages.goes_to t m c e o h p w; write = wr; report = rep }

-- two rows of one operation answer their change alike where both replace a value or both none, and their old handles have the same
pub answer-like : (s s₁ : Tables) (t t₁ : Task) → t₁.operation ≡ t.operation → replaces t₁.stage ≡ replaces t.stage → value s₁ t₁.old ≡ value s t.old → change_answer s₁ t₁ ≡ change_answer s t
answer-like s s₁ t t₁ same at v = rw (same, at, v) refl

-- get, compute and remove answer on an absent key as they do where they have seen none
absent-answer : (op k a f : ℕ) → inserts op ≡ false → (m : List Pair) → on_absent m op k a f ≡ effect (pick (eqb op compute) report.False report.Absent) m
absent-answer op k a f none_in m = rw (other put refl, other put_if_absent refl, other upsert refl) (by-test (eqb op compute) (λ c. rw c refl) (λ c. rw c refl))
  where
    other : (n : ℕ) → inserts n ≡ true → eqb op n ≡ false
    other n yes-in = ne_eqb op n (λ e. false≢true (sym none_in ∙ ap inserts e ∙ yes-in))

not-true : (b : Bool) → not b ≡ true → b ≡ false
not-true true h = absurd (false≢true h)
not-true false h = refl

module _ (z : Sizes) (lim : Limited z) (s : Tables) (r : Reached z s) (n : ℕ) where
  abbrev t : Task
  t = task s n

  abbrev By : Decision → Type 0
  By x = Goes z s n x

  kept : Kept z s
  kept = reached-kept z lim r

  holds_at : (m : ℕ) → t.stage ≡ m → m ≢ 0 → Holds z t (hold_at m)
  holds_at = holding z s.chunks s.entries t (kept.tasks n)

  -- what every operation that fits the stage passes
  passes : (m : ℕ) (p : ℕ → Bool) → throughout 9 (λ op. implies (fits_operation op m) (p op)) ≡ true → t.stage ≡ m → m ≢ 0 → p t.operation ≡ true
  passes m p all e ne = fits-test m p all t.operation (rw e at (holds_at m e ne).fits)

  -- ---- whether it has decided, and whether it does
  abbrev Stands : Bool → Type 0
  Stands b = (past t ≡ b) × (decides z s t ≡ false)

  -- at a stage other than 5, 11 and 12, by its number
  stands : (m : ℕ) {b : Bool} → t.stage ≡ m → (eqb m 5 or (eqb m 11 or eqb m 12)) ≡ false → (leb 16 m and leb m 21) ≡ b → Stands b
  stands m {b = b} e u q = (by b q, rw (e, or_left (eqb m 5) (eqb m 11 or eqb m 12) u, or_left (eqb m 11) (eqb m 12) late) refl)
    where
      late : (eqb m 11 or eqb m 12) ≡ false
      late = or_right (eqb m 5) (eqb m 11 or eqb m 12) u

      by : (b : Bool) → (leb 16 m and leb m 21) ≡ b → past t ≡ b
      by true q = rw (e, q) refl
      by false q = rw (e, q, or_right (eqb m 11) (eqb m 12) late) refl

  -- ---- it goes on
  -- at a stage that looks at nothing nothing is shown
  nowhere : (x : Decision) → (looks_in x.task.stage or looks_old x.task.stage) ≡ false → Follows z s n x
  nowhere x q (Gone.chunk i _) = absurd (false≢true (sym (or_left (looks_in x.task.stage) (looks_old x.task.stage) q) ∙ i))
  nowhere x q (Gone.old i _) = absurd (false≢true (sym (or_right (looks_in x.task.stage) (looks_old x.task.stage) q) ∙ i))

  -- it holds the same handle, whose value stays, at a stage that replaces as this one does
  abbrev HoldsOn : Decision → Type 0
  HoldsOn x = (replaces x.task.stage ≡ replaces t.stage) × (x.task.operation ≡ t.operation) × (x.task.old ≡ t.old) × ((stepped z s n x).values ≡ s.values)

  carried : (x : Decision) → HoldsOn x → Carries z s n x
  carried x (same, op, old, values) = answer-like s (stepped z s n x) t x.task op same (ap (λ (l : List ℕ). get_or l x.task.old.0 0) values ∙ ap (λ (h : HandleNo). value s h) old)

  module _ {m : ℕ} {c : ChunkNo} {e : EntryNo} {o h : HandleNo} {p w : ℕ} {wr : Write} {rep : Report} where
    onward : eqb m 0 ≡ false → ending rep ≡ false → Onward t (goes_by t m c e o h p w wr rep)
    onward ne quiet = record { operation = refl; function = λ _. refl; argument = λ _. refl; key = λ _. refl; busy = eqb-false m 0 ne; quiet = quiet }

    -- where it has not decided
    goes : Stands false → past (Stages.goes_to t m c e o h p w) ≡ false → eqb m 0 ≡ false → ending rep ≡ false → Follows z s n (goes_by t m c e o h p w wr rep) → By (goes_by t m c e o h p w wr rep)
    goes st q ne quiet f = Goes.on (onward ne quiet) (q ∙ sym st.0, λ is. absurd (false≢true (sym st.0 ∙ is))) st.1 f

    -- to a stage that looks at nothing
    away : Stands false → past (Stages.goes_to t m c e o h p w) ≡ false → (eqb m 0 or (looks_in m or looks_old m)) ≡ false → ending rep ≡ false → By (goes_by t m c e o h p w wr rep)
    away st q ne quiet = goes st q (or_left (eqb m 0) (looks_in m or looks_old m) ne) quiet (nowhere (goes_by t m c e o h p w wr rep) (or_right (eqb m 0) (looks_in m or looks_old m) ne))

    -- to one past the deciding step
    turning : HoldsOn (goes_by t m c e o h p w wr rep) → past t ≡ false → past (Stages.goes_to t m c e o h p w) ≡ true → decides z s t ≡ true → is_scan t.operation ≡ false → (eqb m 0 or (looks_in m or looks_old m)) ≡ false → ending rep ≡ false → By (goes_by t m c e o h p w wr rep)
    turning hold was is d u ne quiet = Goes.turns (onward (or_left (eqb m 0) (looks_in m or looks_old m) ne) quiet) was (is, carried (goes_by t m c e o h p w wr rep) hold) d u (nowhere (goes_by t m c e o h p w wr rep) (or_right (eqb m 0) (looks_in m or looks_old m) ne))

    -- from one past it to another
    along : HoldsOn (goes_by t m c e o h p w wr rep) → Stands true → past (Stages.goes_to t m c e o h p w) ≡ true → (eqb m 0 or (looks_in m or looks_old m)) ≡ false → ending rep ≡ false → By (goes_by t m c e o h p w wr rep)
    along hold st q ne quiet = Goes.on (onward (or_left (eqb m 0) (looks_in m or looks_old m) ne) quiet) (q ∙ sym st.0, λ _. carried (goes_by t m c e o h p w wr rep) hold) st.1 (nowhere (goes_by t m c e o h p w wr rep) (or_right (eqb m 0) (looks_in m or looks_old m) ne))

    -- with the same handle in hand
    still : Stands false → past (Stages.goes_to t m c e o h p w) ≡ false → (eqb m 0 or looks_in m) ≡ false → ending rep ≡ false → looks_old t.stage ≡ true → o ≡ t.old → (stepped z s n (goes_by t m c e o h p w wr rep)).marks ≡ s.marks → By (goes_by t m c e o h p w wr rep)
    still st q ne quiet was same marks = goes st q (or_left (eqb m 0) (looks_in m) ne) quiet seen
      where
        seen : Follows z s n (goes_by t m c e o h p w wr rep)
        seen (Gone.chunk i _) = absurd (false≢true (sym (or_right (eqb m 0) (looks_in m) ne) ∙ i))
        seen (Gone.old i d) = inl (Gone.old was (λ i. d (ap (λ (l : List ℕ). get_or l o.0 0) marks ∙ ap (λ (h : HandleNo). mark s h) same ∙ i)))

  restarts : Stands false → (why : Report) → ending why ≡ false → By (Stages.restarts t why)
  restarts st why quiet = away st refl refl quiet

  ends-absent : Stands false → Gone z s t → inserts t.operation ≡ false → By (Stages.finishes_absent t)
  ends-absent st g none_in = Goes.answers refl (picked (λ (v : Report). is_answer v ≡ true) (eqb t.operation compute) (λ _. refl) (λ _. refl)) (Ends.absent st.0 st.1 g (absent-answer t.operation t.key t.argument t.function none_in))

  -- ---- 1 and 16
  -- a task's own record put among the others leaves what is shown and what is present
  shown-put : (y : Task) {c : ChunkNo} {k : ℕ} → ShownBy z s c k → ShownBy z (Stages.put_own z s n y) c k
  shown-put y v = record { handle = v.handle; inside = v.inside; named = v.named; undeleted = v.undeleted }

  present-put : (y : Task) {k v : ℕ} → PresentBy z (Stages.put_own z s n y) k v → PresentBy z s k v
  present-put y p = record { handle = p.handle; inside = p.inside; named = p.named; undeleted = p.undeleted; valued = p.valued }

  locates-goes : (t.stage ≡ 1) ⊎ (t.stage ≡ 16) → By (Stages.locates z s t)
  locates-goes (inl e) = rw e (goes (stands 1 e refl refl) refl refl refl found)
    where
      found : Follows z s n (Stages.moves (Stages.goes_to t 2 (locate z s t.key) no_entry t.old no_handle 0 0) write.Nothing)
      found (Gone.chunk q gone) = inr (λ v p. live-absent z lim s r (locate z s t.key) t.key (covers z lim s kept t.key).0 (covers z lim s kept t.key).1 (λ y. gone (shown-put _ y)) v (present-put _ p))
      found (Gone.old q d) = absurd (false≢true q)
  locates-goes (inr e) = rw e (along (rw e refl, refl, refl, refl) (stands 16 e refl refl) refl refl refl)

  -- ---- 2 and 3
  module _ (e : t.stage ≡ 2) where
    H : Holds z t (hold_at 2)
    H = holds_at 2 e (omega arith)

    missed : z.entries ≤ (find z s t.chunk t.key).0 → ShownBy z s t.chunk t.key → ⊥
    missed out v = lacks-key z lim s kept.tables t (kept.tasks n) t.chunk b t.key out v.named.entry (reached-unlinked z lim r t.chunk v.named.entry b v.named.inside (rw v.named.names v.inside)) v.named.keyed
      where
        b : t.chunk.0 < z.chunks
        b = ltb-true _ _ H.chunk

    finds-goes : By (Stages.finds z s t)
    finds-goes =
        picked By (Stages.has_key z s t) (λ _. goes (stands 2 e refl refl) refl refl refl found)
        (λ out. picked By (inserts t.operation) (λ _. away (stands 2 e refl refl) refl refl refl)
        (ends-absent (stands 2 e refl refl) (Gone.chunk (rw e refl) (missed (ltb-false _ _ out)))))
      where
        found : Follows z s n (Stages.moves (Stages.goes_to t 3 t.chunk (find z s t.chunk t.key) no_handle no_handle 0 0) write.Nothing)
        found (Gone.chunk q gone) = inl (Gone.chunk (rw e refl) (λ v. gone (shown-put _ v)))
        found (Gone.old q d) = absurd (false≢true q)

  module _ (e : t.stage ≡ 3) where
    -- the held entry names what its chunk shows
    is-shown : (v : ShownBy z s t.chunk t.key) → (entry z s t.chunk t.entry).handle.0 ≡ v.handle
    is-shown v = entry_named z lim s r t.chunk t.entry v.handle t.key held.inside (held.linked (λ q. omega (arith, e, q))) held.keyed v.inside v.named
      where
        held : EntryHeld z s.chunks s.entries t.chunk t.entry t.key t.stage
        held = (kept.tasks n).entry (ltb-true _ _ (holds_at 3 e (omega arith)).entry)

    reads-goes : By (Stages.reads z s t)
    reads-goes =
        picked By (ltb (entry z s t.chunk t.entry).handle.0 z.handles) (λ _. goes (stands 3 e refl refl) refl refl refl read)
        (λ out. picked By (inserts t.operation) (λ _. away (stands 3 e refl refl) refl refl refl)
        (ends-absent (stands 3 e refl refl) (Gone.chunk (rw e refl) (none (ltb-false _ _ out)))))
      where
        read : Follows z s n (Stages.moves (Stages.goes_to t 4 t.chunk t.entry (entry z s t.chunk t.entry).handle no_handle 0 0) write.Nothing)
        read (Gone.chunk q gone) = absurd (false≢true q)
        read (Gone.old q d) = inl (Gone.chunk (rw e refl) (λ v. d (ap (λ (h : ℕ). get_or s.marks h 0) (is-shown v) ∙ v.undeleted)))

        none : z.handles ≤ (entry z s t.chunk t.entry).handle.0 → ShownBy z s t.chunk t.key → ⊥
        none out v = omega (arith, out, is-shown v, v.inside)

  -- ---- 4 and 5
  module _ (e : t.stage ≡ 4) where
    checks-goes : By (Stages.checks z s t)
    checks-goes =
        let st = stands 4 e refl refl in
        picked By (eqb (mark s t.old) 0)
        (λ d. picked By (eqb t.operation get) (λ g. Goes.answers refl refl (Ends.present st.0 st.1 (rw e refl) (eqb-true _ _ d) (λ m. rw (eqb-true t.operation get g) refl)))
        (λ _. picked By (eqb t.operation put_if_absent) (λ i. Goes.answers refl refl (Ends.present st.0 st.1 (rw e refl) (eqb-true _ _ d) (λ m. rw (eqb-true t.operation put_if_absent i) refl))) (λ _. still st refl refl refl (rw e refl) refl refl)))
        (λ d. picked By (eqb t.operation get) (λ g. ends-absent st (Gone.old (rw e refl) (eqb-false _ _ d)) (rw (eqb-true t.operation get g) refl))
        (λ _. picked (λ m. By (Stages.moves (Stages.keeps t m) write.Nothing)) (inserts t.operation) (λ _. away st refl refl refl) (λ _. still st refl refl refl (rw e refl) refl refl)))

  module _ (e : t.stage ≡ 5) where
    unscanned : is_scan t.operation ≡ false
    unscanned = not-true _ (passes 5 (λ op. not (is_scan op)) refl e (omega arith))

    -- the operations that reach 5 and are neither put nor remove
    answers-five : eqb t.operation remove ≡ false → eqb t.operation put ≡ false → pick (eqb t.operation compute) report.True report.Done ≡ change_answer s t
    answers-five nr np = ⊎_elim (λ q. ⊎_elim (λ i. absurd (false≢true (sym np ∙ i))) (λ i. absurd (false≢true (sym nr ∙ i))) (or_cases _ _ q)) (λ q. ⊎_elim (λ i. rw (eqb-true t.operation upsert i) refl) (λ i. rw (eqb-true t.operation compute i) refl) (or_cases _ _ q)) (or_cases _ _ (passes 5 (λ op. (eqb op put or eqb op remove) or (eqb op upsert or eqb op compute)) refl e (omega arith)))

    applies-goes : By (Stages.applies z s t)
    applies-goes =
        picked By (eqb (mark s t.old) 0)
        (λ d. picked By (eqb t.operation remove) (λ q. turning (rw e refl, refl, refl, refl) early refl (rw (e, d) refl) unscanned refl refl)
        (λ nr. picked By (eqb t.operation put) (λ q. Goes.answers refl refl (Ends.changes early (rw (e, d) refl) unscanned (rw (e, eqb-true t.operation put q) refl))) (λ np. Goes.answers refl (picked (λ (v : Report). is_answer v ≡ true) (eqb t.operation compute) (λ _. refl) (λ _. refl)) (Ends.changes early (rw (e, d) refl) unscanned (answers-five nr np)))))
        (λ d. picked By (inserts t.operation) (λ _. restarts (early, rw (e, d) refl) report.Lost refl) (λ _. still (early, rw (e, d) refl) refl refl refl (rw e refl) refl refl))
      where
        early : past t ≡ false
        early = rw e refl

  -- ---- 6 to 9
  takes-entry-goes : t.stage ≡ 6 → By (Stages.takes_entry z s t)
  takes-entry-goes e =
      let st = stands 6 e refl refl in
      picked By (eqb (chunk s t.chunk).frozen 0) (λ _. picked By (ltb (chunk s t.chunk).used z.entries) (λ _. away st refl refl refl) (λ _. restarts st report.Full refl)) (λ _. restarts st report.Frozen refl)

  links-goes : t.stage ≡ 7 → By (Stages.links z s t)
  links-goes e =
      let st = stands 7 e refl refl in
      picked By (eqb (chunk s t.chunk).frozen 0) (λ _. picked By (Stages.has_other z s t) (λ _. away st refl refl refl) (λ _. away st refl refl refl)) (λ _. restarts st report.Frozen refl)

  takes-handle-goes : t.stage ≡ 8 → By (Stages.takes_handle z s t)
  takes-handle-goes e = let st = stands 8 e refl refl in picked By (ltb (lowest_free z s).0 z.handles) (λ _. away st refl refl refl) (λ _. Goes.refuses refl st.0 st.1 refl)

  -- ---- 10, 13 and 19
  publishes-goes : (t.stage ≡ 10) ⊎ ((t.stage ≡ 13) ⊎ (t.stage ≡ 19)) → By (Stages.publishes z s t)
  publishes-goes (inl e) = let st = stands 10 e refl refl in rw e (picked By (Stages.may_publish z s t) (λ _. away st refl refl refl) (λ _. restarts st report.Frozen refl))
  publishes-goes (inr (inl e)) = let st = stands 13 e refl refl in rw e (picked By (Stages.may_publish z s t) (λ _. still st refl refl refl (rw e refl) refl refl) (λ _. restarts st report.Frozen refl))
  publishes-goes (inr (inr e)) = let st = stands 19 e refl refl in rw e (picked By (Stages.may_publish z s t) (λ _. along (rw e refl, refl, refl, refl) st refl refl refl) (λ _. along (rw e refl, refl, refl, refl) st refl refl refl))

  -- ---- 11, 14 and 20
  swaps-goes : t.stage ≡ 11 → By (Stages.swaps z s t t.new)
  swaps-goes e = rw e (picked By (Stages.still_names z s t) (λ i. turning (rw e refl, refl, refl, refl) early refl (rw (e, i) refl) unscanned refl refl) (λ i. away (early, rw (e, i) refl) (rw not_yet refl) refl refl))
    where
      early : past t ≡ false
      early = rw e refl

      not_yet : t.swapped ≡ 0
      not_yet = eqb-true _ _ (holds_at 11 e (omega arith)).swapped

      unscanned : is_scan t.operation ≡ false
      unscanned = not-true _ (passes 11 (λ op. not (is_scan op)) refl e (omega arith))

  clears-goes : (t.stage ≡ 14) ⊎ (t.stage ≡ 20) → By (Stages.swaps z s t no_handle)
  clears-goes (inl e) = let st = stands 14 e refl refl in rw e (picked By (Stages.still_names z s t) (λ _. still st refl refl refl (rw e refl) refl refl) (λ _. still st refl refl refl (rw e refl) refl refl))
  clears-goes (inr e) = let st = stands 20 e refl refl in rw e (picked By (Stages.still_names z s t) (λ _. along (rw e refl, refl, refl, refl) st refl refl refl) (λ _. along (rw e refl, refl, refl, refl) st refl refl refl))

  -- ---- 12 and 15
  -- an insertion whose swap failed has not decided
  undecided-goes : t.stage ≡ 12 → Stages.swap_failed z s t ≡ true → By (Stages.restarts t report.Lost)
  undecided-goes e i = restarts (rw (e, eqb-true t.swapped 0 i) refl, rw e refl) report.Lost refl

  -- one whose swap succeeded has, and replaced nothing
  abbrev inserted : Report
  inserted = pick (eqb t.operation put) report.Absent (pick (eqb t.operation put_if_absent) report.True report.Done)

  decided-goes : t.stage ≡ 12 → Stages.swap_failed z s t ≡ false → By (Stages.finishes write.Nothing inserted)
  decided-goes e i = Goes.answers refl (picked IsAnswer (eqb t.operation put) (λ _. refl) (λ _. picked IsAnswer (eqb t.operation put_if_absent) (λ _. refl) (λ _. refl))) (Ends.tells (rw (e, swapped (eqb-false _ _ i)) refl) (rw e refl) answer)
    where
      swapped : t.swapped ≢ 0 → t.swapped ≡ 1
      swapped ne = omega (arith, ne, leb-true t.swapped 1 (holds_at 12 e (omega arith)).swapped)

      IsAnswer : Report → Type 0
      IsAnswer v = is_answer v ≡ true

      answer : inserted ≡ change_answer s t
      answer = ⊎_elim (λ i. rw (e, eqb-true t.operation put i) refl) (λ q. ⊎_elim (λ i. rw (eqb-true t.operation put_if_absent i) refl) (λ i. rw (eqb-true t.operation upsert i) refl) (or_cases _ _ q)) (or_cases _ _ (passes 12 (λ op. eqb op put or (eqb op put_if_absent or eqb op upsert)) refl e (omega arith)))

  ends-absent-goes : t.stage ≡ 15 → By (Stages.ends_absent z s t)
  ends-absent-goes e = let st = stands 15 e refl refl in picked By (Stages.swap_failed z s t) (λ _. restarts st report.Lost refl) (λ _. ends-absent st (Gone.old (rw e refl) deleted) no-insertion)
    where
      deleted : mark s t.old ≢ 0
      deleted q = omega (arith, q, (reached-marked z lim r).old-deleted n (λ i. omega (arith, e, i)) (λ i. omega (arith, e, i)) (ltb-true _ _ (holds_at 15 e (omega arith)).old))

      no-insertion : inserts t.operation ≡ false
      no-insertion = ⊎_elim (λ i. rw (eqb-true t.operation compute i) refl) (λ i. rw (eqb-true t.operation remove i) refl) (or_cases _ _ (passes 15 (λ op. eqb op compute or eqb op remove) refl e (omega arith)))

  -- ---- 17, 18 and 21
  -- a remove that has set its mark answers the value that still stands in its handle
  removed : (m : ℕ) → t.stage ≡ m → throughout 9 (λ op. implies (fits_operation op m) (eqb op remove)) ≡ true → m ≢ 0 → Stands true → {v : ℕ} → (t.operation ≡ remove → report.Value v ≡ change_answer s t) → By (Stages.finishes write.Nothing (report.Value v))
  removed m e all ne st right = Goes.answers refl refl (Ends.tells st.0 st.1 (right (eqb-true t.operation remove (passes m (λ op. eqb op remove) all e ne))))

  finds-again-goes : t.stage ≡ 17 → By (Stages.finds_again z s t)
  finds-again-goes e = let st = stands 17 e refl refl in picked By (Stages.has_key z s t) (λ _. along (rw e refl, refl, refl, refl) st refl refl refl) (λ _. removed 17 e refl (omega arith) st (λ op. rw (e, op) refl))

  reads-again-goes : t.stage ≡ 18 → By (Stages.reads_again z s t)
  reads-again-goes e = let st = stands 18 e refl refl in picked By (eqb (entry z s t.chunk t.entry).handle.0 t.old.0) (λ _. along (rw e refl, refl, refl, refl) st refl refl refl) (λ _. removed 18 e refl (omega arith) st (λ op. rw (e, op) refl))

  -- ---- 22
  scans-goes : t.stage ≡ 22 → By (Stages.scans z s t)
  scans-goes e = scan-cases z s n t By (Goes.answers refl refl (Ends.scanned is-scan)) (λ k a. on-from k a _ refl) (λ k a q v. on-from k a _ refl)
    where
      st : Stands false
      st = stands 22 e refl refl

      is-scan : is_scan t.operation ≡ true
      is-scan = passes 22 is_scan refl e (omega arith)

      on-from : (k a : ℕ) (rep : Report) → ending rep ≡ false → By (record { task = Stages.with_ends t k a; write = write.Nothing; report = rep })
      on-from k a rep quiet = Goes.on (record { operation = refl; function = λ _. refl; argument = λ ne. absurd (false≢true (sym ne ∙ is-scan)); key = λ ne. absurd (false≢true (sym ne ∙ is-scan)); busy = λ q. omega (arith, e, q); quiet = quiet }) (refl, λ is. absurd (false≢true (sym st.0 ∙ is))) st.1 (nowhere (record { task = Stages.with_ends t k a; write = write.Nothing; report = rep }) (rw e refl))

  -- ---- 23
  scans-down-goes : t.stage ≡ 23 → By (Stages.scans_down z s t n)
  scans-down-goes e =
      picked By (ltb (Stages.top_of z s t n).0 z.entries)
      (λ _. picked (λ (rep : Report). By (record { task = t; write = write.Nothing; report = rep })) (undeleted z s.marks (entry z s t.chunk (Stages.top_of z s t n)).handle) (λ _. stay _ refl) (λ _. stay _ refl))
      (λ _. picked By (Stages.is_lowest z s t) (λ _. Goes.answers refl refl (Ends.scanned (passes 23 is_scan refl e (omega arith)))) (λ _. away st refl refl refl))
    where
      st : Stands false
      st = stands 23 e refl refl

      stay : (rep : Report) → ending rep ≡ false → By (record { task = t; write = write.Nothing; report = rep })
      stay rep quiet = Goes.on (record { operation = refl; function = λ _. refl; argument = λ _. refl; key = λ _. refl; busy = λ q. omega (arith, e, q); quiet = quiet }) (refl, λ is. absurd (false≢true (sym st.0 ∙ is))) st.1 (nowhere (record { task = t; write = write.Nothing; report = rep }) (rw e refl))

  -- ---- a number that is no stage
  stays-goes : t.stage ≢ 0 → decides z s t ≡ false → By (Stages.stays z s t)
  stays-goes busy u = Goes.on (record { operation = refl; function = λ _. refl; argument = λ _. refl; key = λ _. refl; busy = busy; quiet = refl }) (refl, λ _. refl) u same
    where
      same : Follows z s n (Stages.stays z s t)
      same (Gone.chunk q gone) = inl (Gone.chunk q (λ v. gone (shown-put t v)))
      same (Gone.old q d) = inl (Gone.old q d)

  pub decides-goes : t.stage ≢ 0 → By (Stages.decide z s n t)
  decides-goes busy =
      each-stage z s n t By (record {
        locates = locates-goes;
        finds = finds-goes;
        reads = reads-goes;
        checks = checks-goes;
        applies = applies-goes;
        takes_entry = takes-entry-goes;
        links = links-goes;
        takes_handle = takes-handle-goes;
        writes = λ e. away (stands 9 e refl refl) refl refl refl;
        publishes = publishes-goes;
        swaps = swaps-goes;
        clears = clears-goes;
        ends_insertion = λ e. picked By (Stages.swap_failed z s t) (undecided-goes e) (decided-goes e);
        ends_absent = ends-absent-goes;
        finds_again = finds-again-goes;
        reads_again = reads-again-goes;
        ends_remove = λ e. removed 21 e refl (omega arith) (stands 21 e refl refl) (λ op. rw (e, op) refl);
        scans = scans-goes;
        scans_down = scans-down-goes;
        stays = λ none. stays-goes busy (rw (none 11 refl, none 5 refl) refl);
      })
