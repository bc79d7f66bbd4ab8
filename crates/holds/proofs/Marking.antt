-- Each stage of a task: what the records of the handles that it holds say afterwards.
use Prim.Native.Nat.{ℕ, ◌+◌, ◌≤◌, ◌<◌}
use mathlib.Core.Path.{◌≡◌, refl, ◌∙◌}
use mathlib.Core.Logic.{◌⊎◌, inl, inr, ⊎_elim, ◌≢◌}
use mathlib.Core.Bool.{Bool, true, false}
use mathlib.Core.List.{List}
use native.Mathlib.Omega.{arith}
use lib.Dec.{eqb, ltb}
use lib.ListN.{get_or}
use lib.Seq.{get_or-set_same, get_or-set_other}
use borrow.Author.Tests.{ltb-true, eqb-true, eqb-false}
use Rattle.rules.specs.declared.Sizes.{Sizes}
use Rattle.rules.specs.declared.EntryNo.{EntryNo}
use Rattle.rules.specs.declared.Task.{Task}
use Rattle.rules.specs.declared.HandleNo.{HandleNo}
use Rattle.rules.specs.declared.Decision.{Decision}
use Rattle.rules.specs.declared.Write.{Write}
use Rattle.rules.specs.declared.Write.TheVariants as write
use Rattle.rules.specs.Words.{pick, NONE, no_handle, get, put, put_if_absent, remove, inserts}
use Rattle.rules.specs.Tables.{Tables, with_own, entry, mark, task}
use Rattle.rules.specs.Walks.{find, lowest_free}
use Rattle.rules.specs.Stages
use Rattle.laws.proofs.EachStage.{each-stage, scan-cases}
use Rattle.laws.proofs.Tests.{picked}
use Rattle.statements.specs.Sound.{Limited}
use Rattle.facts.specs.Facts.{Holds, hold_at, Kept}
use Rattle.facts.proofs.Numbers.{holding}
use Rattle.handles.proofs.Free.{free-unheld}
use Rattle.holds.specs.Marked.{OldDeleted, NewWritten, Marked}

module _ (z : Sizes) (lim : Limited z) (s : Tables) (kept : Kept z s) (marked : Marked z s) (n : ℕ) where
  abbrev t : Task
  t = task s n

  -- whose record a write changes: a free handle's, or that of one that the task holds
  abbrev pub Touches : Write → Type 0
  Touches write.Nothing = Unit {0}
  Touches (write.Slot c k) = Unit {0}
  Touches (write.Link c e before) = Unit {0}
  Touches (write.Fresh h) = (m : ℕ) → ((task s m).old.0 ≢ h.0) × ((task s m).new.0 ≢ h.0)
  Touches (write.Store h v) = (h.0 ≡ t.old.0) ⊎ (h.0 ≡ t.new.0)
  Touches (write.Delete h) = h.0 ≡ t.old.0
  Touches (write.Name c e h) = Unit {0}

  pub record Marks (x : Decision) : Type 0 where
    pub old : (ts : List Task) (ss : List (List EntryNo)) → OldDeleted z (Stages.apply z (with_own s ts ss) x.write).marks x.task
    pub new : (ts : List Task) (ss : List (List EntryNo)) → NewWritten z (Stages.apply z (with_own s ts ss) x.write).marks (Stages.apply z (with_own s ts ss) x.write).values x.task
    pub touches : Touches x.write

  holds_at : (m : ℕ) → t.stage ≡ m → m ≢ 0 → Holds z t (hold_at m)
  holds_at = holding z s.chunks s.entries t (kept.tasks n)

  never : {h : ℕ} → h ≡ NONE → h < z.handles → ⊥
  never e b = omega (arith, lim.handles)

  -- nothing is held
  gone : {x : Decision} → x.task.old.0 ≡ NONE → x.task.new.0 ≡ NONE → Touches x.write → Marks x
  gone o e w = record { old = λ ts ss _ _ b. absurd (never o b); new = λ ts ss b. absurd (never e b); touches = w }

  -- of the picked one as of both
  either : (b : Bool) {x y : Decision} → Marks x → Marks y → Marks (pick b x y)
  either b p q = picked Marks b (λ _. p) (λ _. q)

  ruleset leaving = (either, gone)

  -- the old one is held on from another stage than 4 and 5, and the new one, with what its record said
  old-on : (m : ℕ) → t.stage ≡ m → m ≢ 4 → m ≢ 5 → (t' : Task) → t'.old.0 ≡ t.old.0 → OldDeleted z s.marks t'
  old-on m e x y t' o _ _ b = rw o (marked.old-deleted n (rw e x) (rw e y) (rw (← o) b))

  new-on : (t' : Task) → t'.new.0 ≡ t.new.0 → (t'.swapped ≡ 0 → t.swapped ≡ 0) → (10 ≤ t'.stage → 10 ≤ t.stage) → t'.argument ≡ t.argument → NewWritten z s.marks s.values t'
  new-on t' e sw st a b w = rw (e, a) (let o = marked.new-written n (rw (← e) b) (sw w) in (o.0, λ le. o.1 (st le)))

  none-new : (t' : Task) → t'.new.0 ≡ NONE → NewWritten z s.marks s.values t'
  none-new t' e b = absurd (never e b)

  keeps_on : (m k : ℕ) → t.stage ≡ m → m ≢ 4 → m ≢ 5 → (10 ≤ k → 10 ≤ m) → Marks (Stages.moves (Stages.keeps t k) write.Nothing)
  keeps_on m k e x y st = record { old = λ ts ss. old-on m e x y (Stages.keeps t k) refl; new = λ ts ss. new-on (Stages.keeps t k) refl (λ q. q) (λ le. rw e (st le)) refl; touches = tt }

  -- a mark that is not 0 is 1
  is_one : (h : ℕ) → eqb (get_or s.marks h 0) 0 ≡ false → get_or s.marks h 0 ≡ 1
  is_one h e = omega (arith, kept.marks h, eqb-false (get_or s.marks h 0) 0 e)

  keeps-deleted : (m k : ℕ) → t.stage ≡ m → m ≢ 0 → (hold_at m).new ≡ 0 → eqb (mark s t.old) 0 ≡ false → Marks (Stages.moves (Stages.keeps t k) write.Nothing)
  keeps-deleted m k e ne none d = record { old = λ ts ss _ _ _. is_one t.old.0 d; new = λ ts ss. none-new (Stages.keeps t k) (eqb-true _ _ (rw none at (holds_at m e ne).new)); touches = tt }

  locates-marks : (t.stage ≡ 1) ⊎ (t.stage ≡ 16) → Marks (Stages.locates z s t)
  locates-marks (inl e) = record { old = λ ts ss. old-on 1 e (omega arith) (omega arith) (Stages.locates z s t).task refl; new = λ ts ss. none-new (Stages.locates z s t).task refl; touches = tt }
  locates-marks (inr e) = record { old = λ ts ss. old-on 16 e (omega arith) (omega arith) (Stages.locates z s t).task refl; new = λ ts ss. none-new (Stages.locates z s t).task refl; touches = tt }

  applies-marks : t.stage ≡ 5 → Marks (Stages.applies z s t)
  applies-marks e =
      let H = holds_at 5 e (omega arith) in
      picked Marks (eqb (mark s t.old) 0)
      (λ _. picked Marks (eqb t.operation remove)
      (λ _. record { old = λ ts ss _ _ b. get_or-set_same s.marks t.old.0 1 0 (rw kept.marks-sized b); new = λ ts ss b. absurd (never refl b); touches = refl })
      (λ _. picked Marks (eqb t.operation put) (λ _. gone refl refl (inl refl)) (λ _. gone refl refl (inl refl))))
      (λ d. picked Marks (inserts t.operation) (λ _. gone refl refl tt) (λ _. keeps-deleted 5 13 e (omega arith) refl d))

  takes-marks : t.stage ≡ 8 → Marks (Stages.takes_handle z s t)
  takes-marks e =
      picked Marks (ltb (lowest_free z s).0 z.handles)
      (λ i. record {
        old = λ ts ss x y b. get_or-set_other s.marks (lowest_free z s).0 t.old.0 0 0 (apart i n).0 ∙ old-on 8 e (omega arith) (omega arith) (Stages.goes_to t 9 t.chunk t.entry t.old (lowest_free z s) 0 0) refl x y b;
        new = λ ts ss b w. (get_or-set_same s.marks (lowest_free z s).0 0 0 (rw kept.marks-sized b), λ le. omega arith);
        touches = apart i;
      })
      (λ _. gone refl refl tt)
    where
      apart : ltb (lowest_free z s).0 z.handles ≡ true → (m : ℕ) → ((task s m).old.0 ≢ (lowest_free z s).0) × ((task s m).new.0 ≢ (lowest_free z s).0)
      apart i = free-unheld z lim.handles s kept.tables.entries-sized (ltb-true _ _ i)

  writes-marks : t.stage ≡ 9 → Marks (Stages.writes z s t)
  writes-marks e =
      record {
        old = λ ts ss. old-on 9 e (omega arith) (omega arith) (Stages.keeps t 10) refl;
        new = λ ts ss b w. ((marked.new-written n b w).0, λ _. get_or-set_same s.values t.new.0 t.argument 0 (rw kept.values-sized b));
        touches = inr refl;
      }

  publishes-marks : (m : ℕ) → t.stage ≡ m → 10 ≤ m → (hold_at m).swapped ≡ 0 → Marks (Stages.publishes z s t)
  publishes-marks m e le sw =
      picked Marks (Stages.may_publish z s t)
      (λ _. record { old = λ ts ss. old-on m e (omega arith) (omega arith) (Stages.goes_to t (t.stage + 1) t.chunk t.entry t.old t.new 1 0) refl; new = λ ts ss. new-on (Stages.goes_to t (t.stage + 1) t.chunk t.entry t.old t.new 1 0) refl (λ _. eqb-true _ _ (rw sw at (holds_at m e (omega arith)).swapped)) (λ _. rw e le) refl; touches = tt })
      (λ _. picked Marks (eqb t.stage 19) (λ _. record { old = λ ts ss. old-on m e (omega arith) (omega arith) (Stages.goes_to t 16 (record { 0 = NONE }) (record { 0 = NONE }) t.old no_handle 0 0) refl; new = λ ts ss. none-new (Stages.goes_to t 16 (record { 0 = NONE }) (record { 0 = NONE }) t.old no_handle 0 0) refl; touches = tt }) (λ _. gone refl refl tt))

  swaps-marks : (m : ℕ) (h : HandleNo) → t.stage ≡ m → 10 ≤ m → (hold_at m).swapped ≡ 0 → Marks (Stages.swaps z s t h)
  swaps-marks m h e le sw =
      picked Marks (Stages.still_names z s t)
      (λ _. record { old = λ ts ss. old-on m e (omega arith) (omega arith) t' refl; new = λ ts ss. new-on t' refl (λ _. eqb-true _ _ (rw sw at (holds_at m e (omega arith)).swapped)) (λ _. rw e le) refl; touches = tt })
      (λ _. record { old = λ ts ss. old-on m e (omega arith) (omega arith) (Stages.keeps t (t.stage + 1)) refl; new = λ ts ss. new-on (Stages.keeps t (t.stage + 1)) refl (λ q. q) (λ _. rw e le) refl; touches = tt })
    where
      t' : Task
      t' = Stages.goes_to t (t.stage + 1) t.chunk t.entry t.old t.new 1 (pick (eqb t.stage 20) 0 1)

  -- ---- every stage
  pub decides-marks : Marks (Stages.decide z s n t)
  decides-marks =
      each-stage z s n t Marks (record {
        locates = locates-marks;
        finds = λ e. picked Marks (Stages.has_key z s t) (λ _. gone refl refl tt) (λ _. picked Marks (inserts t.operation) (λ _. keeps_on 2 6 e (omega arith) (omega arith) (omega arith)) (λ _. gone refl refl tt));
        reads = λ e. picked Marks (ltb (entry z s t.chunk t.entry).handle.0 z.handles) (λ _. record { old = λ ts ss x. absurd (x refl); new = λ ts ss b. absurd (never refl b); touches = tt }) (λ _. picked Marks (inserts t.operation) (λ _. keeps_on 3 8 e (omega arith) (omega arith) (omega arith)) (λ _. gone refl refl tt));
        checks = λ e. picked Marks (eqb (mark s t.old) 0) (λ _. picked Marks (eqb t.operation get) (λ _. gone refl refl tt) (λ _. picked Marks (eqb t.operation put_if_absent) (λ _. gone refl refl tt) (λ _. record { old = λ ts ss _ y. absurd (y refl); new = λ ts ss. none-new (Stages.keeps t 5) (eqb-true _ _ (holds_at 4 e (omega arith)).new); touches = tt }))) (λ d. picked Marks (eqb t.operation get) (λ _. gone refl refl tt) (λ _. keeps-deleted 4 (pick (inserts t.operation) 8 13) e (omega arith) refl d));
        applies = applies-marks;
        takes_entry = search leaving;
        links = λ e. let H = holds_at 7 e (omega arith) in search (leaving, eqb-true t.old.0 NONE H.old, eqb-true t.new.0 NONE H.new);
        takes_handle = takes-marks;
        writes = writes-marks;
        publishes = ⊎_elim (λ o. publishes-marks 10 o (omega arith) refl) (⊎_elim (λ v. publishes-marks 13 v (omega arith) refl) (λ v. publishes-marks 19 v (omega arith) refl));
        swaps = λ e. swaps-marks 11 t.new e (omega arith) refl;
        clears = ⊎_elim (λ o. swaps-marks 14 no_handle o (omega arith) refl) (λ o. swaps-marks 20 no_handle o (omega arith) refl);
        ends_insertion = search leaving;
        ends_absent = search leaving;
        finds_again = λ e. picked Marks (Stages.has_key z s t) (λ _. record { old = λ ts ss. old-on 17 e (omega arith) (omega arith) (Stages.goes_to t 18 t.chunk (find z s t.chunk t.key) t.old no_handle 0 0) refl; new = λ ts ss b. absurd (never refl b); touches = tt }) (λ _. gone refl refl tt);
        reads_again = λ e. picked Marks (eqb (entry z s t.chunk t.entry).handle.0 t.old.0) (λ _. keeps_on 18 19 e (omega arith) (omega arith) (omega arith)) (λ _. gone refl refl tt);
        ends_remove = search leaving;
        scans = λ e. let H = holds_at 22 e (omega arith) in scan-cases z s n t Marks (search leaving) (λ _ _. search (leaving, eqb-true t.old.0 NONE H.old, eqb-true t.new.0 NONE H.new)) (λ _ _ _ _. search (leaving, eqb-true t.old.0 NONE H.old, eqb-true t.new.0 NONE H.new));
        scans_down = λ e. let H = holds_at 23 e (omega arith) in search (leaving, eqb-true t.old.0 NONE H.old, eqb-true t.new.0 NONE H.new);
        stays = λ _. record { old = λ ts ss. marked.old-deleted n; new = λ ts ss. marked.new-written n; touches = tt };
      })
