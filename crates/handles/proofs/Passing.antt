-- Each stage of a task: what its row holds afterwards, and what its write names.
use Prim.Native.Nat.{ℕ, ◌<◌}
use mathlib.Core.Path.{◌≡◌, refl}
use mathlib.Core.Bool.{Bool}
use mathlib.Core.Logic.{◌⊎◌, inl, inr, ◌≢◌}
use native.Mathlib.Omega.{arith}
use lib.Dec.{ltb}
use borrow.Author.Tests.{ltb-true, eqb-true}
use Rattle.rules.specs.declared.Sizes.{Sizes}
use Rattle.rules.specs.declared.Task.{Task}
use Rattle.rules.specs.declared.Decision.{Decision}
use Rattle.rules.specs.declared.Write.{Write}
use Rattle.rules.specs.declared.Write.TheVariants as write
use Rattle.rules.specs.Words.{pick, NONE, no_handle}
use Rattle.rules.specs.Tables.{Tables, entry, task}
use Rattle.rules.specs.Walks.{lowest_free}
use Rattle.rules.specs.Stages
use Rattle.laws.proofs.EachStage.{each-stage, scan-cases}
use Rattle.laws.proofs.Tests.{picked}
use Rattle.statements.specs.Sound.{Limited}
use Rattle.facts.specs.Facts.{Tabled, Holds, hold_at, Tasked}
use Rattle.facts.proofs.Numbers.{holding}
use Rattle.handles.specs.Owned.{Row}
use Rattle.handles.proofs.Naming.{Passes}
use Rattle.handles.proofs.Free.{free-unnamed, free-unheld}

-- a naming write: of none, or of the task's new handle, which is then swapped in
abbrev pub NamesRight : Sizes → Task → Task → Write → Type 0
NamesRight z t t' write.Nothing = Unit {0}
NamesRight z t t' (write.Slot c k) = Unit {0}
NamesRight z t t' (write.Link c e before) = Unit {0}
NamesRight z t t' (write.Fresh h) = Unit {0}
NamesRight z t t' (write.Store h v) = Unit {0}
NamesRight z t t' (write.Delete h) = Unit {0}
NamesRight z t t' (write.Name c e h) = Row z c e × ((NONE ≡ h.0) ⊎ ((h.0 ≡ t.new.0) × (t.new.0 < z.handles) × (t.swapped ≡ 0) × (t'.swapped ≡ 1)))

module _ (z : Sizes) (lim : Limited z) (s : Tables) (h : Tabled z s.directory s.chunks s.entries) (n : ℕ) (r : Tasked z s.chunks s.entries (task s n)) where
  abbrev t : Task
  t = task s n

  pub record Passed (x : Decision) : Type 0 where
    pub passes : Passes z s.entries (task s) t x.task
    pub names : NamesRight z t x.task x.write

  holds_at : (m : ℕ) → t.stage ≡ m → m ≢ 0 → Holds z t (hold_at m)
  holds_at = holding z s.chunks s.entries t r

  -- nothing is held; the old one is held on; both are
  dropped : {x : Decision} → x.task.old.0 ≡ NONE → x.task.new.0 ≡ NONE → NamesRight z t x.task x.write → Passed x
  dropped o e w = record { passes = record { old = inl o; new = inl e }; names = w }

  held_on : {x : Decision} → x.task.key ≡ t.key → x.task.old.0 ≡ t.old.0 → x.task.new.0 ≡ NONE → NamesRight z t x.task x.write → Passed x
  held_on k o e w = record { passes = record { old = inr (inl o, k); new = inl e }; names = w }

  both-on : {x : Decision} → x.task.key ≡ t.key → x.task.old.0 ≡ t.old.0 → x.task.new.0 ≡ t.new.0 → (x.task.swapped ≡ 0 → t.swapped ≡ 0) → NamesRight z t x.task x.write → Passed x
  both-on k o e sw w = record { passes = record { old = inr (inl o, k); new = inr (inl (e, sw)) }; names = w }

  -- of the picked one as of both
  either : (b : Bool) {x y : Decision} → Passed x → Passed y → Passed (pick b x y)
  either b p q = picked Passed b (λ _. p) (λ _. q)

  ruleset passing = (either, dropped, held_on, both-on)

  reads-pass : t.stage ≡ 3 → Passed (Stages.reads z s t)
  reads-pass e =
      let H = holds_at 3 e (omega arith) in
      picked Passed (ltb (entry z s t.chunk t.entry).handle.0 z.handles)
      (λ _. record { passes = record { old = inr (inr (record { chunk = t.chunk; entry = t.entry; row = record { chunk = ltb-true _ _ H.chunk; entry = ltb-true _ _ H.entry }; names = refl; keyed = (r.entry (ltb-true _ _ H.entry)).keyed }), refl); new = inl refl }; names = tt })
      (λ _. search passing)

  takes-pass : Passed (Stages.takes_handle z s t)
  takes-pass =
      picked Passed (ltb (lowest_free z s).0 z.handles)
      (λ i. record { passes = record { old = inr (inl refl, refl); new = inr (inr (free-unnamed z lim.handles s h.entries-sized (ltb-true _ _ i), free-unheld z lim.handles s h.entries-sized (ltb-true _ _ i), (free-unheld z lim.handles s h.entries-sized (ltb-true _ _ i) n).0)) }; names = tt })
      (λ _. dropped refl refl tt)

  publishes-pass : t.swapped ≡ 0 → Passed (Stages.publishes z s t)
  publishes-pass w = search passing

  unswapped : (t.stage ≡ 10) ⊎ ((t.stage ≡ 13) ⊎ (t.stage ≡ 19)) → t.swapped ≡ 0
  unswapped (inl e) = eqb-true _ _ (holds_at 10 e (omega arith)).swapped
  unswapped (inr (inl e)) = eqb-true _ _ (holds_at 13 e (omega arith)).swapped
  unswapped (inr (inr e)) = eqb-true _ _ (holds_at 19 e (omega arith)).swapped

  swaps-pass : t.stage ≡ 11 → Passed (Stages.swaps z s t t.new)
  swaps-pass e =
      let H = holds_at 11 e (omega arith) in
      rw e (picked Passed (Stages.still_names z s t)
      (λ _. both-on refl refl refl (λ q. omega arith) (record { chunk = ltb-true _ _ H.chunk; entry = ltb-true _ _ H.entry }, inr (refl, ltb-true _ _ H.new, eqb-true _ _ H.swapped, refl)))
      (λ _. both-on refl refl refl (λ q. q) tt))

  clears-pass : (t.stage ≡ 14) ⊎ (t.stage ≡ 20) → Passed (Stages.swaps z s t no_handle)
  clears-pass (inl e) =
      let H = holds_at 14 e (omega arith) in
      picked Passed (Stages.still_names z s t)
      (λ _. both-on refl refl refl (λ _. eqb-true _ _ H.swapped) (record { chunk = ltb-true _ _ H.chunk; entry = ltb-true _ _ H.entry }, inl refl)) (λ _. both-on refl refl refl (λ q. q) tt)
  clears-pass (inr e) =
      let H = holds_at 20 e (omega arith) in
      picked Passed (Stages.still_names z s t)
      (λ _. both-on refl refl refl (λ _. eqb-true _ _ H.swapped) (record { chunk = ltb-true _ _ H.chunk; entry = ltb-true _ _ H.entry }, inl refl)) (λ _. both-on refl refl refl (λ q. q) tt)

  pub decides-pass : Passed (Stages.decide z s n t)
  decides-pass =
      each-stage z s n t Passed (record {
        locates = search passing;
        finds = search passing;
        reads = reads-pass;
        checks = search passing;
        applies = search passing;
        takes_entry = search passing;
        links = search passing;
        takes_handle = λ _. takes-pass;
        writes = search passing;
        publishes = λ e. publishes-pass (unswapped e);
        swaps = swaps-pass;
        clears = clears-pass;
        ends_insertion = search passing;
        ends_absent = search passing;
        finds_again = search passing;
        reads_again = search passing;
        ends_remove = search passing;
        scans = λ e. let H = holds_at 22 e (omega arith) in scan-cases z s n t Passed (search passing) (λ _ _. search (passing, eqb-true t.old.0 NONE H.old, eqb-true t.new.0 NONE H.new)) (λ _ _ _ _. search (passing, eqb-true t.old.0 NONE H.old, eqb-true t.new.0 NONE H.new));
        scans_down = λ e. let H = holds_at 23 e (omega arith) in search (passing, eqb-true t.old.0 NONE H.old, eqb-true t.new.0 NONE H.new);
        stays = search passing;
      })
