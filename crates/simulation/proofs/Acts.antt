-- What a step's write may be, by the stage, and whether it decides.
use Prim.Native.Nat.{ℕ, ◌≤◌, ◌<◌}
use mathlib.Core.Path.{◌≡◌, refl, sym, ◌∙◌}
use mathlib.Core.Logic.{◌⊎◌, inl, inr, ⊎_elim, ◌≢◌}
use mathlib.Core.Bool.{Bool, true, false, false≢true}
use mathlib.Core.List.{List}
use native.Mathlib.Omega.{arith}
use lib.Dec.{eqb, ltb}
use borrow.Author.Tests.{ltb-true, eqb-true}
use Rattle.rules.specs.declared.Sizes.{Sizes}
use Rattle.rules.specs.declared.Task.{Task}
use Rattle.rules.specs.declared.Decision.{Decision}
use Rattle.rules.specs.declared.Write.{Write}
use Rattle.rules.specs.declared.Write.TheVariants as write
use Rattle.rules.specs.Words.{pick, ◌or◌, no_handle, put, put_if_absent, upsert, compute, remove}
use Rattle.rules.specs.Tables.{Tables, entry, mark, value}
use Rattle.rules.specs.Walks.{lowest_free}
use Rattle.rules.specs.Stages
use Rattle.rules.specs.Map.{Pair, insert, delete, effect, on_absent, on_present}
use Rattle.laws.proofs.EachStage.{each-stage}
use Rattle.laws.proofs.Tests.{picked, pick-of, pick_same, or_cases}
use Rattle.facts.specs.Facts.{Holds, hold_at, Tasked}
use Rattle.statements.specs.Runs.{decides}
use Rattle.simulation.specs.Beside.{change_answer}
use Rattle.facts.proofs.Numbers.{holding}
use Rattle.facts.proofs.Operations.{fits-test}
use Rattle.handles.specs.Owned.{Row}

-- a write that changes no name and no handle's record
abbrev pub stills : Write → Bool
stills write.Nothing = true
stills (write.Slot c k) = true
stills (write.Link c e before) = true
stills (write.Fresh h) = false
stills (write.Store h v) = false
stills (write.Delete h) = false
stills (write.Name c e h) = false

still-of : (b : Bool) (x y : Decision) → stills (pick b x y).write ≡ pick b (stills x.write) (stills y.write)
still-of = pick-of (λ (x : Decision). stills x.write)

ruleset stilled = (still-of, pick_same)

-- a swap that succeeds: a publisher's entry names its old handle, or none where it holds none
pub record Swaps (z : Sizes) (s : Tables) (t : Task) : Type 0 where
  pub row : Row z t.chunk t.entry
  pub published : t.published ≡ 1
  pub past : (t.stage ≢ 4) × (t.stage ≢ 5) × (t.stage ≢ 7)
  pub names : (entry z s t.chunk t.entry).handle.0 ≡ t.old.0

pub data Acts (z : Sizes) (s : Tables) (t : Task) : Write → Type 0 where
  still : {w : Write} → stills w ≡ true → decides z s t ≡ false → Acts z s t w
  -- 8: the lowest free handle
  takes : (lowest_free z s).0 < z.handles → decides z s t ≡ false → Acts z s t (write.Fresh (lowest_free z s))
  -- 9: the argument to the handle taken
  writes : t.new.0 < z.handles → t.swapped ≡ 0 → decides z s t ≡ false → Acts z s t (write.Store t.new t.argument)
  -- 5: what the operation makes of the old handle's value
  stores : (v : ℕ) → t.old.0 < z.handles → mark s t.old ≡ 0 → ((m : List Pair) → on_present m t.operation t.key t.argument t.function (value s t.old) ≡ effect (change_answer s t) (insert m t.key v)) → decides z s t ≡ true → Acts z s t (write.Store t.old v)
  deletes : t.old.0 < z.handles → mark s t.old ≡ 0 → ((m : List Pair) → on_present m t.operation t.key t.argument t.function (value s t.old) ≡ effect (change_answer s t) (delete m t.key)) → decides z s t ≡ true → Acts z s t (write.Delete t.old)
  -- 11
  names : Swaps z s t → t.new.0 < z.handles → t.swapped ≡ 0 → 10 ≤ t.stage → ((m : List Pair) → on_absent m t.operation t.key t.argument t.function ≡ effect (change_answer s t) (insert m t.key t.argument)) → decides z s t ≡ true → Acts z s t (write.Name t.chunk t.entry t.new)
  -- 14 and 20
  drops : Swaps z s t → decides z s t ≡ false → Acts z s t (write.Name t.chunk t.entry no_handle)

module _ (z : Sizes) (s : Tables) (t : Task) (r : Tasked z s.chunks s.entries t) where
  abbrev By : Decision → Type 0
  By x = Acts z s t x.write

  holds_at : (m : ℕ) → t.stage ≡ m → m ≢ 0 → Holds z t (hold_at m)
  holds_at = holding z s.chunks s.entries t r

  undecided : (m : ℕ) → t.stage ≡ m → eqb m 11 ≡ false → eqb m 5 ≡ false → decides z s t ≡ false
  undecided m e p q = rw (e, p, q) refl

  quiet : (m : ℕ) {w : Write} → t.stage ≡ m → eqb m 11 ≡ false → eqb m 5 ≡ false → stills w ≡ true → Acts z s t w
  quiet m e p q v = Acts.still v (undecided m e p q)

  -- the operations that reach 11 and 5
  at-swap : t.stage ≡ 11 → (m : List Pair) → on_absent m t.operation t.key t.argument t.function ≡ effect (change_answer s t) (insert m t.key t.argument)
  at-swap e m = go (or_cases _ _ (fits-test 11 (λ op. eqb op put or (eqb op put_if_absent or eqb op upsert)) refl t.operation (rw e at (holds_at 11 e (omega arith)).fits)))
    where
      Is : Type 0
      Is = on_absent m t.operation t.key t.argument t.function ≡ effect (change_answer s t) (insert m t.key t.argument)

      go : (eqb t.operation put ≡ true) ⊎ ((eqb t.operation put_if_absent or eqb t.operation upsert) ≡ true) → Is
      go (inl q) = rw (e, eqb-true t.operation put q) refl
      go (inr q) = ⊎_elim (λ (i : eqb t.operation put_if_absent ≡ true). rw (eqb-true t.operation put_if_absent i) refl) (λ (i : eqb t.operation upsert ≡ true). rw (eqb-true t.operation upsert i) refl) (or_cases _ _ q)

  at-apply : t.stage ≡ 5 → eqb t.operation remove ≡ false → eqb t.operation put ≡ false → (m : List Pair) →
      on_present m t.operation t.key t.argument t.function (value s t.old) ≡ effect (change_answer s t) (insert m t.key (Stages.applied t.function t.argument (value s t.old)))
  at-apply e nr np m = go (or_cases _ _ (fits-test 5 (λ op. (eqb op put or eqb op remove) or (eqb op upsert or eqb op compute)) refl t.operation (rw e at (holds_at 5 e (omega arith)).fits)))
    where
      Is : Type 0
      Is = on_present m t.operation t.key t.argument t.function (value s t.old) ≡ effect (change_answer s t) (insert m t.key (Stages.applied t.function t.argument (value s t.old)))

      go : ((eqb t.operation put or eqb t.operation remove) ≡ true) ⊎ ((eqb t.operation upsert or eqb t.operation compute) ≡ true) → Is
      go (inl q) = ⊎_elim (λ i. absurd (false≢true (sym np ∙ i))) (λ i. absurd (false≢true (sym nr ∙ i))) (or_cases _ _ q)
      go (inr q) = ⊎_elim (λ (i : eqb t.operation upsert ≡ true). rw (eqb-true t.operation upsert i) refl) (λ (i : eqb t.operation compute ≡ true). rw (eqb-true t.operation compute i) refl) (or_cases _ _ q)

  applies-act : t.stage ≡ 5 → By (Stages.applies z s t)
  applies-act e =
      let b : t.old.0 < z.handles = ltb-true _ _ (holds_at 5 e (omega arith)).old in
      picked By (eqb (mark s t.old) 0)
      (λ d. picked By (eqb t.operation remove) (λ q. Acts.deletes b (eqb-true _ _ d) (λ m. rw (e, eqb-true t.operation remove q) refl) (rw (e, d) refl))
      (λ nr. picked By (eqb t.operation put) (λ q. Acts.stores t.argument b (eqb-true _ _ d) (λ m. rw (e, eqb-true t.operation put q) refl) (rw (e, d) refl))
      (λ np. Acts.stores (Stages.applied t.function t.argument (value s t.old)) b (eqb-true _ _ d) (at-apply e nr np) (rw (e, d) refl))))
      (λ d. Acts.still (simp stilled) (rw (e, d) refl))

  swaps-by : (m : ℕ) → t.stage ≡ m → (m ≢ 4) × (m ≢ 5) × (m ≢ 7) → Row z t.chunk t.entry → t.published ≡ 1 → (entry z s t.chunk t.entry).handle.0 ≡ t.old.0 → Swaps z s t
  swaps-by m e p w q i = record { row = w; published = q; past = rw e p; names = i }

  swaps-act : t.stage ≡ 11 → By (Stages.swaps z s t t.new)
  swaps-act e =
      let H = holds_at 11 e (omega arith) in
      picked By (Stages.still_names z s t)
      (λ i. Acts.names (swaps-by 11 e (omega arith, omega arith, omega arith) (record { chunk = ltb-true _ _ H.chunk; entry = ltb-true _ _ H.entry }) (eqb-true _ _ H.published) (eqb-true _ _ i)) (ltb-true _ _ H.new) (eqb-true _ _ H.swapped) (rw e (omega arith)) (at-swap e) (rw (e, i) refl))
      (λ i. Acts.still refl (rw (e, i) refl))

  clears-act : (m : ℕ) → t.stage ≡ m → eqb m 11 ≡ false → eqb m 5 ≡ false → (m ≢ 4) × (m ≢ 5) × (m ≢ 7) → Row z t.chunk t.entry → t.published ≡ 1 → By (Stages.swaps z s t no_handle)
  clears-act m e p q ne w pub₁ = picked By (Stages.still_names z s t) (λ i. Acts.drops (swaps-by m e ne w pub₁ (eqb-true _ _ i)) (undecided m e p q)) (λ _. quiet m e p q refl)

  clears-at : (t.stage ≡ 14) ⊎ (t.stage ≡ 20) → By (Stages.swaps z s t no_handle)
  clears-at (inl e) = let H = holds_at 14 e (omega arith) in clears-act 14 e refl refl (omega arith, omega arith, omega arith) (record { chunk = ltb-true _ _ H.chunk; entry = ltb-true _ _ H.entry }) (eqb-true _ _ H.published)
  clears-at (inr e) = let H = holds_at 20 e (omega arith) in clears-act 20 e refl refl (omega arith, omega arith, omega arith) (record { chunk = ltb-true _ _ H.chunk; entry = ltb-true _ _ H.entry }) (eqb-true _ _ H.published)

  pub decides-act : (n : ℕ) → By (Stages.decide z s n t)
  decides-act n =
      each-stage z s n t By (record {
        locates = ⊎_elim (λ e. quiet 1 e refl refl refl) (λ e. quiet 16 e refl refl refl);
        finds = λ e. quiet 2 e refl refl (simp stilled);
        reads = λ e. quiet 3 e refl refl (simp stilled);
        checks = λ e. quiet 4 e refl refl (simp stilled);
        applies = applies-act;
        takes_entry = λ e. quiet 6 e refl refl (simp stilled);
        links = λ e. quiet 7 e refl refl (simp stilled);
        takes_handle = λ e. picked By (ltb (lowest_free z s).0 z.handles) (λ i. Acts.takes (ltb-true _ _ i) (undecided 8 e refl refl)) (λ _. quiet 8 e refl refl refl);
        writes = λ e. let H = holds_at 9 e (omega arith) in Acts.writes (ltb-true _ _ H.new) (eqb-true _ _ H.swapped) (undecided 9 e refl refl);
        publishes = ⊎_elim (λ e. quiet 10 e refl refl (simp stilled)) (⊎_elim (λ e. quiet 13 e refl refl (simp stilled)) (λ e. quiet 19 e refl refl (simp stilled)));
        swaps = swaps-act;
        clears = clears-at;
        ends_insertion = λ e. quiet 12 e refl refl (simp stilled);
        ends_absent = λ e. quiet 15 e refl refl (simp stilled);
        finds_again = λ e. quiet 17 e refl refl (simp stilled);
        reads_again = λ e. quiet 18 e refl refl (simp stilled);
        ends_remove = λ e. quiet 21 e refl refl refl;
        scans = λ e. quiet 22 e refl refl (simp stilled);
        scans_down = λ e. quiet 23 e refl refl (simp stilled);
        stays = λ none. Acts.still refl (rw (none 11 refl, none 5 refl) refl);
      })
