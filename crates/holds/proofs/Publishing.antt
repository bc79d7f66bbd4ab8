-- Each stage of a task: who publishes, and that a named entry is linked.
use Prim.Native.Nat.{ℕ, ◌<◌}
use mathlib.Core.Path.{◌≡◌, refl, sym, ◌∙◌}
use mathlib.Core.Bool.{Bool}
use mathlib.Core.Logic.{◌⊎◌, inl, inr, ◌≢◌}
use mathlib.Core.List.{Memᴰ}
use native.Mathlib.Omega.{arith}
use borrow.Author.Tests.{ltb-true, eqb-true, eqb-false}
use Rattle.rules.specs.declared.Sizes.{Sizes}
use Rattle.rules.specs.declared.Task.{Task}
use Rattle.rules.specs.declared.HandleNo.{HandleNo}
use Rattle.rules.specs.declared.Decision.{Decision}
use Rattle.rules.specs.declared.Write.{Write}
use Rattle.rules.specs.declared.Write.TheVariants as write
use Rattle.rules.specs.Words.{pick, no_handle}
use Rattle.rules.specs.Tables.{Tables, chunk}
use Rattle.rules.specs.Walks.{linked}
use Rattle.rules.specs.Stages
use Rattle.laws.proofs.EachStage.{each-stage, scan-cases}
use Rattle.laws.proofs.Tests.{picked}
use Rattle.facts.specs.Facts.{Holds, hold_at, Tasked}
use Rattle.facts.proofs.Numbers.{holding}

-- a naming write is of a linked entry
abbrev pub NamesLinked : Sizes → Tables → Write → Type 0
NamesLinked z s write.Nothing = Unit {0}
NamesLinked z s (write.Slot c k) = Unit {0}
NamesLinked z s (write.Link c e before) = Unit {0}
NamesLinked z s (write.Fresh h) = Unit {0}
NamesLinked z s (write.Store h v) = Unit {0}
NamesLinked z s (write.Delete h) = Unit {0}
NamesLinked z s (write.Name c e h) = Memᴰ e (linked z s c)

module _ (z : Sizes) (s : Tables) (t : Task) (r : Tasked z s.chunks s.entries t) where
  -- a publisher was one on that chunk, or found it not frozen
  pub record Publishes (x : Decision) : Type 0 where
    pub publishes : x.task.published ≡ 1 → (x.task.chunk ≡ t.chunk) × ((t.published ≡ 1) ⊎ (((chunk s t.chunk).frozen ≡ 0) × (t.chunk.0 < z.chunks)))
    pub names : NamesLinked z s x.write

  holds_at : (m : ℕ) → t.stage ≡ m → m ≢ 0 → Holds z t (hold_at m)
  holds_at = holding z s.chunks s.entries t r

  quiet : {x : Decision} → x.task.published ≡ 0 → NamesLinked z s x.write → Publishes x
  quiet e w = record { publishes = λ q. absurd (eqb-false 0 1 refl (sym e ∙ q)); names = w }

  still : {x : Decision} → x.task.published ≡ t.published → x.task.chunk ≡ t.chunk → NamesLinked z s x.write → Publishes x
  still e c w = record { publishes = λ q. (c, inl (sym e ∙ q)); names = w }

  -- of the picked one as of both
  either : (b : Bool) {x y : Decision} → Publishes x → Publishes y → Publishes (pick b x y)
  either b p q = picked Publishes b (λ _. p) (λ _. q)

  ruleset publishing = (either, quiet, still)

  publishes-so : t.chunk.0 < z.chunks → Publishes (Stages.publishes z s t)
  publishes-so b =
      picked Publishes (Stages.may_publish z s t) (λ f. record { publishes = λ _. (refl, inr (eqb-true _ _ f, b)); names = tt })
      (λ _. search publishing)

  chunk_in : (t.stage ≡ 10) ⊎ ((t.stage ≡ 13) ⊎ (t.stage ≡ 19)) → t.chunk.0 < z.chunks
  chunk_in (inl e) = ltb-true _ _ (holds_at 10 e (omega arith)).chunk
  chunk_in (inr (inl e)) = ltb-true _ _ (holds_at 13 e (omega arith)).chunk
  chunk_in (inr (inr e)) = ltb-true _ _ (holds_at 19 e (omega arith)).chunk

  swaps-so : (h : HandleNo) → t.published ≡ 1 → t.entry.0 < z.entries → t.stage ≢ 7 → Publishes (Stages.swaps z s t h)
  swaps-so h p b ne =
      picked Publishes (Stages.still_names z s t)
      (λ _. record { publishes = λ _. (refl, inl p); names = (r.entry b).linked ne }) (λ _. still refl refl tt)

  swaps-at : (t.stage ≡ 11) ⊎ ((t.stage ≡ 14) ⊎ (t.stage ≡ 20)) → (h : HandleNo) → Publishes (Stages.swaps z s t h)
  swaps-at (inl e) h = let H = holds_at 11 e (omega arith) in swaps-so h (eqb-true _ _ H.published) (ltb-true _ _ H.entry) (rw e (omega arith))
  swaps-at (inr (inl e)) h = let H = holds_at 14 e (omega arith) in swaps-so h (eqb-true _ _ H.published) (ltb-true _ _ H.entry) (rw e (omega arith))
  swaps-at (inr (inr e)) h = let H = holds_at 20 e (omega arith) in swaps-so h (eqb-true _ _ H.published) (ltb-true _ _ H.entry) (rw e (omega arith))

  pub decides-publish : (n : ℕ) → Publishes (Stages.decide z s n t)
  decides-publish n =
      each-stage z s n t Publishes (record {
        locates = search publishing;
        finds = search publishing;
        reads = search publishing;
        checks = search publishing;
        applies = search publishing;
        takes_entry = search publishing;
        links = search publishing;
        takes_handle = search publishing;
        writes = search publishing;
        publishes = λ e. publishes-so (chunk_in e);
        swaps = λ e. swaps-at (inl e) t.new;
        clears = λ e. swaps-at (inr e) no_handle;
        ends_insertion = search publishing;
        ends_absent = search publishing;
        finds_again = search publishing;
        reads_again = search publishing;
        ends_remove = search publishing;
        scans = λ e. scan-cases z s n t Publishes (search publishing) (search publishing) (search publishing);
        scans_down = search publishing;
        stays = search publishing;
      })
