-- Laws of a chunk's list: what the walks along it find, and how a write changes it.
use Prim.Native.Nat.{ℕ, zero, suc, ◌+◌, ◌≤◌, ◌<◌}
use mathlib.Core.Path.{◌≡◌, refl, sym, ap, ◌∙◌}
use mathlib.Core.Logic.{◌⊎◌, inl, inr, ⊎_elim, ⊎_map, ◌≢◌}
use mathlib.Core.Bool.{Bool, true}
use mathlib.Core.List.Memᴰ
use mathlib.Core.List.{List, [], ◌∷◌, Memᴰ}
use native.Mathlib.Nat.{le_of_suc-le-suc, not-suc-le-zero, le_trans, le_refl}
use native.Mathlib.Omega.{arith}
use lib.Dec.{eqb, ltb}
use lib.ListN.{length}
use borrow.Author.Tests.{lt-ltb, le-ltb, le-leb, eq-eqb, ne_eqb, ltb-true, ltb-false, eqb-true, eqb-false}
use Rattle.rules.specs.declared.Sizes.{Sizes}
use Rattle.rules.specs.declared.Entry.{Entry}
use Rattle.rules.specs.declared.ChunkNo.{ChunkNo}
use Rattle.rules.specs.declared.EntryNo.{EntryNo}
use Rattle.rules.specs.Words.{pick, NONE, entry_no, no_entry}
use Rattle.rules.specs.Tables.{entry_at}
use Rattle.rules.specs.Walks.{list_from, find_from, place_from}
use Rattle.rules.specs.Shape.{ascends_from, linked_from}
use Rattle.laws.specs.Counts.{Every, Apart}
use Rattle.laws.proofs.Tests.{picked, by-test}
use Rattle.laws.proofs.Lists.{at_most}
use Rattle.views.specs.Views.{Links, put_in, start_of}

module _ (z : Sizes) (es : List Entry) (c : ChunkNo) (used : ℕ) where
  key : EntryNo → ℕ
  key e = (entry_at z es c e).key

  pub links-below : (k : ℕ) (e : EntryNo) (l : List EntryNo) → Links z es c used k e l → Every (λ x. x.0 < used) l
  unfolding Links
  links-below k e [] h = λ x m. absurd (Memᴰ.not-nil m)
  links-below k e (y ∷ l) h = λ x m. ⊎_elim (λ p. rw p h.1) (λ n. links-below ((entry_at z es c y).key + 1) _ l h.3 x n) (Memᴰ.cases_cons m)

  pub links-above : (k : ℕ) (e : EntryNo) (l : List EntryNo) → Links z es c used k e l → Every (λ x. k ≤ (entry_at z es c x).key) l
  unfolding Links
  links-above k e [] h = λ x m. absurd (Memᴰ.not-nil m)
  links-above k e (y ∷ l) h = λ x m. ⊎_elim (λ p. rw p h.2) (λ n. omega (arith, h.2, links-above ((entry_at z es c y).key + 1) _ l h.3 x n)) (Memᴰ.cases_cons m)

  -- keys ascend, so no entry stands twice
  pub links-apart : (k : ℕ) (e : EntryNo) (l : List EntryNo) → Links z es c used k e l → Apart (λ x. x.0) l
  unfolding Links Apart
  links-apart k e [] h = tt
  links-apart k e (y ∷ l) h = (λ x m q. above x m (ap entry_no q), links-apart ((entry_at z es c y).key + 1) _ l h.3)
    where
      above : (x : EntryNo) → Memᴰ x l → y ≡ x → ⊥
      above x m q = omega (arith, links-above _ _ l h.3 x m, ap (λ (e : EntryNo). (entry_at z es c e).key) q)

  pub links-length : (k : ℕ) (e : EntryNo) (l : List EntryNo) → Links z es c used k e l → length l ≤ used
  links-length k e l h = at_most (λ x. x.0) used l (links-below k e l h) (links-apart k e l h)

  module _ (small : used ≤ z.entries) (sized : z.entries ≤ NONE) where
    pub links-view : (fuel k : ℕ) (e : EntryNo) (l : List EntryNo) → length l ≤ fuel → Links z es c used k e l → list_from z es c fuel e ≡ l
    unfolding Links list_from
    links-view zero k e [] b h = refl
    links-view (suc fuel) k e [] b h = rw (le-ltb e.0 z.entries (omega arith))
    links-view zero k e (x ∷ l) b h = absurd (not-suc-le-zero b)
    links-view (suc fuel) k e (x ∷ l) b h = rw (h.0, lt-ltb x.0 z.entries (omega (arith, h.1))) (ap (λ (r : List EntryNo). x ∷ r) (links-view fuel _ _ l (le_of_suc-le-suc b) h.3))

    pub links-ascends : (fuel k : ℕ) (e : EntryNo) (l : List EntryNo) → length l ≤ fuel → Links z es c used k e l → ascends_from z es c used fuel e k ≡ true
    unfolding Links ascends_from
    links-ascends zero k e [] b h = eq-eqb _ _ h
    links-ascends (suc fuel) k e [] b h = rw (eq-eqb e.0 NONE h)
    links-ascends zero k e (x ∷ l) b h = absurd (not-suc-le-zero b)
    links-ascends (suc fuel) k e (x ∷ l) b h =
        rw (h.0, ne_eqb x.0 NONE (λ q. omega (arith, h.1)), lt-ltb x.0 used h.1, le-leb k (entry_at z es c x).key h.2) (links-ascends fuel _ _ l (le_of_suc-le-suc b) h.3)

    pub links-linked : (fuel k : ℕ) (e x : EntryNo) (l : List EntryNo) → length l ≤ fuel → Links z es c used k e l → Memᴰ x l → linked_from z es c fuel e x ≡ true
    unfolding Links linked_from
    links-linked fuel k e x [] b h m = absurd (Memᴰ.not-nil m)
    links-linked zero k e x (y ∷ l) b h m = absurd (not-suc-le-zero b)
    links-linked (suc fuel) k e x (y ∷ l) b h m =
        rw (h.0, lt-ltb y.0 z.entries (omega (arith, h.1)))
        (picked (λ (r : Bool). r ≡ true) (eqb y.0 x.0) (λ _. refl)
        (λ ne. ⊎_elim (λ p. absurd (eqb-false _ _ ne (ap (λ (e : EntryNo). e.0) (sym p)))) (λ n. links-linked fuel _ _ x l (le_of_suc-le-suc b) h.3 n) (Memᴰ.cases_cons m)))

    -- ---- find: a linked entry with the key, or there is none
    pub find-hit : (fuel a : ℕ) (e : EntryNo) (l : List EntryNo) (k : ℕ) → Links z es c used a e l →
        (find_from z es c fuel e k).0 < z.entries → Memᴰ (find_from z es c fuel e k) l × ((entry_at z es c (find_from z es c fuel e k)).key ≡ k)
    unfolding Links find_from
    find-hit zero a e l k h = λ b. absurd (never b)
      where
        never : NONE < z.entries → ⊥
        never b = omega (arith, sized)
    find-hit (suc fuel) a e [] k h = rw (le-ltb e.0 z.entries (omega arith)) (λ b. absurd (never b))
      where
        never : NONE < z.entries → ⊥
        never b = omega (arith, sized)
    find-hit (suc fuel) a e (x ∷ l) k h =
        rw (h.0, lt-ltb x.0 z.entries (omega (arith, h.1)))
        (picked (λ (r : EntryNo). r.0 < z.entries → Memᴰ r (x ∷ l) × ((entry_at z es c r).key ≡ k)) (eqb (entry_at z es c x).key k)
        (λ q b. (Memᴰ.head refl, eqb-true _ _ q))
        (λ q b. let on = find-hit fuel _ _ l k h.3 b in (Memᴰ.tail on.0, on.1)))

    pub find-miss : (fuel a : ℕ) (e : EntryNo) (l : List EntryNo) (k : ℕ) → length l ≤ fuel → Links z es c used a e l →
        z.entries ≤ (find_from z es c fuel e k).0 → Every (λ x. (entry_at z es c x).key ≢ k) l
    unfolding Links find_from
    find-miss fuel a e [] k b h = λ q x m. absurd (Memᴰ.not-nil m)
    find-miss zero a e (x ∷ l) k b h = absurd (not-suc-le-zero b)
    find-miss (suc fuel) a e (x ∷ l) k b h =
        rw (h.0, lt-ltb x.0 z.entries (omega (arith, h.1)))
        (picked (λ (r : EntryNo). z.entries ≤ r.0 → Every (λ x. (entry_at z es c x).key ≢ k) (x ∷ l)) (eqb (entry_at z es c x).key k)
        (λ q o. absurd (outside o))
        (λ q o y m. ⊎_elim (λ (p : y ≡ x) r. eqb-false _ _ q (ap (λ (e : EntryNo). (entry_at z es c e).key) (sym p) ∙ r)) (λ n. find-miss fuel _ _ l k (le_of_suc-le-suc b) h.3 o y n) (Memᴰ.cases_cons m)))
      where
        outside : z.entries ≤ x.0 → ⊥
        outside o = omega (arith, h.1)

    -- ---- place: the last one with a smaller key, or the one before
    pub place_in : (fuel a : ℕ) (before e : EntryNo) (l : List EntryNo) (k : ℕ) → Links z es c used a e l → Memᴰ (place_from z es c fuel before e k) (before ∷ l)
    unfolding Links place_from
    place_in zero a before e l k h = Memᴰ.head refl
    place_in (suc fuel) a before e [] k h = rw (le-ltb e.0 z.entries (omega arith)) (Memᴰ.head refl)
    place_in (suc fuel) a before e (x ∷ l) k h =
        rw (h.0, lt-ltb x.0 z.entries (omega (arith, h.1)))
        (picked (λ (r : EntryNo). Memᴰ r (before ∷ x ∷ l)) (ltb (entry_at z es c x).key k) (λ q. Memᴰ.tail (place_in fuel _ x _ l k h.3)) (λ q. Memᴰ.head refl))

    place_none : (fuel a : ℕ) (before e : EntryNo) (k : ℕ) → Links z es c used a e [] → place_from z es c fuel before e k ≡ before
    unfolding Links place_from
    place_none zero a before e k h = refl
    place_none (suc fuel) a before e k h = rw (le-ltb e.0 z.entries (omega arith))

    place-stop : (fuel a : ℕ) (before e x : EntryNo) (l : List EntryNo) (k : ℕ) → Links z es c used a e (x ∷ l) → k ≤ (entry_at z es c x).key → place_from z es c fuel before e k ≡ before
    unfolding Links place_from
    place-stop zero a before e x l k h b = refl
    place-stop (suc fuel) a before e x l k h b = rw (h.0, lt-ltb x.0 z.entries (omega (arith, h.1)), le-ltb (entry_at z es c x).key k b)

    place-on : (fuel a : ℕ) (before e x : EntryNo) (l : List EntryNo) (k : ℕ) → Links z es c used a e (x ∷ l) → (entry_at z es c x).key < k →
        place_from z es c (suc fuel) before e k ≡ place_from z es c fuel x (entry_at z es c x).next k
    unfolding Links place_from
    place-on fuel a before e x l k h b = rw (h.0, lt-ltb x.0 z.entries (omega (arith, h.1)), lt-ltb (entry_at z es c x).key k b)

    place-past : (fuel a : ℕ) (before e x : EntryNo) (l : List EntryNo) (k : ℕ) → length (x ∷ l) ≤ fuel → Links z es c used a e (x ∷ l) → (entry_at z es c x).key < k →
        Memᴰ (place_from z es c fuel before e k) (x ∷ l)
    unfolding Links
    place-past zero a before e x l k b h t = absurd (not-suc-le-zero b)
    place-past (suc fuel) a before e x l k b h t = rw (place-on fuel a before e x l k h t) (place_in fuel _ x _ l k h.3)

-- ---- what a write leaves
-- the list is as it was where its rows' keys and nexts are
pub links-frame : (z : Sizes) (es es' : List Entry) (c : ChunkNo) (used used' k : ℕ) (e : EntryNo) (l : List EntryNo) → used ≤ used' → Links z es c used k e l →
    Every (λ x. ((entry_at z es' c x).key ≡ (entry_at z es c x).key) × ((entry_at z es' c x).next ≡ (entry_at z es c x).next)) l → Links z es' c used' k e l
unfolding Links
links-frame z es es' c used used' k e [] b h same = h
links-frame z es es' c used used' k e (x ∷ l) b h same =
    let here = same x (Memᴰ.head refl) in
    (h.0, le_trans h.1 b, rw here.0 h.2, rw (here.0, here.1) (links-frame z es es' c used used' ((entry_at z es c x).key + 1) _ l b h.3 (λ y m. same y (Memᴰ.tail m))))

-- an entry put in where its key belongs, by the two rows that change
module _ (z : Sizes) (es es' : List Entry) (c : ChunkNo) (used : ℕ) (small : used ≤ z.entries) (sized : z.entries ≤ NONE)
    (e : EntryNo) (k : ℕ) (within : e.0 < used) (keyed : (entry_at z es' c e).key ≡ k) where
  pub links-put : (fuel lo : ℕ) (prev a before : EntryNo) (l : List EntryNo) → length l ≤ fuel → Links z es c used lo a l → lo ≤ k →
      Every (λ x. (entry_at z es c x).key ≢ k) l →
      Every (λ x. x ≢ prev) l →
      before ≡ place_from z es c fuel prev a k →
      (before ≡ prev → (entry_at z es' c e).next ≡ a) →
      Every (λ x. (entry_at z es' c x).key ≡ (entry_at z es c x).key) l →
      Every (λ x. x ≢ before → (entry_at z es' c x).next ≡ (entry_at z es c x).next) l →
      (Memᴰ before l → ((entry_at z es' c before).next ≡ e) × ((entry_at z es' c e).next ≡ (entry_at z es c before).next)) →
      Links z es' c used lo (start_of z es c e k a l) (put_in z es c e k l)
  unfolding Links put_in start_of Apart
  links-put fuel lo prev a before [] b h lk other new q first keys nexts at =
      (refl, within, rw keyed lk, rw (first (q ∙ place_none z es c used small sized fuel lo prev a k h)) h)
  links-put zero lo prev a before (x ∷ l) b h lk other new q first keys nexts at = absurd (not-suc-le-zero b)
  links-put (suc fuel) lo prev a before (x ∷ l) b h lk other new q first keys nexts at =
      by-test (ltb (entry_at z es c x).key k)
      (λ t. after (ltb-true _ _ t) (λ lk' lone on first'. links-put fuel _ x _ before l (le_of_suc-le-suc b) h.3 lk' (λ y m. other y (Memᴰ.tail m)) lone on first' (λ y m. keys y (Memᴰ.tail m)) (λ y m. nexts y (Memᴰ.tail m)) (λ m. at (Memᴰ.tail m))))
      (λ t. here (ltb-false _ _ t))
    where
      New : Type 0
      New = Links z es' c used lo (pick (ltb (entry_at z es c x).key k) a e) (pick (ltb (entry_at z es c x).key k) (x ∷ put_in z es c e k l) (e ∷ x ∷ l))

      here : k ≤ (entry_at z es c x).key → New
      here t = rw (le-ltb (entry_at z es c x).key k t) (refl, within, rw keyed lk, rw (keyed, first stop) (links-frame z es es' c used used (k + 1) a (x ∷ l) (le_refl used) (h.0, h.1, above, h.3) (λ y m. (keys y m, nexts y m (λ p. new y m (p ∙ stop))))))
        where
          stop : before ≡ prev
          stop = q ∙ place-stop z es c used small sized (suc fuel) lo prev a x l k h t

          above : k + 1 ≤ (entry_at z es c x).key
          above = omega (arith, other x (Memᴰ.head refl))

      after : (entry_at z es c x).key < k →
          ((entry_at z es c x).key + 1 ≤ k → Every (λ y. y ≢ x) l → before ≡ place_from z es c fuel x (entry_at z es c x).next k → (before ≡ x → (entry_at z es' c e).next ≡ (entry_at z es c x).next) →
          Links z es' c used ((entry_at z es c x).key + 1) (start_of z es c e k (entry_at z es c x).next l) (put_in z es c e k l)) → New
      after t rest =
          rw (lt-ltb (entry_at z es c x).key k t) (h.0, h.1, rw same h.2, rw (same, follows l refl) (rest (omega arith) lone on first'))
        where
          same : (entry_at z es' c x).key ≡ (entry_at z es c x).key
          same = keys x (Memᴰ.head refl)

          on : before ≡ place_from z es c fuel x (entry_at z es c x).next k
          on = q ∙ place-on z es c used small sized fuel lo prev a x l k h t

          lone : Every (λ y. y ≢ x) l
          lone y m p = (links-apart z es c used lo a (x ∷ l) h).0 y m (ap (λ (e : EntryNo). e.0) (sym p))

          first' : before ≡ x → (entry_at z es' c e).next ≡ (entry_at z es c x).next
          first' p = (at (Memᴰ.head p)).1 ∙ ap (λ (e : EntryNo). (entry_at z es c e).next) p

          turned : before ≡ x → (entry_at z es' c x).next ≡ e
          turned p = ap (λ (e : EntryNo). (entry_at z es' c e).next) (sym p) ∙ (at (Memᴰ.head p)).0

          past : (y : EntryNo) (r : List EntryNo) → l ≡ y ∷ r → ltb (entry_at z es c y).key k ≡ true → Memᴰ before (y ∷ r)
          past y r p t' = rw on (place-past z es c used small sized fuel ((entry_at z es c x).key + 1) x (entry_at z es c x).next y r k (rw p at (le_of_suc-le-suc b)) (rw p at h.3) (ltb-true (entry_at z es c y).key k t'))

          follows : (r : List EntryNo) → l ≡ r → (entry_at z es' c x).next ≡ start_of z es c e k (entry_at z es c x).next r
          follows [] p = turned (on ∙ place_none z es c used small sized fuel ((entry_at z es c x).key + 1) x (entry_at z es c x).next k (rw p at h.3))
          follows (y ∷ r) p =
              picked (λ (a : EntryNo). (entry_at z es' c x).next ≡ a) (ltb (entry_at z es c y).key k)
              (λ t'. nexts x (Memᴰ.head refl) (λ o. lone x (rw (← p) at (Memᴰ.cast o (past y r p t'))) refl))
              (λ t'. turned (on ∙ place-stop z es c used small sized fuel ((entry_at z es c x).key + 1) x (entry_at z es c x).next y r k (rw p at h.3) (ltb-false (entry_at z es c y).key k t')))

  -- where the place is an entry, the list starts as before; where there is none, the new entry is first
  pub start-kept : (fuel lo : ℕ) (a : EntryNo) (l : List EntryNo) → Links z es c used lo a l → (place_from z es c fuel no_entry a k).0 < z.entries → start_of z es c e k a l ≡ a
  unfolding start_of
  start-kept fuel lo a [] h b = absurd (never (place_none z es c used small sized fuel lo no_entry a k h))
    where
      never : place_from z es c fuel no_entry a k ≡ no_entry → ⊥
      never q = omega (arith, b, sized, ap (λ (e : EntryNo). e.0) q)
  start-kept fuel lo a (x ∷ l) h b = picked (λ (r : EntryNo). r ≡ a) (ltb (entry_at z es c x).key k) (λ t. refl) (λ t. absurd (never (place-stop z es c used small sized fuel lo no_entry a x l k h (ltb-false _ _ t))))
    where
      never : place_from z es c fuel no_entry a k ≡ no_entry → ⊥
      never q = omega (arith, b, sized, ap (λ (e : EntryNo). e.0) q)

  pub start-new : (fuel lo : ℕ) (a : EntryNo) (l : List EntryNo) → length l ≤ fuel → Links z es c used lo a l → z.entries ≤ (place_from z es c fuel no_entry a k).0 → start_of z es c e k a l ≡ e
  unfolding start_of
  start-new fuel lo a [] s h b = refl
  start-new fuel lo a (x ∷ l) s h b = picked (λ (r : EntryNo). r ≡ e) (ltb (entry_at z es c x).key k) (λ t. absurd (never (links-below z es c used lo a (x ∷ l) h _ (place-past z es c used small sized fuel lo no_entry a x l k s h (ltb-true _ _ t))))) (λ t. refl)
    where
      never : (place_from z es c fuel no_entry a k).0 < used → ⊥
      never q = omega (arith, b, small)

-- ---- the members of a list with an entry put in
module _ (z : Sizes) (es : List Entry) (c : ChunkNo) (e : EntryNo) (k : ℕ) where
  pub put-new : (l : List EntryNo) → Memᴰ e (put_in z es c e k l)
  unfolding put_in
  put-new [] = Memᴰ.head refl
  put-new (x ∷ l) = picked (λ (r : List EntryNo). Memᴰ e r) (ltb (entry_at z es c x).key k) (λ _. Memᴰ.tail (put-new l)) (λ _. Memᴰ.head refl)

  pub put-old : (l : List EntryNo) (y : EntryNo) → Memᴰ y l → Memᴰ y (put_in z es c e k l)
  unfolding put_in
  put-old [] y m = absurd (Memᴰ.not-nil m)
  put-old (x ∷ l) y m =
      picked (λ (r : List EntryNo). Memᴰ y r) (ltb (entry_at z es c x).key k)
      (λ _. ⊎_elim (λ p. Memᴰ.head p) (λ n. Memᴰ.tail (put-old l y n)) (Memᴰ.cases_cons m)) (λ _. Memᴰ.tail m)

  pub put-cases : (l : List EntryNo) (y : EntryNo) → Memᴰ y (put_in z es c e k l) → (y ≡ e) ⊎ Memᴰ y l
  unfolding put_in
  put-cases [] y = λ m. inl (Memᴰ.eq_of_singleton m)
  put-cases (x ∷ l) y =
      picked (λ (r : List EntryNo). Memᴰ y r → (y ≡ e) ⊎ Memᴰ y (x ∷ l)) (ltb (entry_at z es c x).key k)
      (λ _ m. ⊎_elim (λ p. inr (Memᴰ.head p)) (λ n. ⊎_map (λ p. p) (λ o. Memᴰ.tail o) (put-cases l y n)) (Memᴰ.cases_cons m)) (λ _ m. Memᴰ.cases_cons m)

-- two linked entries with one key are one
pub links-one : (z : Sizes) (es : List Entry) (c : ChunkNo) (used k : ℕ) (e x y : EntryNo) (l : List EntryNo) → Links z es c used k e l → Memᴰ x l → Memᴰ y l → (entry_at z es c x).key ≡ (entry_at z es c y).key → x ≡ y
unfolding Links
links-one z es c used k e x y [] h m n q = absurd (Memᴰ.not-nil m)
links-one z es c used k e x y (v ∷ l) h m n q = go (Memᴰ.cases_cons m) (Memᴰ.cases_cons n) (λ m' n'. links-one z es c used ((entry_at z es c v).key + 1) _ x y l h.3 m' n' q)
  where
    -- a later one has a larger key
    later : (u w : EntryNo) → u ≡ v → Memᴰ w l → (entry_at z es c u).key ≡ (entry_at z es c w).key → ⊥
    later u w p o r = omega (arith, links-above z es c used _ _ l h.3 w o, r, ap (λ (e : EntryNo). (entry_at z es c e).key) p)

    go : (x ≡ v) ⊎ Memᴰ x l → (y ≡ v) ⊎ Memᴰ y l → (Memᴰ x l → Memᴰ y l → x ≡ y) → x ≡ y
    go (inl a) (inl b) f = a ∙ sym b
    go (inl a) (inr b) f = absurd (later x y a b q)
    go (inr a) (inl b) f = absurd (later y x b a (sym q))
    go (inr a) (inr b) f = f a b
