-- What a change of the entries' table, or of one task's row, leaves of the facts of handles.
use Prim.Native.Nat.{ℕ, ◌*◌, ◌≤◌, ◌<◌}
use mathlib.Core.Path.{◌≡◌, refl, sym, ap, ◌∙◌, subst}
use mathlib.Core.Logic.{◌⊎◌, inl, inr, ⊎_elim, ◌≢◌}
use mathlib.Core.List.{List}
use native.Mathlib.Decide.{ℕ_discrete}
use native.Mathlib.Omega.{arith}
use lib.ListN.{length, set}
use Rattle.rules.specs.declared.Sizes.{Sizes}
use Rattle.rules.specs.declared.Task.{Task}
use Rattle.rules.specs.declared.Entry.{Entry}
use Rattle.rules.specs.declared.ChunkNo.{ChunkNo}
use Rattle.rules.specs.declared.EntryNo.{EntryNo}
use Rattle.rules.specs.declared.HandleNo.{HandleNo}
use Rattle.rules.specs.Words.{NONE}
use Rattle.rules.specs.Tables.{entry_at, row}
use Rattle.rules.specs.Stages.{with_handle}
use Rattle.views.proofs.Rows.{entry-put}
use Rattle.handles.specs.Owned.{Row, NamedUnder, Unnamed, OneKey, NewOwn, OldKey, Owned, Sourced}

module _ (z : Sizes) where
  -- ---- the entries change
  -- what names a handle in the second table does so in the first
  pub sourced-back : (es es' : List Entry) → Sourced z es es' → (n i : ℕ) → n < z.handles → NamedUnder z es' n i → NamedUnder z es n i
  sourced-back es es' from n i b v = subst (λ (m : ℕ). NamedUnder z es m i) v.names (subst (λ (m : ℕ). NamedUnder z es (entry_at z es' v.chunk v.entry).handle.0 m) v.keyed (from v.chunk v.entry v.row (rw v.names b)))

  pub sourced-one-key : (es es' : List Entry) → Sourced z es es' → OneKey z es → OneKey z es'
  sourced-one-key es es' from h n j k b x y = h n j k b (sourced-back es es' from n j b x) (sourced-back es es' from n k b y)

  pub sourced-unnamed : (es es' : List Entry) (h : ℕ) → h < z.handles → Sourced z es es' → Unnamed z es h → Unnamed z es' h
  sourced-unnamed es es' h b from un c e r q = let v = from c e r (rw q b) in un v.chunk v.entry v.row (v.names ∙ q)

  pub sourced-same : (es : List Entry) → Sourced z es es
  sourced-same es c e r b = record { chunk = c; entry = e; row = r; names = refl; keyed = refl }

  -- an entry of the table comes to name a handle that none named
  module _ (es : List Entry) (c : ChunkNo) (e : EntryNo) (h : HandleNo) (len : length es ≡ z.chunks * z.entries) (at : Row z c e) where
    abbrev named : List Entry
    named = set es (row z c e) (with_handle (entry_at z es c e) h)

    name-cases : (d : ChunkNo) (f : EntryNo) (P : Entry → Type 0) → Row z d f → (d ≡ c → f ≡ e → P (with_handle (entry_at z es c e) h)) → ((d ≡ c → f ≡ e → ⊥) → P (entry_at z es d f)) → P (entry_at z named d f)
    name-cases d f P r = entry-put z es c e (with_handle (entry_at z es c e) h) d f P len at.chunk at.entry r.entry

    pub name-none : NONE ≡ h.0 → z.handles ≤ NONE → Sourced z es named
    name-none q lim d f r =
        name-cases d f (λ y. y.handle.0 < z.handles → NamedUnder z es y.handle.0 y.key) r (λ _ _ b. absurd (never b))
        (λ _ b. record { chunk = d; entry = f; row = r; names = refl; keyed = refl })
      where
        never : h.0 < z.handles → ⊥
        never b = omega arith

    pub name_new : Unnamed z es h.0 → OneKey z es → OneKey z named
    name_new un one n j k b x y = both_ways (kind x.chunk x.entry x.row) (kind y.chunk y.entry y.row)
      where
        -- a row of the new table is the one written, or one of the old table
        Kind : ChunkNo → EntryNo → Type 0
        Kind d f = ((d ≡ c) × (f ≡ e)) ⊎ (entry_at z named d f ≡ entry_at z es d f)

        kind : (d : ChunkNo) (f : EntryNo) → Row z d f → Kind d f
        kind d f r = elim (ℕ_discrete d.0 c.0) [ yes p ↦ elim (ℕ_discrete f.0 e.0) [ yes q ↦ inl (ap (λ (m : ℕ). record { 0 = m }) p, ap (λ (m : ℕ). record { 0 = m }) q) | no nq ↦ inr (old (λ _ q. nq (ap (λ (f : EntryNo). f.0) q))) ] | no np ↦ inr (old (λ p _. np (ap (λ (d : ChunkNo). d.0) p))) ]
          where
            old : (d ≡ c → f ≡ e → ⊥) → entry_at z named d f ≡ entry_at z es d f
            old ne = name-cases d f (λ v. v ≡ entry_at z es d f) r (λ p q. absurd (ne p q)) (λ _. refl)

        key-at : {d g : ChunkNo} {f i : EntryNo} → d ≡ g → f ≡ i → (entry_at z named d f).key ≡ (entry_at z named g i).key
        key-at p q = rw (p, q)

        is-new : {i : ℕ} (v : NamedUnder z named n i) → (v.chunk ≡ c) × (v.entry ≡ e) → h.0 ≡ n
        is-new v p = name-cases v.chunk v.entry (λ y. y.handle.0 ≡ n → h.0 ≡ n) v.row (λ _ _ q. q) (λ ne. absurd (ne p.0 p.1)) v.names

        was : {i : ℕ} (v : NamedUnder z named n i) → entry_at z named v.chunk v.entry ≡ entry_at z es v.chunk v.entry → NamedUnder z es n i
        was v p = record { chunk = v.chunk; entry = v.entry; row = v.row; names = sym (ap (λ (y : Entry). y.handle.0) p) ∙ v.names; keyed = sym (ap (λ (y : Entry). y.key) p) ∙ v.keyed }

        both_ways : Kind x.chunk x.entry → Kind y.chunk y.entry → j ≡ k
        both_ways (inl p) (inl q) = sym x.keyed ∙ key-at (p.0 ∙ sym q.0) (p.1 ∙ sym q.1) ∙ y.keyed
        both_ways (inl p) (inr q) = absurd (un y.chunk y.entry y.row (sym (ap (λ (v : Entry). v.handle.0) q) ∙ y.names ∙ sym (is-new x p)))
        both_ways (inr p) (inl q) = absurd (un x.chunk x.entry x.row (sym (ap (λ (v : Entry). v.handle.0) p) ∙ x.names ∙ sym (is-new y q)))
        both_ways (inr p) (inr q) = one n j k b (was x p) (was y q)

    -- what names another handle did so before
    name_back : (n k : ℕ) → n ≢ h.0 → NamedUnder z named n k → NamedUnder z es n k
    name_back n k ne v = name-cases v.chunk v.entry (λ y. y.handle.0 ≡ n → y.key ≡ k → NamedUnder z es n k) v.row (λ _ _ q. absurd (ne (sym q))) (λ _ q w. record { chunk = v.chunk; entry = v.entry; row = v.row; names = q; keyed = w }) v.names v.keyed

    -- another handle stays unnamed
    pub name-unnamed : (n : ℕ) → n ≢ h.0 → Unnamed z es n → Unnamed z named n
    name-unnamed n ne un d f r = name-cases d f (λ y. y.handle.0 ≢ n) r (λ _ _ q. ne (sym q)) (λ _. un d f r)

  -- ---- a task's row changes
  -- what its row holds afterwards: of the old handle, none, the same, or one that an entry names; of the new one, none, the same, or a free one
  pub record Passes (es : List Entry) (tasks : ℕ → Task) (t t' : Task) : Type 0 where
    pub old : (t'.old.0 ≡ NONE) ⊎ (((t'.old.0 ≡ t.old.0) ⊎ NamedUnder z es t'.old.0 t.key) × (t'.key ≡ t.key))
    pub new : (t'.new.0 ≡ NONE) ⊎ (((t'.new.0 ≡ t.new.0) × (t'.swapped ≡ 0 → t.swapped ≡ 0)) ⊎ (Unnamed z es t'.new.0 × ((m : ℕ) → ((tasks m).old.0 ≢ t'.new.0) × ((tasks m).new.0 ≢ t'.new.0)) × (t'.old.0 ≢ t'.new.0)))

  -- the tasks with one row written
  abbrev pub put : (ℕ → Task) → (ℕ → Task) → ℕ → Task → Type 0
  put tasks tasks' n t' = (m : ℕ) → ((m ≡ n) × (tasks' m ≡ t')) ⊎ ((m ≢ n) × (tasks' m ≡ tasks m))

  module _ (lim : z.handles ≤ NONE) (es : List Entry) (tasks tasks' : ℕ → Task) (n : ℕ) (t' : Task) (is : put tasks tasks' n t') (own : Owned z es tasks) (p : Passes es tasks (tasks n) t') where
    not_none : {h : ℕ} → h < z.handles → h ≢ NONE
    not_none b e = omega arith

    -- a handle that no entry names and no task held as its old one is no task's old one
    pub old-not : (h : ℕ) → h < z.handles → Unnamed z es h → ((j : ℕ) → (tasks j).old.0 ≢ h) → (j : ℕ) → (tasks' j).old.0 ≢ h
    old-not h b un o j q = ⊎_elim (λ (e : (j ≡ n) × (tasks' j ≡ t')). at_n (sym (ap (λ (t : Task). t.old.0) e.1) ∙ q) p.old) (λ (e : (j ≢ n) × (tasks' j ≡ tasks j)). o j (sym (ap (λ (t : Task). t.old.0) e.1) ∙ q)) (is j)
      where
        at_n : t'.old.0 ≡ h → (t'.old.0 ≡ NONE) ⊎ (((t'.old.0 ≡ (tasks n).old.0) ⊎ NamedUnder z es t'.old.0 (tasks n).key) × (t'.key ≡ (tasks n).key)) → ⊥
        at_n r (inl e) = not_none b (sym r ∙ e)
        at_n r (inr e) = ⊎_elim (λ (i : t'.old.0 ≡ (tasks n).old.0). o n (sym i ∙ r)) (λ i. un i.chunk i.entry i.row (i.names ∙ r)) e.0

    -- of the task itself: its unswapped new handle was so before, or is the free one taken
    new-here : t'.new.0 < z.handles → t'.swapped ≡ 0 → Unnamed z es t'.new.0 × ((j : ℕ) → (tasks' j).old.0 ≢ t'.new.0) × ((j : ℕ) → j ≢ n → (tasks j).new.0 ≢ t'.new.0)
    new-here b w = go p.new
      where
        Own : Type 0
        Own = Unnamed z es t'.new.0 × ((j : ℕ) → (tasks' j).old.0 ≢ t'.new.0) × ((j : ℕ) → j ≢ n → (tasks j).new.0 ≢ t'.new.0)

        go : (t'.new.0 ≡ NONE) ⊎ (((t'.new.0 ≡ (tasks n).new.0) × (t'.swapped ≡ 0 → (tasks n).swapped ≡ 0)) ⊎ (Unnamed z es t'.new.0 × ((m : ℕ) → ((tasks m).old.0 ≢ t'.new.0) × ((tasks m).new.0 ≢ t'.new.0)) × (t'.old.0 ≢ t'.new.0))) → Own
        go (inl e) = absurd (not_none b e)
        go (inr (inl e)) = (un, old-not t'.new.0 b un (λ j q. o.not-old j (q ∙ e.0)), λ j ne q. o.not_new j ne (q ∙ e.0))
          where
            o : NewOwn z es tasks n
            o = own.new-own n (rw (← e.0) b) (e.1 w)

            un : Unnamed z es t'.new.0
            un = rw e.0 o.unnamed
        go (inr (inr e)) = (e.0, old-not t'.new.0 b e.0 (λ j. (e.1 j).0), λ j _. (e.1 j).1)

    pub new-kept : (m : ℕ) → (tasks' m).new.0 < z.handles → (tasks' m).swapped ≡ 0 → NewOwn z es tasks' m
    new-kept m b w = go (is m)
      where
        go : ((m ≡ n) × (tasks' m ≡ t')) ⊎ ((m ≢ n) × (tasks' m ≡ tasks m)) → NewOwn z es tasks' m
        go (inl e) = record { unnamed = rw e.1 x.0; not-old = rw e.1 x.1; not_new = λ j ne q. other j (λ r. ne (r ∙ sym e.0)) (is j) (q ∙ ap (λ (t : Task). t.new.0) e.1) }
          where
            x : Unnamed z es t'.new.0 × ((j : ℕ) → (tasks' j).old.0 ≢ t'.new.0) × ((j : ℕ) → j ≢ n → (tasks j).new.0 ≢ t'.new.0)
            x = new-here (rw e.1 at b) (rw e.1 at w)

            other : (j : ℕ) → j ≢ n → ((j ≡ n) × (tasks' j ≡ t')) ⊎ ((j ≢ n) × (tasks' j ≡ tasks j)) → (tasks' j).new.0 ≢ t'.new.0
            other j ne (inl r) q = absurd (ne r.0)
            other j ne (inr r) q = x.2 j ne (sym (ap (λ (t : Task). t.new.0) r.1) ∙ q)
        go (inr e) = record { unnamed = rw e.1 o.unnamed; not-old = rw e.1 (old-not (tasks m).new.0 (rw e.1 at b) o.unnamed o.not-old); not_new = λ j ne q. other j ne (is j) (q ∙ ap (λ (t : Task). t.new.0) e.1) }
          where
            o : NewOwn z es tasks m
            o = own.new-own m (rw e.1 at b) (rw e.1 at w)

            taken : t'.new.0 ≡ (tasks m).new.0 → (t'.new.0 ≡ NONE) ⊎ (((t'.new.0 ≡ (tasks n).new.0) × (t'.swapped ≡ 0 → (tasks n).swapped ≡ 0)) ⊎ (Unnamed z es t'.new.0 × ((m : ℕ) → ((tasks m).old.0 ≢ t'.new.0) × ((tasks m).new.0 ≢ t'.new.0)) × (t'.old.0 ≢ t'.new.0))) → ⊥
            taken q (inl r) = not_none (rw e.1 at b) (sym q ∙ r)
            taken q (inr (inl r)) = o.not_new n (λ i. e.0 (sym i)) (sym r.0 ∙ q)
            taken q (inr (inr r)) = (r.1 m).1 (sym q)

            other : (j : ℕ) → j ≢ m → ((j ≡ n) × (tasks' j ≡ t')) ⊎ ((j ≢ n) × (tasks' j ≡ tasks j)) → (tasks' j).new.0 ≢ (tasks m).new.0
            other j ne (inl r) q = taken (sym (ap (λ (t : Task). t.new.0) r.1) ∙ q) p.new
            other j ne (inr r) q = o.not_new j ne (sym (ap (λ (t : Task). t.new.0) r.1) ∙ q)

    key-kept : (m : ℕ) → OldKey z es (tasks' m)
    key-kept m = ⊎_elim (λ (e : (m ≡ n) × (tasks' m ≡ t')). rw e.1 (here p.old)) (λ (e : (m ≢ n) × (tasks' m ≡ tasks m)). rw e.1 (own.old-key m)) (is m)
      where
        here : (t'.old.0 ≡ NONE) ⊎ (((t'.old.0 ≡ (tasks n).old.0) ⊎ NamedUnder z es t'.old.0 (tasks n).key) × (t'.key ≡ (tasks n).key)) → OldKey z es t'
        here (inl e) k b v = absurd (not_none b e)
        here (inr e) k b v = ⊎_elim (λ (i : t'.old.0 ≡ (tasks n).old.0). own.old-key n k (rw (← i) b) (rw (← i) v)) (λ i. own.one_key t'.old.0 k (tasks n).key b v i) e.0 ∙ sym e.1

    pub task-owned : Owned z es tasks'
    task-owned = record { one_key = own.one_key; new-own = new-kept; old-key = key-kept }

  -- ---- the facts after a change of the entries
  pub sourced-owned : (es es' : List Entry) (tasks : ℕ → Task) → Sourced z es es' → Owned z es tasks → Owned z es' tasks
  sourced-owned es es' tasks from own =
      record {
        one_key = sourced-one-key es es' from own.one_key;
        new-own = λ n b w. let o = own.new-own n b w in record { unnamed = sourced-unnamed es es' (tasks n).new.0 b from o.unnamed; not-old = o.not-old; not_new = o.not_new };
        old-key = λ n k b v. own.old-key n k b (sourced-back es es' from (tasks n).old.0 k b v);
      }

  pub named-owned : (es : List Entry) (tasks : ℕ → Task) (c : ChunkNo) (e : EntryNo) (h : HandleNo) (len : length es ≡ z.chunks * z.entries) (at : Row z c e) →
      Unnamed z es h.0 → ((n : ℕ) → (tasks n).swapped ≡ 0 → (tasks n).new.0 ≢ h.0) → ((n : ℕ) → (tasks n).old.0 ≢ h.0) → Owned z es tasks → Owned z (set es (row z c e) (with_handle (entry_at z es c e) h)) tasks
  named-owned es tasks c e h len at un other olds own =
      record {
        one_key = name_new es c e h len at un own.one_key;
        new-own = λ n b w. let o = own.new-own n b w in record { unnamed = name-unnamed es c e h len at (tasks n).new.0 (other n w) o.unnamed; not-old = o.not-old; not_new = o.not_new };
        old-key = λ n k b v. own.old-key n k b (name_back es c e h len at (tasks n).old.0 k (olds n) v);
      }
