-- Each taken handle has a reason: a key present by it, an entry of the old chunk that names it, or a task that holds it.
use Prim.Native.Nat.{ℕ, suc, ◌+◌, ◌*◌, ◌/◌, ◌%◌, ◌≤◌, ◌<◌, suc-le-suc}
use mathlib.Core.Path.{◌≡◌, refl, sym, ap, ◌∙◌, subst}
use mathlib.Core.Logic.{◌⊎◌, inl, inr, ⊎_elim, ⊎_map, ◌≢◌}
use mathlib.Core.Bool.{Bool, true, false, true≢false, false≢true}
use mathlib.Core.List.Memᴰ
use mathlib.Core.List.{List, [], ◌∷◌, ◌++◌, map, Memᴰ}
use mathlib.Core.Option.{Option, some, none-ne-some}
use native.Mathlib.Nat.{zero-lt-suc, mod-lt, div-add-mod', div-lt_iff_lt-mul}
use native.Mathlib.Decide.{ℕ_discrete, dec_lt}
use native.Mathlib.Omega.{arith}
use lib.Dec.{eqb, ltb, leb}
use lib.ListN.{length, get_or, length-append, length-map}
use borrow.Author.Tests.{eqb-true, leb-false, eq-eqb, ltb-true}
use Rattle.rules.specs.declared.Sizes.{Sizes}
use Rattle.rules.specs.declared.Directory.{Directory}
use Rattle.rules.specs.declared.Task.{Task}
use Rattle.rules.specs.declared.Chunk.{Chunk}
use Rattle.rules.specs.declared.Entry.{Entry}
use Rattle.rules.specs.declared.ChunkNo.{ChunkNo}
use Rattle.rules.specs.Words.{pick, ◌or◌, NONE, chunk_no, entry_no, unused, live, new, to_swap, to_index, handle_no}
use Rattle.rules.specs.Tables.{Tables, idle_task, empty_entry, chunk, entry}
use Rattle.rules.specs.Walks.{locate, find, linked, named_in, held_in, free}
use Rattle.rules.specs.Map.{Pair, pair}
use Rattle.map.proofs.Laws.{lookup-member}
use Rattle.laws.proofs.Tests.{picked, by-test, or_cases}
use Rattle.views.proofs.Entries.{find-hit}
use Rattle.statements.specs.Sound.{Limited, Live}
use Rattle.facts.specs.Facts.{ListRight, Kept, Roles}
use Rattle.facts.proofs.Covering.{covers}
use Rattle.handles.specs.Owned.{NamedUnder}
use Rattle.holds.specs.Unlinked.{UnlinkedNone}
use Rattle.simulation.specs.Named.{present_at, NamedIn, PresentBy, CopiedThen, Lively}
use Rattle.simulation.proofs.Deciding.{Sim}
use Rattle.simulation.proofs.Showing.{row_named, shown-at}
use Rattle.removers.specs.Removers.{DeletedHeld}
use Rattle.supply.specs.Counting.{one_of, handle_under, keys_in, Taken}
use Rattle.supply.proofs.Counting.{below, in-below, below_length, at_in}

-- ---- what the walks over rows and tasks have found
named-row : (es : List Entry) (h : ℕ) → named_in es (handle_no h) ≡ true → (i : ℕ) × (i < length es) × ((get_or es i empty_entry).handle.0 ≡ h)
unfolding named_in
named-row [] h e = absurd (false≢true e)
named-row (x ∷ es) h e = ⊎_elim (λ q. (0, zero-lt-suc _, eqb-true _ _ q)) (λ q. let r = named-row es h q in (suc r.0, suc-le-suc r.1, r.2)) (or_cases (eqb x.handle.0 h) (named_in es (handle_no h)) e)

abbrev olds : List Task → List ℕ
olds ts = map (λ t. t.old.0) ts

abbrev news : List Task → List ℕ
news ts = map (λ t. t.new.0) ts

held_in_lem : (ts : List Task) (h : ℕ) → held_in ts (handle_no h) ≡ true → Memᴰ h (olds ts) ⊎ Memᴰ h (news ts)
unfolding held_in
held_in_lem [] h e = absurd (false≢true e)
held_in_lem (t ∷ ts) h e =
    ⊎_elim (λ q. ⊎_map (λ o. Memᴰ.head (sym (eqb-true _ _ o))) (λ o. Memᴰ.head (sym (eqb-true _ _ o))) (or_cases (eqb t.old.0 h) (eqb t.new.0 h) q))
    (λ q. ⊎_map Memᴰ.tail Memᴰ.tail (held_in_lem ts h q)) (or_cases (eqb t.old.0 h or eqb t.new.0 h) (held_in ts (handle_no h)) e)

-- a handle that is not free is named or held
taken-cases : (es : List Entry) (ts : List Task) (h : ℕ) → free es ts (handle_no h) ≡ false → (named_in es (handle_no h) ≡ true) ⊎ (held_in ts (handle_no h) ≡ true)
taken-cases es ts h = by-test (named_in es (handle_no h)) (λ e _. inl e) (λ e. rw e (by-test (held_in ts (handle_no h)) (λ q _. inr q) (λ q. rw q (λ f. absurd (true≢false f)))))

-- ---- keys present by handles of a list
one-of : (hs : List ℕ) (h : ℕ) → Memᴰ h hs → one_of hs h ≡ true
unfolding one_of
one-of [] h m = absurd (Memᴰ.not-nil m)
one-of (x ∷ hs) h m = picked (λ (b : Bool). b ≡ true) (eqb x h) (λ _. refl) (λ e. ⊎_elim (λ (q : h ≡ x). absurd (true≢false (sym (eq-eqb x h (sym q)) ∙ e))) (λ o. one-of hs h o) (Memᴰ.cases_cons m))

keys_in_lem : (z : Sizes) (s : Tables) (hs : List ℕ) (m : List Pair) (x : Pair) → Memᴰ x m → one_of hs (handle_under z s x.key) ≡ true → Memᴰ x (keys_in z s hs m)
unfolding keys_in
keys_in_lem z s hs [] x o e = o
keys_in_lem z s hs (y ∷ m) x o e =
    picked (λ (l : List Pair). Memᴰ x l) (one_of hs (handle_under z s y.key))
    (λ _. ⊎_elim (λ (q : x ≡ y). Memᴰ.head q) (λ p. Memᴰ.tail (keys_in_lem z s hs m x p e)) (Memᴰ.cases_cons o))
    (λ f. ⊎_elim (λ (q : x ≡ y). absurd (true≢false (sym e ∙ ap (λ (w : Pair). one_of hs (handle_under z s w.key)) q ∙ f))) (λ p. keys_in_lem z s hs m x p e) (Memᴰ.cases_cons o))

-- looking shows a value only where it finds an entry
is_found : (z : Sizes) (s : Tables) (k v : ℕ) → present_at z s k ≡ some v → (find z s (locate z s k) k).0 < z.entries
unfolding present_at
is_found z s k v = picked (λ (o : Option ℕ). o ≡ some v → (find z s (locate z s k) k).0 < z.entries) (ltb (find z s (locate z s k) k).0 z.entries) (λ b _. ltb-true _ _ b) (λ _ q. absurd (none-ne-some _ q))

module _ (z : Sizes) (lim : Limited z) (s : Tables) (kept : Kept z s) where
  -- a named handle stands in an entry of some chunk
  named-under : (h : ℕ) → named_in s.entries (handle_no h) ≡ true → (k : ℕ) × NamedUnder z s.entries h k
  named-under h e = at (named-row s.entries h e)
    where
      some : 0 < z.entries
      some = omega (arith, lim.two)

      at : (i : ℕ) × (i < length s.entries) × ((get_or s.entries i empty_entry).handle.0 ≡ h) → (k : ℕ) × NamedUnder z s.entries h k
      at r = (
        (entry z s (chunk_no (r.0 / z.entries)) (entry_no (r.0 % z.entries))).key,
        record {
          chunk = chunk_no (r.0 / z.entries);
          entry = entry_no (r.0 % z.entries);
          row = record { chunk = (div-lt_iff_lt-mul some).1 (rw kept.tables.entries-sized at r.1); entry = mod-lt r.0 some };
          names = rw (div-add-mod' r.0 z.entries) r.2;
          keyed = refl;
        },
      )

  -- the key's handle by looking is the one by which it is present
  under-found : UnlinkedNone z s.chunks s.entries → {k v : ℕ} → (p : PresentBy z s k v) → handle_under z s k ≡ p.handle
  under-found un {k = k} {v = v} p = row_named z lim s kept un p.inside p.named c (find z s c k) here hit.0 hit.1
    where
      c : ChunkNo
      c = locate z s k

      here : Live z s (locate z s k)
      here = (covers z lim s kept k).0

      hit : Memᴰ (find z s (locate z s k) k) (linked z s (locate z s k)) × ((entry z s (locate z s k) (find z s (locate z s k) k)).key ≡ k)
      hit = find-hit z s.entries c (chunk s c).used (kept.tables.lists c here.numbered).row.used lim.entries z.entries 0 (chunk s c).head (linked z s c) k (kept.tables.lists c here.numbered).links (is_found z s k v (shown-at z lim s kept un k v p))

  -- ---- a deleted handle
  -- the handles in the rows of the old chunk
  abbrev pub old_rows : List ℕ
  old_rows = map (λ n. (entry z s s.directory.old (entry_no n)).handle.0) (below z.entries)

  in-old-rows : (h k : ℕ) → NamedIn z s.entries s.directory.old h k → Memᴰ h old_rows
  in-old-rows h k v = Memᴰ.cast (sym v.names) (Memᴰ.map (λ (n : ℕ). (entry z s s.directory.old (entry_no n)).handle.0) (in-below z.entries v.entry.0 v.inside))

  -- chunks of one number name the same
  moved : (h k : ℕ) (c d : ChunkNo) → d.0 ≡ c.0 → NamedIn z s.entries c h k → NamedIn z s.entries d h k
  moved h k c d q = subst (λ (n : ℕ). NamedIn z s.entries (chunk_no n) h k) (sym q)

  -- a chunk that names a handle is not unused
  unused-none : (h k : ℕ) → h < z.handles → (c : ChunkNo) → c.0 < z.chunks → NamedIn z s.entries c h k → (chunk s c).status ≢ unused
  unused-none h k i c b v e = omega (arith, lim.handles, i, v.names, ap (λ (x : Entry). x.handle.0) empty)
    where
      row : ListRight z s.chunks s.entries c
      row = kept.tables.lists c b

      empty : entry z s c v.entry ≡ empty_entry
      empty = (row.slot v.entry v.inside).empty (omega (arith, ap (λ (x : Chunk). x.used) (row.row.empty e)))

  module _ (copied : CopiedThen z s.directory s.entries) (h k : ℕ) (i : h < z.handles) where
    abbrev Old : Type 0
    Old = NamedIn z s.entries s.directory.old h k

    abbrev d : Directory
    d = s.directory

    -- a new chunk is live after swap in, and names what the old one names before
    new-one : (c : ChunkNo) → (chunk s c).status ≡ pick (leb to_index s.directory.stage) live new → to_swap ≤ s.directory.stage → (s.directory.stage ≡ to_swap → Old) → ((chunk s c).status ≡ live) ⊎ Old
    new-one c is from copy = by-test (leb to_index s.directory.stage) (λ e. inl (rw e at is)) (λ e. inr (copy (at-swap (leb-false _ _ e))))
      where
        at-swap : s.directory.stage < to_index → s.directory.stage ≡ to_swap
        at-swap b = omega (arith, from)

    -- a chunk that names a handle is live, or the old one names it
    live-or-old : (c : ChunkNo) → c.0 < z.chunks → NamedIn z s.entries c h k → ((chunk s c).status ≡ live) ⊎ Old
    live-or-old c b v =
        elim (ℕ_discrete d.old.0 c.0) [
          | yes q ↦ inr (moved h k c d.old q v)
          | no not-old ↦ elim (ℕ_discrete d.new.0 c.0) [
            | yes q ↦ new-one c (roles.new not-old (inl q)).1 (made (λ u. below_none (sym q ∙ u.0))) (λ e. (copied e).first h k i (moved h k c d.new q v))
            | no not_new ↦ elim (ℕ_discrete d.second.0 c.0) [
              | yes q ↦ new-one c (roles.new not-old (inr q)).1 (made (λ u. below_none (sym q ∙ u.1))) (λ e. (copied e).second h k i (rw q b) (moved h k c d.second q v))
              | no not-second ↦ inl (⊎_elim (λ e. absurd (unused-none h k i c b v e)) (λ e. e) (roles.other not-old not_new not-second).1)
            ]
          ]
        ]
      where
        roles : Roles s.directory c.0 (chunk s c)
        roles = kept.tables.rebalancing.roles c b

        below_none : c.0 ≡ NONE → ⊥
        below_none e = omega (arith, lim.chunks, b)

        made : ((s.directory.new.0 ≡ NONE) × (s.directory.second.0 ≡ NONE) → ⊥) → to_swap ≤ s.directory.stage
        made lacks = elim (dec_lt s.directory.stage to_swap) [ yes lt ↦ absurd (lacks (kept.tables.rebalancing.unmade (omega arith))) | no ge ↦ omega arith ]

  -- ---- every reason in one list
  module _ (m : List Pair) (hs : List ℕ) where
    abbrev presents : List ℕ
    presents = map (λ x. handle_under z s x.key) (keys_in z s hs m)

    abbrev pub reasons : List ℕ
    reasons = presents ++ (old_rows ++ (olds s.tasks ++ news s.tasks))

    by_key : (h : ℕ) → Memᴰ h presents → Memᴰ h reasons
    by_key h o = Memᴰ.append_left _ o

    by_row : (h : ℕ) → Memᴰ h old_rows → Memᴰ h reasons
    by_row h o = Memᴰ.append_right presents (Memᴰ.append_left _ o)

    by_old : (h : ℕ) → Memᴰ h (olds s.tasks) → Memᴰ h reasons
    by_old h o = Memᴰ.append_right presents (Memᴰ.append_right old_rows (Memᴰ.append_left _ o))

    by-new : (h : ℕ) → Memᴰ h (news s.tasks) → Memᴰ h reasons
    by-new h o = Memᴰ.append_right presents (Memᴰ.append_right old_rows (Memᴰ.append_right (olds s.tasks) o))

    module _ (un : UnlinkedNone z s.chunks s.entries) (copied : CopiedThen z s.directory s.entries) (lively : Lively z s) (sim : Sim z s m) (deleted-held : DeletedHeld z s) where
      undeleted-reason : (h k : ℕ) → h < z.handles → Memᴰ h hs → get_or s.marks h 0 ≡ 0 → NamedUnder z s.entries h k → Memᴰ h presents
      undeleted-reason h k i o q v = Memᴰ.cast (sym is) (Memᴰ.map (λ (x : Pair). handle_under z s x.key) (keys_in_lem z s hs m (pair k (get_or s.values h 0)) (lookup-member m k _ ((sim k _).1 by)) (rw is (one-of hs h o))))
        where
          by : PresentBy z s k (get_or s.values h 0)
          by = record { handle = h; inside = i; named = lively.undeleted-live h k i q v; undeleted = q; valued = refl }

          is : handle_under z s k ≡ h
          is = under-found un by

      deleted-reason : (h k : ℕ) → h < z.handles → get_or s.marks h 0 ≡ 1 → NamedUnder z s.entries h k → Memᴰ h old_rows ⊎ Memᴰ h (olds s.tasks)
      deleted-reason h k i q v = ⊎_elim (λ l. inr (held l)) (λ w. inl (in-old-rows h k w)) (live-or-old copied h k i v.chunk v.row.chunk here)
        where
          here : NamedIn z s.entries v.chunk h k
          here = record { entry = v.entry; inside = v.row.entry; names = v.names; keyed = v.keyed }

          held : (chunk s v.chunk).status ≡ live → Memᴰ h (olds s.tasks)
          held l = let r = deleted-held h i q (k, record { chunk = v.chunk; numbered = v.row.chunk; is_live = l; named = here }) in Memᴰ.cast (sym r.1.holds) (at_in (λ (t : Task). t.old.0) s.tasks r.0 idle_task (rw kept.tasks-sized r.1.numbered))

      pub reason : (h : ℕ) → Memᴰ h hs → Taken z s h → Memᴰ h reasons
      reason h o t = ⊎_elim (λ e. let v = named-under h e in named v.0 v.1) (λ e. ⊎_elim (by_old h) (by-new h) (held_in_lem s.tasks h e)) (taken-cases s.entries s.tasks h t.not_free)
        where
          named : (k : ℕ) → NamedUnder z s.entries h k → Memᴰ h reasons
          named k v =
              elim (ℕ_discrete (get_or s.marks h 0) 0) [
                | yes q ↦ by_key h (undeleted-reason h k t.inside o q v)
                | no ne ↦ ⊎_elim (by_row h) (by_old h) (deleted-reason h k t.inside (omega (arith, kept.marks h)) v)
              ]

    pub reasons-length : length reasons ≡ length (keys_in z s hs m) + z.entries + 2 * z.tasks
    reasons-length = omega (arith, length-append presents (old_rows ++ (olds s.tasks ++ news s.tasks)), length-append old_rows (olds s.tasks ++ news s.tasks), length-append (olds s.tasks) (news s.tasks), length-map (keys_in z s hs m) (λ (x : Pair). handle_under z s x.key), length-map (below z.entries) (λ (n : ℕ). (entry z s s.directory.old (entry_no n)).handle.0), below_length z.entries, length-map s.tasks (λ (t : Task). t.old.0), length-map s.tasks (λ (t : Task). t.new.0), kept.tasks-sized)
