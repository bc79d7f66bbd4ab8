-- Linking an entry keeps the facts of the tables and of every task.
use Prim.Native.Nat.{ℕ, ◌*◌, ◌≤◌, ◌<◌}
use mathlib.Core.Path.{◌≡◌, refl, sym, ap, ◌∙◌}
use mathlib.Core.Logic.{◌⊎◌, inl, inr, ⊎_elim, ◌≢◌}
use mathlib.Core.List.Memᴰ
use mathlib.Core.List.{List, Memᴰ}
use native.Mathlib.Nat.{le_trans, le_refl}
use native.Mathlib.Omega.{arith}
use lib.ListN.{length, set, length-set}
use Rattle.rules.specs.declared.Sizes.{Sizes}
use Rattle.rules.specs.declared.Directory.{Directory}
use Rattle.rules.specs.declared.Chunk.{Chunk}
use Rattle.rules.specs.declared.Entry.{Entry}
use Rattle.rules.specs.declared.ChunkNo.{ChunkNo}
use Rattle.rules.specs.declared.EntryNo.{EntryNo}
use Rattle.rules.specs.Words.{no_entry, live}
use Rattle.rules.specs.Tables.{chunk_at, entry_at, row}
use Rattle.rules.specs.Walks.{InRange}
use Rattle.rules.specs.Stages.{with_next, with_head}
use Rattle.laws.specs.Counts.{Every}
use Rattle.views.specs.Views.{Links, put_in, start_of}
use Rattle.views.proofs.Rows.{chunk-put, entry-put}
use Rattle.views.proofs.Entries.{links-length, links-view, links-put, start-kept, start-new, place_in, put-new, put-old, put-cases}
use Rattle.statements.specs.Sound.{Limited}
use Rattle.facts.specs.Facts.{RowRight, SlotRight, listed, Tabled, Same, Waits}
use Rattle.facts.proofs.Numbers.{number_in, head-right}
use Rattle.facts.proofs.Sames.{same-all, same-put, Quiet, Grown, tabled-kept, tasked-kept, list-quiet}
use Rattle.facts.proofs.Writes.{Written, below, inside, same-chunk}

module _ (z : Sizes) (lim : Limited z) (d : Directory) (cs : List Chunk) (es : List Entry) (h : Tabled z d cs es)
    (c : ChunkNo) (e before : EntryNo) (k : ℕ) (w : Waits z cs es c e before k) where
  l : List EntryNo
  l = listed z cs es c

  e-in : e.0 < z.entries
  e-in = le_trans w.used (h.lists c w.numbered).row.used

  not-linked : Every (λ x. x ≢ e) l
  unfolding l
  not-linked x m p = w.lacks x m (rw p w.keyed)

  -- the tables with the entry linked: what the two ways of linking have in common
  module _ (cs' : List Chunk) (es' : List Entry) (same : Same cs cs') (frozen : (f : ChunkNo) → (chunk_at cs' f).frozen ≡ (chunk_at cs f).frozen) (len : length es' ≡ length es)
      (used : (f : ChunkNo) → (chunk_at cs' f).used ≡ (chunk_at cs f).used)
      (rows : (f : ChunkNo) → f.0 < z.chunks → RowRight z (chunk_at cs' f))
      (keys : (f : ChunkNo) (x : EntryNo) → x.0 < z.entries → (entry_at z es' f x).key ≡ (entry_at z es f x).key)
      (slots : (f : ChunkNo) → f.0 < z.chunks → (x : EntryNo) → x.0 < z.entries → SlotRight z (chunk_at cs f).used x.0 (entry_at z es' f x))
      (others : (f : ChunkNo) → f ≢ c → ((chunk_at cs' f).head ≡ (chunk_at cs f).head) × ((x : EntryNo) → x.0 < z.entries → (entry_at z es' f x).next ≡ (entry_at z es f x).next))
      (first : before ≡ no_entry → (entry_at z es' c e).next ≡ (chunk_at cs c).head)
      (nexts : (x : EntryNo) → x.0 < z.entries → x ≢ e → x ≢ before → (entry_at z es' c x).next ≡ (entry_at z es c x).next)
      (at : Memᴰ before (listed z cs es c) → ((entry_at z es' c before).next ≡ e) × ((entry_at z es' c e).next ≡ (entry_at z es c before).next))
      (start : (chunk_at cs' c).head ≡ start_of z es c e k (chunk_at cs c).head (listed z cs es c)) where
    put : List EntryNo
    put = put_in z es c e k l

    small : (chunk_at cs c).used ≤ z.entries
    small = (h.lists c w.numbered).row.used

    links : Links z es' c (chunk_at cs' c).used 0 (chunk_at cs' c).head put
    unfolding put l
    links =
        rw (used c, start)
        (links-put z es es' c (chunk_at cs c).used small lim.entries e k w.used (keys c e e-in ∙ w.keyed) z.entries 0 no_entry (chunk_at cs c).head before l
        (le_trans (links-length z es c (chunk_at cs c).used 0 (chunk_at cs c).head l (h.lists c w.numbered).links) small) (h.lists c w.numbered).links (omega arith) w.lacks
        (λ x m p. never x (inside z lim d cs es h c w.numbered x m) p) w.placed first
        (λ x m. keys c x (inside z lim d cs es h c w.numbered x m))
        (λ x m ne. nexts x (inside z lim d cs es h c w.numbered x m) (not-linked x m) ne) at)
      where
        never : (x : EntryNo) → x.0 < z.entries → x ≡ no_entry → ⊥
        never x b p = omega (arith, lim.entries, ap (λ (e : EntryNo). e.0) p)

    seen : listed z cs' es' c ≡ put
    seen = links-view z es' c (chunk_at cs' c).used (rw (used c) small) lim.entries z.entries 0 (chunk_at cs' c).head put (le_trans (links-length z es' c (chunk_at cs' c).used 0 (chunk_at cs' c).head put links) (rw (used c) small)) links

    quiet : (f : ChunkNo) → f.0 < z.chunks → f ≢ c → (listed z cs' es' f ≡ listed z cs es f) × Links z es' f (chunk_at cs' f).used 0 (chunk_at cs' f).head (listed z cs' es' f)
    quiet f b ne =
        list-quiet z lim cs cs' es es' f (h.lists f b) (others f ne).0 (rw (used f) (le_refl _)) (rows f b).used
        (λ x m. (keys f x (inside z lim d cs es h f b x m), (others f ne).1 x (inside z lim d cs es h f b x m)))

    listed-links : (f : ChunkNo) → f.0 < z.chunks → Links z es' f (chunk_at cs' f).used 0 (chunk_at cs' f).head (listed z cs' es' f)
    listed-links f b = ⊎_elim (λ (p : f ≡ c). rw (p, seen) links) (λ ne. (quiet f b ne).1) (same-chunk f c)

    members : (f : ChunkNo) (x : EntryNo) → f.0 < z.chunks → Memᴰ x (listed z cs es f) → Memᴰ x (listed z cs' es' f)
    unfolding put l
    members f x b m = ⊎_elim (λ p. here p) (λ ne. rw (quiet f b ne).0 m) (same-chunk f c)
      where
        here : f ≡ c → Memᴰ x (listed z cs' es' f)
        here p = rw (p, seen) (put-old z es c e k l x (rw p at m))

    link-linked : Memᴰ e (listed z cs' es' c)
    unfolding put
    link-linked = rw seen (put-new z es c e k l)

    link-by : Written z d cs es cs' es'
    unfolding put l
    link-by =
        record {
          tables = tabled-kept z cs cs' same es es' frozen d h len (λ f b. record { row = rows f b; slot = λ x bx. rw (used f) (slots f b x bx); links = listed-links f b }) so;
          tasks = λ t r. tasked-kept z cs cs' same es es' t r (λ f b. rw (used f) (le_refl _)) (λ f x b u. keys f x (le_trans u (h.lists f b).row.used)) members;
          same = same;
          members = members;
        }
      where
        key-is : (entry_at z es' c e).key ≡ k
        key-is = keys c e e-in ∙ w.keyed

        new-key : (chunk_at cs c).status ≡ live → (x : EntryNo) → x ≡ e → InRange z cs c (entry_at z es' c x).key
        new-key p x q = rw q (rw key-is (w.range p))

        grown : (chunk_at cs c).status ≡ live → Every (λ x. InRange z cs c (entry_at z es' c x).key) (listed z cs' es' c)
        grown p x m = ⊎_elim (λ q. new-key p x q) (λ n. rw (keys c x (inside z lim d cs es h c w.numbered x n)) (h.key-in-range c w.numbered p x n)) (put-cases z es c e k l x (rw seen at m))

        so : (f : ChunkNo) → f.0 < z.chunks → Quiet z cs cs' same es es' f ⊎ Grown z cs cs' same es es' f
        so f b = ⊎_elim (λ (p : f ≡ c). inr (rw p (w.not_new, grown))) (λ ne. inl (record { list = (quiet f b ne).0; keys = λ x m. keys f x (inside z lim d cs es h f b x m) })) (same-chunk f c)

  -- ---- after another entry
  module _ (b : before.0 < z.entries) where
    place-linked : Memᴰ before (listed z cs es c)
    place-linked = ⊎_elim (λ p. absurd (never p)) (λ m. m) (Memᴰ.cases_cons (Memᴰ.cast w.placed (place_in z es c (chunk_at cs c).used (h.lists c w.numbered).row.used lim.entries z.entries 0 no_entry (chunk_at cs c).head (listed z cs es c) k (h.lists c w.numbered).links)))
      where
        never : before ≡ no_entry → ⊥
        never p = omega (arith, lim.entries, ap (λ (e : EntryNo). e.0) p)

    e-next : Entry
    e-next = with_next (entry_at z es c e) (entry_at z es c before).next

    before-next : Entry
    before-next = with_next (entry_at z es c before) e

    entries₁ : List Entry
    entries₁ = set es (row z c e) e-next

    entries₂ : List Entry
    entries₂ = set entries₁ (row z c before) before-next

    apart : before ≢ e
    unfolding l
    apart p = not-linked before place-linked p

    sized₁ : length entries₁ ≡ z.chunks * z.entries
    unfolding entries₁
    sized₁ = length-set es (row z c e) e-next ∙ h.entries-sized

    -- a row then: one of the two, or what it was
    row-then : (f : ChunkNo) (x : EntryNo) (P : Entry → Type 0) → x.0 < z.entries →
        (f ≡ c → x ≡ before → P before-next) → (f ≡ c → x ≡ e → P e-next) → ((f ≡ c → x ≡ before → ⊥) → (f ≡ c → x ≡ e → ⊥) → P (entry_at z es f x)) → P (entry_at z entries₂ f x)
    unfolding entries₁ entries₂
    row-then f x P bx p q r =
        entry-put z entries₁ c before before-next f x P sized₁ w.numbered b bx p
        (λ ne. entry-put z es c e e-next f x P h.entries-sized w.numbered e-in bx q (r ne))

    after-key : (f : ChunkNo) (x : EntryNo) → x.0 < z.entries → (entry_at z entries₂ f x).key ≡ (entry_at z es f x).key
    unfolding e-next before-next
    after-key f x bx = row-then f x (λ y. y.key ≡ (entry_at z es f x).key) bx (λ p q. rw (p, q) refl) (λ p q. rw (p, q) refl) (λ _ _. refl)

    after-slot : (f : ChunkNo) → f.0 < z.chunks → (x : EntryNo) → x.0 < z.entries → SlotRight z (chunk_at cs f).used x.0 (entry_at z entries₂ f x)
    unfolding e-next before-next
    after-slot f bf x bx = row-then f x (λ y. SlotRight z (chunk_at cs f).used x.0 y) bx at_before at-e (λ _ _. s)
      where
        s : SlotRight z (chunk_at cs f).used x.0 (entry_at z es f x)
        s = (h.lists f bf).slot x bx

        used-before : before.0 < (chunk_at cs c).used
        used-before = below z lim d cs es h c w.numbered before place-linked

        over : (y : EntryNo) → y.0 < (chunk_at cs c).used → (chunk_at cs c).used ≤ y.0 → ⊥
        over y lt le = omega arith

        at_before : f ≡ c → x ≡ before → SlotRight z (chunk_at cs f).used x.0 (with_next (entry_at z es c before) e)
        at_before p q = rw (p, q) (record { handle = ((h.lists c w.numbered).slot before b).handle; next = λ _. number_in _ _ e-in; empty = λ le. absurd (over before used-before le) })

        at-e : f ≡ c → x ≡ e → SlotRight z (chunk_at cs f).used x.0 (with_next (entry_at z es c e) (entry_at z es c before).next)
        at-e p q = rw (p, q) (record { handle = ((h.lists c w.numbered).slot e e-in).handle; next = λ _. ((h.lists c w.numbered).slot before b).next used-before; empty = λ le. absurd (over e w.used le) })

    after_first : before ≡ no_entry → ⊥
    after_first p = omega (arith, lim.entries, ap (λ (e : EntryNo). e.0) p)

    after_next : (f : ChunkNo) (x : EntryNo) → x.0 < z.entries → (f ≡ c → x ≢ e) → (f ≡ c → x ≢ before) → (entry_at z entries₂ f x).next ≡ (entry_at z es f x).next
    after_next f x bx p q = row-then f x (λ y. y.next ≡ (entry_at z es f x).next) bx (λ r t. absurd (q r t)) (λ r t. absurd (p r t)) (λ _ _. refl)

    after-at : ((entry_at z entries₂ c before).next ≡ e) × ((entry_at z entries₂ c e).next ≡ (entry_at z es c before).next)
    unfolding e-next before-next
    after-at = (
      row-then c before (λ y. y.next ≡ e) b (λ _ _. refl) (λ _ q. absurd (apart q)) (λ ne _. absurd (ne refl refl)),
      row-then c e (λ y. y.next ≡ (entry_at z es c before).next) e-in (λ _ q. absurd (apart (sym q))) (λ _ _. refl) (λ _ ne. absurd (ne refl refl)),
    )

    module _ (f : ChunkNo) where
      after-other : f ≢ c → ((chunk_at cs f).head ≡ (chunk_at cs f).head) × ((x : EntryNo) → x.0 < z.entries → (entry_at z entries₂ f x).next ≡ (entry_at z es f x).next)
      after-other ne = (refl, λ x bx. after_next f x bx (λ p. absurd (ne p)) (λ p. absurd (ne p)))

    after-start : (chunk_at cs c).head ≡ start_of z es c e k (chunk_at cs c).head (listed z cs es c)
    after-start = sym (start-kept z es entries₂ c (chunk_at cs c).used (h.lists c w.numbered).row.used lim.entries e k w.used (after-key c e e-in ∙ w.keyed) z.entries 0 (chunk_at cs c).head (listed z cs es c) (h.lists c w.numbered).links (rw w.placed at b))

    after-sized : length entries₂ ≡ length es
    unfolding entries₁ entries₂
    after-sized = length-set entries₁ (row z c before) before-next ∙ length-set es (row z c e) e-next

    pub after-written : Written z d cs es cs (set (set es (row z c e) (with_next (entry_at z es c e) (entry_at z es c before).next)) (row z c before) (with_next (entry_at z es c before) e))
    unfolding entries₁ entries₂ e-next before-next
    after-written = link-by cs entries₂ (same-all cs) (λ f. refl) after-sized (λ f. refl) (λ f bf. (h.lists f bf).row) after-key after-slot after-other (λ p. absurd (after_first p)) (λ x bx p q. after_next c x bx (λ _. p) (λ _. q)) (λ _. after-at) after-start

    pub after-linked : Memᴰ e (listed z cs (set (set es (row z c e) (with_next (entry_at z es c e) (entry_at z es c before).next)) (row z c before) (with_next (entry_at z es c before) e)) c)
    unfolding entries₁ entries₂ e-next before-next
    after-linked = link-linked cs entries₂ (same-all cs) (λ f. refl) after-sized (λ f. refl) (λ f bf. (h.lists f bf).row) after-key after-slot after-other (λ p. absurd (after_first p)) (λ x bx p q. after_next c x bx (λ _. p) (λ _. q)) (λ _. after-at) after-start

  -- ---- at the head
  module _ (b : z.entries ≤ before.0) where
    many : c.0 < length cs
    many = rw h.chunks-sized w.numbered

    to-head : Entry
    to-head = with_next (entry_at z es c e) (chunk_at cs c).head

    chunks₁ : List Chunk
    chunks₁ = set cs c.0 (with_head (chunk_at cs c) e)

    entries₃ : List Entry
    entries₃ = set es (row z c e) to-head

    head-same : Same cs chunks₁
    unfolding chunks₁
    head-same = same-put cs c (with_head (chunk_at cs c) e) many refl refl refl

    head-frozen : (f : ChunkNo) → (chunk_at chunks₁ f).frozen ≡ (chunk_at cs f).frozen
    unfolding chunks₁
    head-frozen f = chunk-put cs c (with_head (chunk_at cs c) e) f (λ y. y.frozen ≡ (chunk_at cs f).frozen) many (λ p. rw p refl) (λ _. refl)

    head-used : (f : ChunkNo) → (chunk_at chunks₁ f).used ≡ (chunk_at cs f).used
    unfolding chunks₁
    head-used f = chunk-put cs c (with_head (chunk_at cs c) e) f (λ y. y.used ≡ (chunk_at cs f).used) many (λ p. rw p refl) (λ _. refl)

    head-row : (f : ChunkNo) → f.0 < z.chunks → RowRight z (chunk_at chunks₁ f)
    unfolding chunks₁
    head-row f bf = chunk-put cs c (with_head (chunk_at cs c) e) f (RowRight z) many (λ p. record { status = r.status; frozen = r.frozen; next = r.next; used = r.used; empty = λ q. absurd (w.in_use q) }) (λ _. (h.lists f bf).row)
      where
        r : RowRight z (chunk_at cs c)
        r = (h.lists c w.numbered).row

    head-then : (f : ChunkNo) (x : EntryNo) (P : Entry → Type 0) → x.0 < z.entries → (f ≡ c → x ≡ e → P to-head) → ((f ≡ c → x ≡ e → ⊥) → P (entry_at z es f x)) → P (entry_at z entries₃ f x)
    unfolding entries₃
    head-then f x P bx = entry-put z es c e to-head f x P h.entries-sized w.numbered e-in bx

    head-key : (f : ChunkNo) (x : EntryNo) → x.0 < z.entries → (entry_at z entries₃ f x).key ≡ (entry_at z es f x).key
    unfolding to-head
    head-key f x bx = head-then f x (λ y. y.key ≡ (entry_at z es f x).key) bx (λ p q. rw (p, q) refl) (λ _. refl)

    head-slot : (f : ChunkNo) → f.0 < z.chunks → (x : EntryNo) → x.0 < z.entries → SlotRight z (chunk_at cs f).used x.0 (entry_at z entries₃ f x)
    unfolding to-head
    head-slot f bf x bx = head-then f x (λ y. SlotRight z (chunk_at cs f).used x.0 y) bx at-e (λ _. (h.lists f bf).slot x bx)
      where
        over : (chunk_at cs c).used ≤ e.0 → ⊥
        over le = omega (arith, w.used)

        at-e : f ≡ c → x ≡ e → SlotRight z (chunk_at cs f).used x.0 (with_next (entry_at z es c e) (chunk_at cs c).head)
        at-e p q =
            rw (p, q)
            (record { handle = ((h.lists c w.numbered).slot e e-in).handle; next = λ _. head-right z es c (chunk_at cs c).used (h.lists c w.numbered).row.used 0 (chunk_at cs c).head (listed z cs es c) (h.lists c w.numbered).links; empty = λ le. absurd (over le) })

    head-next : (f : ChunkNo) (x : EntryNo) → x.0 < z.entries → (f ≡ c → x ≢ e) → (entry_at z entries₃ f x).next ≡ (entry_at z es f x).next
    head-next f x bx p = head-then f x (λ y. y.next ≡ (entry_at z es f x).next) bx (λ r t. absurd (p r t)) (λ _. refl)

    head_at : (entry_at z entries₃ c e).next ≡ (chunk_at cs c).head
    unfolding to-head
    head_at = head-then c e (λ y. y.next ≡ (chunk_at cs c).head) e-in (λ _ _. refl) (λ ne. absurd (ne refl refl))

    head-other : (f : ChunkNo) → f ≢ c → ((chunk_at chunks₁ f).head ≡ (chunk_at cs f).head) × ((x : EntryNo) → x.0 < z.entries → (entry_at z entries₃ f x).next ≡ (entry_at z es f x).next)
    unfolding chunks₁
    head-other f ne = (chunk-put cs c (with_head (chunk_at cs c) e) f (λ y. y.head ≡ (chunk_at cs f).head) many (λ p. absurd (ne p)) (λ _. refl), λ x bx. head-next f x bx (λ p. absurd (ne p)))

    not_in : Memᴰ before (listed z cs es c) → ⊥
    not_in m = omega (arith, b, inside z lim d cs es h c w.numbered before m)

    head-start : (chunk_at chunks₁ c).head ≡ start_of z es c e k (chunk_at cs c).head (listed z cs es c)
    unfolding chunks₁
    head-start =
        chunk-put cs c (with_head (chunk_at cs c) e) c (λ y. y.head ≡ e) many (λ _. refl) (λ ne. absurd (ne refl))
        ∙ sym (start-new z es entries₃ c (chunk_at cs c).used (h.lists c w.numbered).row.used lim.entries e k w.used (head-key c e e-in ∙ w.keyed) z.entries 0 (chunk_at cs c).head (listed z cs es c)
        (le_trans (links-length z es c (chunk_at cs c).used 0 (chunk_at cs c).head (listed z cs es c) (h.lists c w.numbered).links) (h.lists c w.numbered).row.used) (h.lists c w.numbered).links (rw w.placed at b))

    head-sized : length entries₃ ≡ length es
    unfolding entries₃
    head-sized = length-set es (row z c e) to-head

    pub head-written : Written z d cs es (set cs c.0 (with_head (chunk_at cs c) e)) (set es (row z c e) (with_next (entry_at z es c e) (chunk_at cs c).head))
    unfolding chunks₁ entries₃ to-head
    head-written = link-by chunks₁ entries₃ head-same head-frozen head-sized head-used head-row head-key head-slot head-other (λ _. head_at) (λ x bx p q. head-next c x bx (λ _. p)) (λ m. absurd (not_in m)) head-start

    pub head-linked : Memᴰ e (listed z (set cs c.0 (with_head (chunk_at cs c) e)) (set es (row z c e) (with_next (entry_at z es c e) (chunk_at cs c).head)) c)
    unfolding chunks₁ entries₃ to-head
    head-linked = link-linked chunks₁ entries₃ head-same head-frozen head-sized head-used head-row head-key head-slot head-other (λ _. head_at) (λ x bx p q. head-next c x bx (λ _. p)) (λ m. absurd (not_in m)) head-start
