-- No handle is named under two keys, nor by two live entries, in every reached table.
use Prim.Native.Nat.{ℕ, ◌*◌, ◌<◌}
use mathlib.Core.Path.{◌≡◌, refl, sym, ap, ◌∙◌}
use mathlib.Core.List.{Memᴰ}
use native.Mathlib.Nat.{le_trans}
use native.Mathlib.Omega.{arith}
use lib.ListN.{replicate}
use Rattle.rules.specs.declared.Sizes.{Sizes}
use Rattle.rules.specs.declared.ChunkNo.{ChunkNo}
use Rattle.rules.specs.declared.EntryNo.{EntryNo}
use Rattle.rules.specs.Words.{NONE}
use Rattle.rules.specs.Tables.{Tables, idle_task, empty_entry, entry_at, entry, row}
use Rattle.rules.specs.Calls.{fresh}
use Rattle.statements.specs.Sound.{Limited, Live, InUse}
use Rattle.facts.specs.Facts.{Kept}
use Rattle.rules.specs.Walks.{linked}
use Rattle.facts.specs.Reached.{Reached}
use Rattle.facts.proofs.Writes.{inside}
use Rattle.facts.proofs.Covering.{rows-one}
use Rattle.facts.proofs.Fresh.{get_or-all}
use Rattle.facts.proofs.Reaching.{call_by, reached-kept}
use Rattle.handles.specs.Owned.{NamedUnder}
use Rattle.handles.proofs.Owning.{OwnedBy, does-owned}

module _ (z : Sizes) (lim : Limited z) where
  fresh-owned : OwnedBy z (fresh z)
  fresh-owned = record { one_key = λ h j k b x _. absurd (never h b (sym x.names ∙ row-none x.chunk x.entry)); new-own = λ n b _. absurd (never _ b (ap (λ t. t.new.0) (get_or-all z.tasks n idle_task))); old-key = λ n k b _. absurd (never _ b (ap (λ t. t.old.0) (get_or-all z.tasks n idle_task))) }
    where
      never : (h : ℕ) → h < z.handles → h ≡ NONE → ⊥
      never h b e = omega (arith, lim.handles)

      row-none : (c : ChunkNo) (e : EntryNo) → (entry_at z (replicate (z.chunks * z.entries) empty_entry) c e).handle.0 ≡ NONE
      row-none c e = ap (λ x. x.handle.0) (get_or-all (z.chunks * z.entries) (row z c e) empty_entry)

  pub reached-owned : {s : Tables} → Reached z s → OwnedBy z s
  reached-owned Reached.started = fresh-owned
  reached-owned (Reached.called {s = s'} r c) = call_by z s' c (OwnedBy z) (reached-owned r) (does-owned z lim s' (reached-kept z lim r) (reached-owned r) c)

  module _ (s : Tables) (r : Reached z s) where
    kept : Kept z s
    kept = reached-kept z lim r

    named : (c : ChunkNo) (e : EntryNo) → c.0 < z.chunks → e.0 < z.entries → NamedUnder z s.entries (entry z s c e).handle.0 (entry z s c e).key
    named c e b d = record { chunk = c; entry = e; row = record { chunk = b; entry = d }; names = refl; keyed = refl }

    -- rows that name one handle have one key
    one_key : (c d : ChunkNo) (e f : EntryNo) → c.0 < z.chunks → e.0 < z.entries → d.0 < z.chunks → f.0 < z.entries → (entry z s c e).handle.0 < z.handles → (entry z s c e).handle ≡ (entry z s d f).handle → (entry z s c e).key ≡ (entry z s d f).key
    one_key c d e f b i b' i' h q = (reached-owned r).one_key (entry z s c e).handle.0 (entry z s c e).key (entry z s d f).key h (named c e b i) (rw (q) (named d f b' i'))

    pub one-key-each : (c d : ChunkNo) (e f : EntryNo) → InUse z s c e → InUse z s d f → (entry z s c e).handle.0 < z.handles → (entry z s c e).handle ≡ (entry z s d f).handle → (entry z s c e).key ≡ (entry z s d f).key
    one-key-each c d e f x y = one_key c d e f x.numbered (used c e x) y.numbered (used d f y)
      where
        used : (c : ChunkNo) (e : EntryNo) → InUse z s c e → e.0 < z.entries
        used c e x = le_trans x.entry (kept.tables.lists c x.numbered).row.used

    -- live-once: a handle is named by at most one linked entry of the live chunks
    pub live-once : (c d : ChunkNo) (e f : EntryNo) → Live z s c → Live z s d → Memᴰ e (linked z s c) → Memᴰ f (linked z s d) → (entry z s c e).handle.0 < z.handles → (entry z s c e).handle ≡ (entry z s d f).handle → (c ≡ d) × (e ≡ f)
    live-once c d e f lc ld m n h q = rows-one z lim s kept c d e f lc ld m n (one_key c d e f lc.numbered (used c e lc m) ld.numbered (used d f ld n) h q)
      where
        used : (c : ChunkNo) (e : EntryNo) → Live z s c → Memᴰ e (linked z s c) → e.0 < z.entries
        used c e l = inside z lim s.directory s.chunks s.entries kept.tables c l.numbered e
