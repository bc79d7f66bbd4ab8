-- Live chunks cover all keys, by the facts.
use Prim.Native.Nat.{ℕ, ◌+◌, ◌≤◌, ◌<◌}
use mathlib.Core.Path.{◌≡◌, sym, ap, ◌∙◌}
use mathlib.Core.Logic.{◌↔◌}
use mathlib.Core.List.{List, [], ◌∷◌, Memᴰ}
use lib.ListN.{length}
use Rattle.rules.specs.declared.Sizes.{Sizes}
use Rattle.rules.specs.declared.Entry.{Entry}
use Rattle.rules.specs.declared.ChunkNo.{ChunkNo}
use Rattle.rules.specs.declared.EntryNo.{EntryNo}
use Rattle.rules.specs.Tables.{Tables, chunk, entry, entry_at}
use Rattle.rules.specs.Walks.{locate, linked, InRange, chain}
use Rattle.rules.specs.Map.{Ascends}
use Rattle.views.specs.Views.{Links, Chain, Chained}
use Rattle.views.proofs.Entries.{links-one}
use Rattle.views.proofs.Chunks.{chain-view, chain-live, chain-one}
use Rattle.views.proofs.Chained.{chain-short}
use Rattle.statements.specs.Sound.{Limited, Live}
use Rattle.facts.specs.Facts.{Kept}
use Rattle.facts.proofs.Going.{located}

-- the keys of a list ascend
links-ascend : (z : Sizes) (es : List Entry) (c : ChunkNo) (used k : ℕ) (e : EntryNo) (l : List EntryNo) → Links z es c used k e l → Ascends (λ e. (entry_at z es c e).key) k l
unfolding Links Ascends
links-ascend z es c used k e [] h = tt
links-ascend z es c used k e (x ∷ l) h = (h.2, links-ascend z es c used ((entry_at z es c x).key + 1) _ l h.3)

module _ (z : Sizes) (lim : Limited z) (s : Tables) (kept : Kept z s) where
  c : Chained z s.directory.first s.chunks
  c = kept.tables.chained

  short : length (s.directory.first ∷ c.rest) ≤ z.chunks
  short = chain-short z s.chunks s.directory.first kept.tables.chunks-sized c

  chain-is : chain z s ≡ s.directory.first ∷ c.rest
  chain-is = chain-view z s.chunks lim.chunks z.chunks 0 s.directory.first (s.directory.first ∷ c.rest) short c.chain

  -- the live chunks are a chain, of at most as many as there are
  pub chain-within : length (chain z s) ≤ z.chunks
  chain-within = rw chain-is short

  pub chain-chained : Chain z s.chunks 0 s.directory.first (chain z s)
  chain-chained = rw chain-is c.chain

  in-chain : (f : ChunkNo) → Live z s f → Memᴰ f (s.directory.first ∷ c.rest)
  in-chain f l = c.every f l.numbered l.is_live

  pub covers : (k : ℕ) → Live z s (locate z s k) × InRange z s.chunks (locate z s k) k
  covers k = let at = located z lim s kept.tables k in (record { numbered = at.0; is_live = at.1.0 }, at.1.1)

  pub only : (k : ℕ) (f : ChunkNo) → Live z s f → InRange z s.chunks f k → f ≡ locate z s k
  only k f l r = chain-one z s.chunks lim.chunks 0 k s.directory.first f (locate z s k) (s.directory.first ∷ c.rest) c.chain (in-chain f l) (in-chain (locate z s k) (covers k).0) r (covers k).1

  of-chain : (f : ChunkNo) → Memᴰ f (s.directory.first ∷ c.rest) → Live z s f
  of-chain f m = let at = chain-live z s.chunks 0 s.directory.first (s.directory.first ∷ c.rest) c.chain f m in record { numbered = at.0; is_live = at.1 }

  pub chain-holds : (f : ChunkNo) → Live z s f ↔ Memᴰ f (chain z s)
  chain-holds f = (λ l. rw chain-is (in-chain f l), λ m. of-chain f (rw chain-is at m))

  pub lists-ascend : (f : ChunkNo) → f.0 < z.chunks → Ascends (λ e. (entry z s f e).key) 0 (linked z s f)
  lists-ascend f b = links-ascend z s.entries f (chunk s f).used 0 (chunk s f).head (linked z s f) (kept.tables.lists f b).links

  -- one key lies in one live chunk's range, and is one entry's in its list
  pub rows-one : (f g : ChunkNo) (x y : EntryNo) → Live z s f → Live z s g → Memᴰ x (linked z s f) → Memᴰ y (linked z s g) → (entry z s f x).key ≡ (entry z s g y).key → (f ≡ g) × (x ≡ y)
  rows-one f g x y lf lg m n keys = (chunks, links-one z s.entries f (chunk s f).used 0 (chunk s f).head x y (linked z s f) (kept.tables.lists f lf.numbered).links m (rw chunks n) (keys ∙ ap (λ (g : ChunkNo). (entry z s g y).key) (sym chunks)))
    where
      within : (h : ChunkNo) → Live z s h → (e : EntryNo) → Memᴰ e (linked z s h) → InRange z s.chunks h (entry z s h e).key
      within h l = kept.tables.key-in-range h l.numbered l.is_live

      chunks : f ≡ g
      chunks = only (entry z s f x).key f lf (within f lf x m) ∙ sym (only (entry z s f x).key g lg (rw keys (within g lg y n)))
