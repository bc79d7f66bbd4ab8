-- What every stage's proof cites: what it is that a stage keeps the facts, and how a task's row goes on.
use Prim.Native.Nat.{ℕ, ◌≤◌, ◌<◌}
use mathlib.Core.Path.{◌≡◌, refl, sym, ◌∙◌}
use mathlib.Core.Logic.{◌≢◌}
use mathlib.Core.Bool.{Bool, true}
use mathlib.Core.List.{List, ◌∷◌, Memᴰ}
use native.Mathlib.Nat.{le_trans}
use native.Mathlib.Omega.{arith}
use lib.Dec.{ltb}
use lib.ListN.{length}
use Rattle.rules.specs.declared.Sizes.{Sizes}
use Rattle.rules.specs.declared.Task.{Task}
use Rattle.rules.specs.declared.Chunk.{Chunk}
use Rattle.rules.specs.declared.Entry.{Entry}
use Rattle.rules.specs.declared.ChunkNo.{ChunkNo}
use Rattle.rules.specs.declared.EntryNo.{EntryNo}
use Rattle.rules.specs.declared.HandleNo.{HandleNo}
use Rattle.rules.specs.declared.Decision.{Decision}
use Rattle.rules.specs.declared.Report.{Report}
use Rattle.rules.specs.declared.Write.{Write}
use Rattle.rules.specs.declared.Write.TheVariants as write
use Rattle.rules.specs.Words.{◌and◌, NONE, live}
use Rattle.rules.specs.Tables.{Tables, idle_task, with_own, chunk, entry}
use Rattle.rules.specs.Walks.{locate, find, InRange}
use Rattle.rules.specs.Stages
use Rattle.rules.specs.Shape.{fits_operation}
use Rattle.laws.specs.Counts.{Every}
use Rattle.views.specs.Views.{Links, Chained}
use Rattle.views.proofs.Entries.{links-length, find-hit, find-miss, links-below}
use Rattle.views.proofs.Chunks.{chain-locate, chain-live}
use Rattle.views.proofs.Chained.{chain-short}
use Rattle.statements.specs.Sound.{Limited}
use Rattle.facts.specs.Facts.{listed, Tabled, Holds, hold_at, ChunkOfKey, EntryHeld, Tasked, Allowed}
use Rattle.facts.proofs.Numbers.{holding}
use Rattle.facts.proofs.Operations.{throughout, implies, fits-move}

-- a stage's outcome: its write is allowed, and after it the task's row has the facts
pub record Fine (z : Sizes) (s : Tables) (x : Decision) : Type 0 where
  pub allowed : Allowed z s.chunks s.entries x.write
  pub task : (ts : List Task) (ss : List (List EntryNo)) → Tasked z (Stages.apply z (with_own s ts ss) x.write).chunks (Stages.apply z (with_own s ts ss) x.write).entries x.task

module _ (z : Sizes) (lim : Limited z) (s : Tables) (h : Tabled z s.directory s.chunks s.entries) where
  pub no-chunk : (P : Type 0) → NONE < z.chunks → P
  no-chunk P b = absurd (never b)
    where
      never : NONE < z.chunks → ⊥
      never b = omega (arith, lim.chunks)

  pub no-entry : (P : Type 0) → NONE < z.entries → P
  no-entry P b = absurd (never b)
    where
      never : NONE < z.entries → ⊥
      never b = omega (arith, lim.entries)

  pub idle-right : (cs : List Chunk) (es : List Entry) → Tasked z cs es idle_task
  idle-right cs es = record { idle = λ _. refl; holds = λ ne. absurd (ne refl); chunk-of-key = no-chunk _; entry = no-entry _ }

  -- locate gives a live chunk whose range has the key
  pub located : (k : ℕ) → ((locate z s k).0 < z.chunks) × (((chunk s (locate z s k)).status ≡ live) × InRange z s.chunks (locate z s k) k)
  located k = (at.0, (at.1, found.1))
    where
      c : Chained z s.directory.first s.chunks
      c = h.chained

      short : length (s.directory.first ∷ c.rest) ≤ z.chunks
      short = chain-short z s.chunks s.directory.first h.chunks-sized c

      found : Memᴰ (locate z s k) (s.directory.first ∷ c.rest) × InRange z s.chunks (locate z s k) k
      found = chain-locate z s.chunks lim.chunks z.chunks 0 k s.directory.first s.directory.first c.rest short c.chain (rw c.from (omega arith))

      at : ((locate z s k).0 < z.chunks) × ((chunk s (locate z s k)).status ≡ live)
      at = chain-live z s.chunks 0 s.directory.first (s.directory.first ∷ c.rest) c.chain (locate z s k) found.0

  module _ (t : Task) (r : Tasked z s.chunks s.entries t) where
    -- a task that has finished, or starts again
    pub finished : (w : Write) (a : Report) → Allowed z s.chunks s.entries w → Fine z s (Stages.finishes w a)
    finished w a ok = record { allowed = ok; task = λ ts ss. idle-right _ _ }

    pub restarted : (why : Report) → t.stage ≢ 0 → fits_operation t.operation 1 ≡ true → Fine z s (Stages.restarts t why)
    restarted why ne f =
        record {
          allowed = tt;
          task = λ ts ss.
              record {
                idle = λ e. absurd (one e);
                holds = λ _. record { fits = f; function = (r.holds ne).function; chunk = refl; entry = refl; old = refl; new = refl; published = refl; swapped = refl };
                chunk-of-key = no-chunk _;
                entry = no-entry _;
              };
        }
      where
        one : ◌≡◌ {A = ℕ} 1 0 → ⊥
        one e = omega arith

    pub holds_at : (n : ℕ) → t.stage ≡ n → n ≢ 0 → Holds z t (hold_at n)
    holds_at = holding z s.chunks s.entries t r

    -- a row that goes on, by what its stage must hold
    pub row-right : (n : ℕ) (c : ChunkNo) (e : EntryNo) (o m : HandleNo) (p w : ℕ) → n ≢ 0 → Holds z (Stages.goes_to t n c e o m p w) (hold_at n) →
        (c.0 < z.chunks → ChunkOfKey z s.chunks t.operation c t.key) → (e.0 < z.entries → EntryHeld z s.chunks s.entries c e t.key n) → Tasked z s.chunks s.entries (Stages.goes_to t n c e o m p w)
    row-right n c e o m p w ne holds ck en = record { idle = λ q. absurd (ne q); holds = λ _. holds; chunk-of-key = ck; entry = en }

    pub going : (n : ℕ) (c : ChunkNo) (e : EntryNo) (o m : HandleNo) (p w : ℕ) → n ≢ 0 → Holds z (Stages.goes_to t n c e o m p w) (hold_at n) →
        (c.0 < z.chunks → ChunkOfKey z s.chunks t.operation c t.key) → (e.0 < z.entries → EntryHeld z s.chunks s.entries c e t.key n) →
        Fine z s (Stages.moves (Stages.goes_to t n c e o m p w) write.Nothing)
    going n c e o m p w ne holds ck en = record { allowed = tt; task = λ ts ss. row-right n c e o m p w ne holds ck en }

    pub fit : (n m : ℕ) (when : ℕ → Bool) → throughout 9 (λ op. implies (fits_operation op n and when op) (fits_operation op m)) ≡ true → t.stage ≡ n → n ≢ 0 → when t.operation ≡ true → fits_operation t.operation m ≡ true
    fit n m when all e ne w = fits-move n m when all t.operation (rw e at (holds_at n e ne).fits) w

    -- a held entry that is linked stays so at any stage
    pub entry-at : (n : ℕ) → t.stage ≡ n → n ≢ 7 → (m : ℕ) → t.entry.0 < z.entries → EntryHeld z s.chunks s.entries t.chunk t.entry t.key m
    entry-at n e ne m b = record { inside = x.inside; used = x.used; keyed = x.keyed; linked = λ _. x.linked (λ q. ne (sym e ∙ q)) }
      where
        x : EntryHeld z s.chunks s.entries t.chunk t.entry t.key t.stage
        x = r.entry b

    -- where the held chunk has the key the entry found is one of the table's
    pub key_in : Stages.has_key z s t ≡ true → ltb (find z s t.chunk t.key).0 z.entries ≡ true
    key_in i = i

    module _ (c : ChunkNo) (b : c.0 < z.chunks) where
      links : Links z s.entries c (chunk s c).used 0 (chunk s c).head (listed z s.chunks s.entries c)
      links = (h.lists c b).links

      small : (chunk s c).used ≤ z.entries
      small = (h.lists c b).row.used

      pub found-held : (k n : ℕ) → (find z s c k).0 < z.entries → EntryHeld z s.chunks s.entries c (find z s c k) k n
      found-held k n i = record { inside = b; used = links-below z s.entries c (chunk s c).used 0 (chunk s c).head (listed z s.chunks s.entries c) links (find z s c k) hit.0; keyed = hit.1; linked = λ _. hit.0 }
        where
          hit : Memᴰ (find z s c k) (listed z s.chunks s.entries c) × ((entry z s c (find z s c k)).key ≡ k)
          hit = find-hit z s.entries c (chunk s c).used small lim.entries z.entries 0 (chunk s c).head (listed z s.chunks s.entries c) k links i

      pub lacks-key : (k : ℕ) → z.entries ≤ (find z s c k).0 → Every (λ x. (entry z s c x).key ≢ k) (listed z s.chunks s.entries c)
      lacks-key k o =
          find-miss z s.entries c (chunk s c).used small lim.entries z.entries 0 (chunk s c).head (listed z s.chunks s.entries c) k
          (le_trans (links-length z s.entries c (chunk s c).used 0 (chunk s c).head (listed z s.chunks s.entries c) links) small) links o
