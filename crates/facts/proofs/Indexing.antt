-- The index step keeps the facts: it writes the index and the directory's row alone.
use Prim.Native.Nat.{ℕ, ◌≤◌, ◌<◌}
use mathlib.Core.Path.{◌≡◌, refl, ◌∙◌}
use native.Mathlib.Omega.{arith}
use Rattle.rules.specs.declared.Sizes.{Sizes}
use Rattle.rules.specs.declared.ChunkNo.{ChunkNo}
use Rattle.rules.specs.Words.{to_swap, to_index}
use Rattle.rules.specs.Tables.{Tables, chunk}
use Rattle.rules.specs.Rebalance.{indexes}
use Rattle.facts.specs.Facts.{Roles, Rebalancing, Leaves, Kept}

pub index-leaves : (z : Sizes) (s : Tables) (f : ChunkNo) → Leaves z s (indexes z s).tables f
index-leaves z s f = record { tasked = λ t _ r. r; min = λ _. refl }

module _ (z : Sizes) (s : Tables) (kept : Kept z s) (indexing : s.directory.stage ≡ to_index) where
  q : Rebalancing z s.directory s.chunks
  q = kept.tables.rebalancing

  late : to_swap ≤ s.directory.stage
  late = omega arith

  roles : (f : ChunkNo) → f.0 < z.chunks → Roles (indexes z s).tables.directory f.0 (chunk s f)
  roles f b =
      let r = q.roles f b in
      record {
        old = λ e. ((r.old e).0, (r.old e).1 ∙ rw indexing refl);
        new = λ ne o. ((r.new ne o).0, (r.new ne o).1 ∙ rw indexing refl);
        other = r.other;
      }

  pub index_kept : Kept z (indexes z s).tables
  index_kept =
      record {
        tasks-sized = kept.tasks-sized;
        values-sized = kept.values-sized;
        marks-sized = kept.marks-sized;
        marks = kept.marks;
        tables =
            record {
              chunks-sized = kept.tables.chunks-sized;
              entries-sized = kept.tables.entries-sized;
              lists = kept.tables.lists;
              chained = kept.tables.chained;
              key-in-range = kept.tables.key-in-range;
              rebalancing = record { known = omega arith; none = λ e. absurd (five e); unmade = λ le. absurd (over le); old = λ _. q.old (omega arith); room = λ _ le. absurd (over le); new = λ _. q.new late; second = λ _. q.second late; apart = λ _. q.apart late; old-new = λ _. q.old-new late; old-second = λ _. q.old-second late; roles = roles };
              made = λ e. absurd (swapping e);
            };
        tasks = kept.tasks;
        stacks-sized = kept.stacks-sized;
        stacks = kept.stacks;
      }
    where
      five : ◌≡◌ {A = ℕ} 5 0 → ⊥
      five e = omega arith

      swapping : ◌≡◌ {A = ℕ} 5 3 → ⊥
      swapping e = omega arith

      over : 5 ≤ 2 → ⊥
      over le = omega arith
