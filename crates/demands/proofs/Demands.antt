-- The three demands hold.
use Prim.Native.Nat.{ℕ}
use mathlib.Core.Path.{refl, sym, ap, ◌∙◌}
use Rattle.rules.specs.declared.Sizes.{Sizes}
use Rattle.rules.specs.Words.{limits}
use Rattle.rules.specs.Tables.{Tables}
use Rattle.rules.specs.Calls.{Call, calls}
use Rattle.rules.proofs.Broken.{broken-refused}
use Rattle.rules.proofs.Refusals.{refusals}
use Rattle.calls.proofs.Unique.{obeys-unique}
use Rattle.statements.specs.Runs.{tables_at}
use Rattle.statements.specs.Sound.{Limited, SoundAt}
use Rattle.facts.specs.Facts.{Kept}
use Rattle.facts.specs.Reached.{Reached}
use Rattle.facts.proofs.Indexes.{indexed-at, awaits-at}
use Rattle.facts.proofs.Reaching.{reached-kept, run-reached, limits-limited}
use Rattle.facts.proofs.Covering.{covers, only, chain-holds, lists-ascend}
use Rattle.handles.proofs.Keys.{one-key-each}
use Rattle.handles.proofs.Handing.{never-handed-out}
use Rattle.holds.proofs.Shaped.{reached-shaped, never-ten}
use Rattle.history.proofs.Runs.{run-beside}
use Rattle.history.proofs.Answers.{answers}
use Rattle.scans.proofs.Scans.{scans}
use Rattle.supply.proofs.Enough.{enough}
use Rattle.demands.specs.Demands.{Demands, Kamrduch}
use Rattle.demands.proofs.CodeRuns.{code, linked, linked-determined}
use Rattle.demands.proofs.Marked.{marked}

module _ (z : Sizes) (lim : Limited z) where
  sound : (run : ℕ → Call) (i : ℕ) → SoundAt z run i (tables_at z run i)
  sound run i =
      record {
        shaped = reached-shaped z lim s r;
        never-ten = never-ten z lim s r (run i);
        covered = covers z lim s kept;
        alone = only z lim s kept;
        chained = chain-holds z lim s kept;
        indexed = indexed-at z lim run i;
        awaits = awaits-at z lim run i;
        ascending = lists-ascend z lim s kept;
        within = λ c l. kept.tables.key-in-range c l.numbered l.is_live;
        one_key = one-key-each z lim s r;
        never-handed-out = never-handed-out z lim run i;
        enough = λ few n own e. enough z lim s _ (run-beside z run i) few n (sym (ap (λ (c : Call). (calls z s c).report) own) ∙ e);
      }
    where
      s : Tables
      s = tables_at z run i

      r : Reached z s
      r = run-reached z run i

      kept : Kept z s
      kept = reached-kept z lim r

  demands : Demands z
  demands =
      record {
        checks = record { refused-first = λ s c. refusals z s c lim.handles; determined = obeys-unique z; linked-determined = linked-determined z };
        answers = answers z lim;
        scans = scans z lim;
        sound = sound;
        code = code z;
        linked = linked z;
      }

pub kamrduch : Kamrduch
kamrduch = record { open-sizes = demands; at-limits = demands limits limits-limited; keys = refl; marked = marked; broken = broken-refused }
