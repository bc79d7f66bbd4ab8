-- The marked cases hold of the calls, since from fresh the shape holds before each.
use mathlib.Core.Path.{◌≡◌, refl, ap, ◌∙◌}
use mathlib.Core.List.{List, [], ◌∷◌, map}
use Rattle.rules.specs.Words.{limits}
use Rattle.rules.specs.Tables.{Tables}
use Rattle.rules.specs.Calls.{fresh, does, calls}
use Rattle.rules.specs.Lines.{Line, Said, runs, says}
use Rattle.rules.specs.Lines.Line.{reports, shows}
use Rattle.rules.specs.Lines.Said.{heard, seen}
use Rattle.rules.specs.Cases.{marked_cases}
use Rattle.rules.proofs.Marked as rules
use Rattle.facts.specs.Reached.{Reached}
use Rattle.facts.proofs.Reaching.{limits-limited}
use Rattle.holds.proofs.Shaped.{calls-does}

-- from reached tables the calls say what is done where the shape holds
same_runs : (s : Tables) → Reached limits s → (l : List Line) → runs calls s l ≡ runs does s l
unfolding runs
same_runs s r [] = refl
same_runs s r (reports c q ∷ l) = rw (← calls-does limits limits-limited s r c) (ap (λ (x : List Said). heard (calls limits s c).report ∷ x) (same_runs (calls limits s c).tables (Reached.called r c) l))
same_runs s r (shows v n ∷ l) = ap (λ (x : List Said). seen (v s) ∷ x) (same_runs s r l)

every : (l : List (List Line)) → map (runs calls (fresh limits)) l ≡ map (runs does (fresh limits)) l
every [] = refl
every (x ∷ l) = rw (same_runs (fresh limits) Reached.started x) (ap (λ (y : List (List Said)). runs does (fresh limits) x ∷ y) (every l))

pub marked : map (runs calls (fresh limits)) marked_cases ≡ map (map says) marked_cases
marked = every marked_cases ∙ rules.marked
