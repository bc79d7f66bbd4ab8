-- M1 to M12, the cases beside them, those of former values, of scans down, of the index and of a scan's upper end hold of the rules, at document 01's sizes: by computing, the longest three in stages.
use mathlib.Core.Path.{◌≡◌, refl, ◌∙◌, sym}
use mathlib.Core.List.{List, ◌++◌, map}
use borrow.Table.Elements.{map_app}
use Rattle.rules.specs.Words.{limits}
use Rattle.rules.specs.Calls.{fresh, does}
use Rattle.rules.specs.Lines.{Line, says, runs, moves, puts_on, falls, climbs}
use Rattle.rules.specs.Cases.{empty_down, retired_down, in_one, in_two, in_three, scans_all, whole_down, locates_between, between, top_key, scans_to_minimum, to_minimum, base_cases, fill_cases, down_cases, former_cases, index_cases, end_cases, marked_cases}
use Rattle.rules.proofs.Broken.{every_rule, judged}
use Rattle.rules.proofs.Staged.{Holds, Stage, left_by, then-holds, rows_from, one, two, three}

-- what the rules say of each case of the list is what the case says
abbrev AllHold : List (List Line) → Type 0
AllHold l = map (runs does (fresh limits)) l ≡ map (map says) l

both_hold : (l m : List (List Line)) → AllHold l → AllHold m → AllHold (l ++ m)
both_hold l m h g = map_app (runs does (fresh limits)) l m ∙ rw (h, g) (sym (map_app (map says) l m))

-- ---- by computing: the shape that the cases ask for is judged first, then the cases, the shortest first, each where the ones before it hold
base : AllHold base_cases
unfolding every_rule runs moves
base = let judge = judged in refl

formers : AllHold former_cases
unfolding every_rule runs moves
formers = let judge = judged in let before = base in refl

top_holds : Holds (fresh limits) top_key
unfolding every_rule runs moves
top_holds = let judge = judged in let before = formers in refl

empty_holds : Holds (fresh limits) empty_down
unfolding every_rule runs moves
empty_holds = let judge = judged in let before = top_holds in refl

retired_holds : Holds (fresh limits) retired_down
unfolding every_rule runs moves puts_on
retired_holds = let judge = judged in let before = empty_holds in refl

fills : AllHold fill_cases
unfolding every_rule runs moves puts_on
fills = let judge = judged in let before = retired_holds in refl

-- the longest three, of scans and of the index, in stages
in_one_stage : Stage (fresh limits) in_one one
unfolding every_rule runs left_by rows_from moves puts_on
in_one_stage = let judge = judged in let before = fills in (refl, refl)

in_two_stage : Stage one in_two two
unfolding every_rule runs left_by rows_from moves puts_on
in_two_stage = let judge = judged in let before = in_one_stage in (refl, refl)

to_minimum_holds : Holds two scans_to_minimum
unfolding every_rule runs rows_from falls climbs
to_minimum_holds = let judge = judged in let before = in_two_stage in refl

between_holds : Holds two locates_between
unfolding every_rule runs rows_from moves
between_holds = let judge = judged in let before = to_minimum_holds in refl

in_three_stage : Stage two in_three three
unfolding every_rule runs left_by rows_from moves puts_on
in_three_stage = let judge = judged in let before = between_holds in (refl, refl)

all_holds : Holds three scans_all
unfolding every_rule runs rows_from falls
all_holds = let judge = judged in let before = in_three_stage in refl

-- ---- the cases, of their stages
-- what follows the keys 1 to 17 in two chunks
after_two : (l : List Line) → Holds two l → Holds (fresh limits) (in_one ++ (in_two ++ l))
after_two l h = then-holds (fresh limits) one in_one (in_two ++ l) in_one_stage (then-holds one two in_two l in_two_stage h)

whole : Holds (fresh limits) whole_down
whole = after_two (in_three ++ scans_all) (then-holds two three in_three scans_all in_three_stage all_holds)

between-two : Holds (fresh limits) between
between-two = after_two locates_between between_holds

down : AllHold down_cases
down = rw (empty_holds, retired_holds, whole)

index : AllHold index_cases
index = rw between-two

to-minimum : Holds (fresh limits) to_minimum
to-minimum = after_two scans_to_minimum to_minimum_holds

at_ends : AllHold end_cases
at_ends = rw (top_holds, to-minimum)

-- what the rules say of each case, line by line, is what the case says
pub marked : map (runs does (fresh limits)) marked_cases ≡ map (map says) marked_cases
marked =
    both_hold base_cases (fill_cases ++ down_cases ++ former_cases ++ index_cases ++ end_cases) base
    (both_hold fill_cases (down_cases ++ former_cases ++ index_cases ++ end_cases) fills
    (both_hold down_cases (former_cases ++ index_cases ++ end_cases) down
    (both_hold former_cases (index_cases ++ end_cases) formers
    (both_hold index_cases end_cases index at_ends))))
