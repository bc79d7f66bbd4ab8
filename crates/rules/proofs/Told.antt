-- Different reports have different numbers or values, so what is told of a report determines it.
use mathlib.Core.Path.{◌≡◌, refl, sym, ap, ◌∙◌}
use lib.Dec.{eqb}
use Rattle.rules.specs.declared.Report.{Report}
use Rattle.rules.specs.declared.Report.TheVariants.{Moved, Frozen, Full, Lost, Pair, Value, Absent, Done, True, False, Waiting, Finished, Refused}
use Rattle.rules.specs.Words.{pick}
use Rattle.rules.specs.Told.{Told, told}

-- the report of which that is told
abbrev report_of : Told → Report
report_of x =
    pick (eqb x.number 0) (Refused x.first)
    (pick (eqb x.number 1) Moved
    (pick (eqb x.number 2) Frozen
    (pick (eqb x.number 3) Full
    (pick (eqb x.number 4) Lost
    (pick (eqb x.number 5) (Pair x.first x.second)
    (pick (eqb x.number 6) (Value x.first)
    (pick (eqb x.number 7) Absent
    (pick (eqb x.number 8) Done
    (pick (eqb x.number 9) True
    (pick (eqb x.number 10) False
    (pick (eqb x.number 11) Waiting Finished)))))))))))

of-told : (r : Report) → report_of (told r) ≡ r
of-told Moved = refl
of-told Frozen = refl
of-told Full = refl
of-told Lost = refl
of-told (Pair k v) = refl
of-told (Value v) = refl
of-told Absent = refl
of-told Done = refl
of-told True = refl
of-told False = refl
of-told Waiting = refl
of-told Finished = refl
of-told (Refused n) = refl

pub told-injective : (a b : Report) → told a ≡ told b → a ≡ b
told-injective a b e = sym (of-told a) ∙ ap report_of e ∙ of-told b
