use Rattle.listed.specs.Plain.{slot_of, AllGoUp}
use Rattle.listed.proofs.all_go_up.Given as goal

abbrev pub invariant-loop-i : goal.invariant-loop-i
invariant-loop-i l = AllGoUp l.z (slot_of l.entries l.first) l.used l.i
