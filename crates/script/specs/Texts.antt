-- The texts of the lines that answer.
use lib.Chars.{codes}
use Rattle.std.specs.Prelude.{ℕ, List, [], ◌∷◌, ◌++◌, eqb, Result, Ok, Err}
use Rattle.std.specs.Fmt.{decimal}
use Rattle.rules.specs.Words.{pick}
use Rattle.rules.specs.declared.Chunk.{Chunk}
use Rattle.rules.specs.declared.Entry.{Entry}
use Rattle.rules.specs.declared.Task.{Task}
use Rattle.rules.specs.declared.Directory.{Directory}
use Rattle.rules.specs.declared.IndexRow.{IndexRow}
use Rattle.rules.specs.declared.RebalanceStage.{RebalanceStage}
use Rattle.rules.specs.declared.RebalanceStage.TheVariants.{Drain, Copy, SwapIn, Index, Release}
use Rattle.rules.specs.declared.Refusal.{Refusal}
use Rattle.rules.specs.Kinds.{rebalance_stage_of}
use Rattle.rules.specs.declared.Report.{Report}
use Rattle.rules.specs.declared.Report.TheVariants.{Moved, Frozen, Full, Lost, Pair, Value, Absent, Done, True, False, Waiting, Finished, Refused}

abbrev pub told_text : Report → List ℕ
told_text Moved = codes "moved on"
told_text Frozen = codes "restarted frozen"
told_text Full = codes "restarted full"
told_text Lost = codes "restarted lost"
told_text (Pair k v) = codes "pair " ++ decimal k ++ codes " " ++ decimal v
told_text (Value v) = codes "finished value " ++ decimal v
told_text Absent = codes "finished absent"
told_text Done = codes "finished done"
told_text True = codes "finished true"
told_text False = codes "finished false"
told_text Waiting = codes "waiting"
told_text Finished = codes "finished"
told_text (Refused n) = codes "refused " ++ decimal n

-- ---- the rows of the tables
abbrev pub perhaps_text : ℕ → List ℕ
perhaps_text n = pick (eqb n 18446744073709551615) (codes "none") (decimal n)

abbrev pub flag_text : ℕ → List ℕ → List ℕ
flag_text n text = pick (eqb n 0) [] text

abbrev pub index_text : ℕ → IndexRow → List ℕ
index_text i x = codes "index " ++ decimal i ++ codes " min " ++ decimal x.min ++ codes " chunk " ++ decimal x.chunk.0

abbrev pub status_text : ℕ → List ℕ
status_text n = pick (eqb n 1) (codes "live") (pick (eqb n 2) (codes "new") (codes "retired"))

abbrev pub chunk_text : ℕ → Chunk → List ℕ
chunk_text i c =
    (codes "chunk " ++ decimal i ++ codes " " ++ status_text c.status ++ flag_text c.frozen (codes " frozen"))
    ++ (codes " min " ++ decimal c.min ++ codes " next " ++ perhaps_text c.next.0 ++ codes " head " ++ perhaps_text c.head.0 ++ codes " used " ++ decimal c.used)

abbrev pub entry_text : ℕ → ℕ → Entry → List ℕ
entry_text i e x = codes "entry " ++ decimal i ++ codes " " ++ decimal e ++ codes " key " ++ decimal x.key ++ codes " handle " ++ perhaps_text x.handle.0 ++ codes " next " ++ perhaps_text x.next.0

abbrev pub handle_text : ℕ → ℕ → ℕ → List ℕ
handle_text h value mark = codes "handle " ++ decimal h ++ codes " value " ++ decimal value ++ flag_text mark (codes " deleted")

abbrev pub task_text : ℕ → Task → List ℕ
task_text i t =
    (codes "task " ++ decimal i ++ codes " stage " ++ decimal t.stage ++ codes " operation " ++ decimal t.operation ++ codes " function " ++ decimal t.function ++ codes " key " ++ decimal t.key ++ codes " argument " ++ decimal t.argument)
    ++ (codes " chunk " ++ perhaps_text t.chunk.0 ++ codes " entry " ++ perhaps_text t.entry.0 ++ codes " old " ++ perhaps_text t.old.0 ++ codes " new " ++ perhaps_text t.new.0 ++ codes " published " ++ decimal t.published ++ codes " swapped " ++ decimal t.swapped)

-- the first word that is none ends a stack
unfoldable pub stacked_text : List ℕ → List ℕ
stacked_text [] = []
stacked_text (e ∷ l) = let rest = stacked_text l in pick (eqb e 18446744073709551615) [] (codes " " ++ decimal e ++ rest)

abbrev pub stack_text : ℕ → List ℕ → List ℕ
stack_text i words = codes "stack " ++ decimal i ++ stacked_text words

abbrev pub new_chunk_text : ℕ → List ℕ
new_chunk_text c = pick (eqb c 18446744073709551615) [] (codes " new " ++ decimal c)

abbrev pub stage_text : RebalanceStage → List ℕ
stage_text Drain = codes "drain"
stage_text Copy = codes "copy"
stage_text SwapIn = codes "swap-in"
stage_text Index = codes "index"
stage_text Release = codes "release"

abbrev pub rebalance_text : Result RebalanceStage Refusal → Directory → List ℕ
rebalance_text (Err why) d = codes "rebalance idle"
rebalance_text (Ok stage) d = codes "rebalance " ++ stage_text stage ++ codes " old " ++ decimal d.old.0 ++ new_chunk_text d.new.0 ++ new_chunk_text d.second.0

abbrev pub directory_text : Directory → List ℕ
directory_text d = (codes "directory first " ++ decimal d.first.0 ++ (10 ∷ [])) ++ rebalance_text (rebalance_stage_of d.stage) d
