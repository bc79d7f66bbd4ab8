use Rattle.std.proofs.Common.{rules}
use Rattle.std.proofs.iter.runs.Sources.{ranges}
use Rattle.rows.specs.Rows.{task_of}
use Rattle.walks.proofs.Laws.{some-told, held-chunk-some}
use Rattle.walks.proofs.held_chunk.Goals as goal

pub returns : goal.returns
returns c = some-told (held-chunk-some c.args.c) (task_of c.args.tasks.now) c.args.n c.any.result (search (rules, ranges)) (search (rules, ranges))
