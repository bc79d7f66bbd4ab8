use Rattle.rows.proofs.Layouts.{index-put}
use Rattle.rows.proofs.put_index_row.Goals as goal

pub returns : goal.returns
returns c = index-put c.args.words.now c.args.i c.args.x c.requires
