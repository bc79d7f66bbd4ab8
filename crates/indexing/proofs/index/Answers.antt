use Rattle.indexing.proofs.Laws.{index-done}
use Rattle.indexing.proofs.index.Goals as goal

pub returns : goal.returns
returns c = let a = c.args in index-done a.z a.directory.now a.chunks.now _ c.directory_row-d.ensures _ _ _ _ c.write_rows-n.ensures c.empty_from.ensures c.put_directory_row.ensures
