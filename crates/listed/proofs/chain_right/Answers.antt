use Rattle.rows.specs.Seen.{seen}
use Rattle.rows.proofs.Laws.{length-rows}
use Rattle.listed.proofs.Chain.{chained-is}
use Rattle.listed.proofs.chain_right.Goals as goal

pub returns : goal.returns
returns c = let s = c.args.s.now in
    chained-is s.z (seen s) _ _ _ _ _ (length-rows _ 0 _) c.directory_row-d.ensures c.chunk_at-x.ensures c.chain_count-n.ensures c.status_count-live.ensures.count c.eq.ensures
