use native.Mathlib.Omega.{arith}
use Rattle.rows.specs.Rows.{tables}
use Rattle.rows.proofs.Laws.{length-rows}
use Rattle.rebalance.proofs.Unused.{first-some, can-first, second-some, can-second}
use Rattle.rebalance.proofs.Copies.{copy-one, copy-two}
use Rattle.rebalance.proofs.copy.Goals as goal

pub unwrap-a-requires : goal.unwrap-a-requires
unwrap-a-requires c = first-some _ _ _ c.directory_row-d.ensures _ (length-rows _ _ _) c.requires.can_copy _ c.unused_from.ensures.0 (omega (arith, c.requires.directory_len.1, c.well_formed))

pub make-requires : goal.make-requires
make-requires c =
    let free = can-first _ _ _ c.directory_row-d.ensures _ (length-rows _ _ _) c.requires.can_copy _ c.unused_from.ensures.0 _ c.unwrap-a.ensures in
    (record { old = rw c.directory_row-d.ensures c.requires.can_copy.old; into = free.within; other = free.other; long = c.requires.directory_len.2; fits = c.naming_count-count.ensures.1; enough = omega (arith, c.naming_count-count.ensures.0) }, c.requires.directory_len.1)

pub returns-then-count-z : goal.returns-then-count-z
returns-then-count-z c ts vs ms =
    let a = c.args in
    let put = c.put_directory_row.ensures in
    copy-one a.z (tables a.z a.directory.now ts a.chunks.now a.entries.now vs ms) _ c.directory_row-d.ensures _ c.chunk_at-x.ensures _ c.naming_count-count.ensures.0 _ (rw c.unwrap-a.ensures at c.unused_from.ensures.0) c.if-count-z.true _ c.make.ensures.0.rows _ c.make.ensures.1 _ put.row _ (put.index a.z.chunks)

pub unwrap-b-requires : goal.unwrap-b-requires
unwrap-b-requires c = second-some _ _ _ c.directory_row-d.ensures _ (length-rows _ _ _) c.requires.can_copy _ c.unused_from.ensures.0 _ c.unwrap-a.ensures _ c.unused_from-2.ensures.0 (omega (arith, c.requires.directory_len.1, c.well_formed))

pub make_two-requires : goal.make_two-requires
make_two-requires c = record {
  chunks = c.requires.directory_len.1;
  entries = c.requires.directory_len.2;
  old = rw c.directory_row-d.ensures c.requires.can_copy.old;
  first = can-first _ _ _ c.directory_row-d.ensures _ (length-rows _ _ _) c.requires.can_copy _ c.unused_from.ensures.0 _ c.unwrap-a.ensures;
  second = can-second _ _ _ c.directory_row-d.ensures _ (length-rows _ _ _) c.requires.can_copy _ c.unused_from.ensures.0 _ c.unwrap-a.ensures _ c.unused_from-2.ensures.0 _ c.unwrap-b.ensures;
  fits = c.naming_count-count.ensures.1;
  counted = c.naming_count-count.ensures.0;
}

pub returns : goal.returns
returns c ts vs ms =
    let a = c.args in
    let put = c.put_directory_row-2.ensures in
    copy-two a.z (tables a.z a.directory.now ts a.chunks.now a.entries.now vs ms) _ c.directory_row-d.ensures _ c.chunk_at-x.ensures _ c.naming_count-count.ensures.0 _ (rw c.unwrap-a.ensures at c.unused_from.ensures.0) c.if-count-z.false _ (rw c.unwrap-b.ensures at c.unused_from-2.ensures.0) _ _ c.make_two.ensures _ put.row _ (put.index a.z.chunks)
