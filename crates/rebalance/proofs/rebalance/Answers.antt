use mathlib.Core.Path.{◌∙◌}
use Rattle.rows.specs.Rows.{tables}
use Rattle.rebalance.proofs.Laws.{does-one, does-none}
use Rattle.rebalance.proofs.rebalance.Goals as goal

pub returns-in_err-try_from : goal.returns-in_err-try_from
returns-in_err-try_from c vs ms = let a = c.args in does-none a.z (tables a.z a.directory.now a.tasks.now a.chunks.now a.entries.now vs ms) _ c.directory_row-d.ensures _ c.try_from.ensures _ c.in_err-try_from.was c.from_residual.result c.from_residual.ensures.1

pub returns-in-Drain : goal.returns-in-Drain
returns-in-Drain c vs ms = let a = c.args in c.drain-report.ensures a.chunks.now a.entries.now vs ms ∙ does-one a.z (tables a.z a.directory.now a.tasks.now a.chunks.now a.entries.now vs ms) _ c.directory_row-d.ensures _ c.try_from.ensures _ _ c.in_ok-try_from.was c.in-Drain.is

pub returns-in-Copy : goal.returns-in-Copy
returns-in-Copy c vs ms = let a = c.args in c.copy-report.ensures a.tasks.now vs ms ∙ does-one a.z (tables a.z a.directory.now a.tasks.now a.chunks.now a.entries.now vs ms) _ c.directory_row-d.ensures _ c.try_from.ensures _ _ c.in_ok-try_from.was c.in-Copy.is

pub returns-in-SwapIn : goal.returns-in-SwapIn
returns-in-SwapIn c vs ms = let a = c.args in c.swap_in-report.ensures a.tasks.now a.entries.now vs ms ∙ does-one a.z (tables a.z a.directory.now a.tasks.now a.chunks.now a.entries.now vs ms) _ c.directory_row-d.ensures _ c.try_from.ensures _ _ c.in_ok-try_from.was c.in-SwapIn.is

pub returns-in-Index : goal.returns-in-Index
returns-in-Index c vs ms = let a = c.args in c.index-report.ensures a.tasks.now a.entries.now vs ms ∙ does-one a.z (tables a.z a.directory.now a.tasks.now a.chunks.now a.entries.now vs ms) _ c.directory_row-d.ensures _ c.try_from.ensures _ _ c.in_ok-try_from.was c.in-Index.is

pub returns-in-Release : goal.returns-in-Release
returns-in-Release c vs ms = let a = c.args in c.release-report.ensures vs ms ∙ does-one a.z (tables a.z a.directory.now a.tasks.now a.chunks.now a.entries.now vs ms) _ c.directory_row-d.ensures _ c.try_from.ensures _ _ c.in_ok-try_from.was c.in-Release.is
