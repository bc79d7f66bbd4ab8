-- The tables that are lent to be read.
use Rattle.rules.specs.Tables.{Tables}
use Rattle.rows.specs.Rows.{tables}
use Rattle.rows.specs.declared.lent.Lent.{Lent}

abbrev pub seen : Lent → Tables
seen s = tables s.z s.directory.now s.tasks.now s.chunks.now s.entries.now s.values.now s.marks.now
