use Rattle.std.proofs.Common.{sym, ◌∙◌}
use borrow.Author.Tests.{ne_eqb}
use Rattle.script.proofs.Words.{blank_more}
use Rattle.script.proofs.States.{remark_from, word_begins}
use Rattle.script.proofs.line.Line.begun.Goals as goal

pub returns-then-is_blank : goal.returns-then-is_blank
returns-then-is_blank c = λ l o. blank_more l c.args.b (sym c.is_blank.ensures ∙ c.if-is_blank.true) o

pub returns-then-b-eq35 : goal.returns-then-b-eq35
returns-then-b-eq35 c = λ l o. remark_from l c.args.b c.if-b-eq35.true o

pub returns : goal.returns
returns c = λ l o. word_begins l c.args.b c.new.result (sym c.is_blank.ensures ∙ c.if-is_blank.false) (ne_eqb _ _ c.if-b-eq35.false) c.new.ensures o
