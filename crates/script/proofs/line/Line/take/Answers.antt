use Rattle.std.proofs.Common.{sym, ◌∙◌}
use Rattle.script.proofs.Words.{blank_more}
use Rattle.script.proofs.States.{number_goes_on, no_number}
use Rattle.script.proofs.line.Line.take.Goals as goal

pub returns-in-Blank : goal.returns-in-Blank
returns-in-Blank c = rw c.in-Blank.is (λ l o. blank_more l c.args.b (sym c.is_blank.ensures ∙ c.if-is_blank.true) o)

pub returns-in-Some : goal.returns-in-Some
returns-in-Some c = λ l r. number_goes_on c.in-Call.field-0 c.in-Call.field-1 c.in-Call.number l (rw c.in-Call.is at r) c.args.b c.unwrap_or.result c.unwrap_or.ensures c.in-Some.longer (sym c.is_blank.ensures ∙ c.if-is_blank.false) c.in-Some.ensures.0.0 c.in-Some.ensures.0.1 c.in-Some.ensures.1

pub returns-in-None : goal.returns-in-None
returns-in-None c = λ l r. no_number c.in-Call.field-0 c.in-Call.field-1 c.in-Call.number l (rw c.in-Call.is at r) c.args.b c.unwrap_or.result c.unwrap_or.ensures (sym c.is_blank.ensures ∙ c.if-is_blank.false) c.in-None.ensures
