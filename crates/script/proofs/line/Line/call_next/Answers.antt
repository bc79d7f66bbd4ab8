use Rattle.std.proofs.Common.{sym, ◌∙◌}
use Rattle.script.proofs.States.{number_ends, too_many, number_goes_on, no_number}
use Rattle.script.proofs.line.Line.call_next.Goals as goal

pub returns-in-Some : goal.returns-in-Some
returns-in-Some c = λ l r. number_ends c.args.verb c.args.numbers c.args.number l r c.args.b c.in-Some.more (sym c.is_blank.ensures ∙ c.if-is_blank.true) c.in-Some.ensures

pub returns-in-None : goal.returns-in-None
returns-in-None c = λ l r. too_many c.args.verb c.args.numbers c.args.number l r c.args.b (sym c.is_blank.ensures ∙ c.if-is_blank.true) c.in-None.ensures.0 c.in-None.ensures.1

pub returns-in-Some-digit : goal.returns-in-Some-digit
returns-in-Some-digit c = λ l r. number_goes_on c.args.verb c.args.numbers c.args.number l r c.args.b c.unwrap_or.result c.unwrap_or.ensures c.in-Some-digit.longer (sym c.is_blank.ensures ∙ c.if-is_blank.false) c.in-Some-digit.ensures.0.0 c.in-Some-digit.ensures.0.1 c.in-Some-digit.ensures.1

pub returns-in-None-digit : goal.returns-in-None-digit
returns-in-None-digit c = λ l r. no_number c.args.verb c.args.numbers c.args.number l r c.args.b c.unwrap_or.result c.unwrap_or.ensures (sym c.is_blank.ensures ∙ c.if-is_blank.false) c.in-None-digit.ensures
