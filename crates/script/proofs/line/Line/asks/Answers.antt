use Rattle.std.proofs.Common.{sym, ◌∙◌, ap}
use Rattle.script.specs.declared.line.Asked.TheVariants.{NoCall}
use Rattle.script.specs.Reading.{verb_of, call_of}
use Rattle.script.proofs.Words.{settled_end}
use Rattle.script.proofs.States.{verb_alone, no_verb_alone, call_alone, too_many_alone, asks_nothing}
use Rattle.script.proofs.line.Line.asks.Goals as goal

pub returns-in-Blank : goal.returns-in-Blank
returns-in-Blank c = λ l r. asks_nothing c.args.self l c.in-Blank.is r

pub returns-in-NoCall : goal.returns-in-NoCall
returns-in-NoCall c = λ l r. sym (settled_end NoCall l (rw c.in-NoCall.is at r))

pub returns-in-Some : goal.returns-in-Some
returns-in-Some c = λ l r. c.asks.ensures ∙ sym (verb_alone c.in-First.word l (rw c.in-First.is at r) c.in-Some.verb (sym (c.in-Some.ensures ∙ ap verb_of c.letters.ensures)))

pub returns-in-None : goal.returns-in-None
returns-in-None c = λ l r. sym (no_verb_alone c.in-First.word l (rw c.in-First.is at r) (sym (c.in-None.ensures ∙ ap verb_of c.letters.ensures)))

pub returns-in-Some-ended : goal.returns-in-Some-ended
returns-in-Some-ended c = λ l r. c.asks-in-Some-ended.ensures ∙ ap (call_of c.in-Call.verb) c.values.ensures ∙ sym (call_alone c.in-Call.verb c.in-Call.numbers c.in-Call.number l (rw c.in-Call.is at r) c.in-Some-ended.all c.in-Some-ended.ensures)

pub returns-in-None-ended : goal.returns-in-None-ended
returns-in-None-ended c = λ l r. sym (too_many_alone c.in-Call.verb c.in-Call.numbers c.in-Call.number l (rw c.in-Call.is at r) c.in-None-ended.ensures.0 c.in-None-ended.ensures.1)
