use Rattle.std.proofs.Common.{sym, ◌∙◌, ap}
use Rattle.script.specs.Reading.{verb_of}
use Rattle.script.proofs.States.{verb_ends, no_verb_ends, word_goes_on, word_too_long}
use Rattle.script.proofs.line.Line.first_next.Goals as goal

pub returns-in-Some : goal.returns-in-Some
returns-in-Some c = λ l r. verb_ends c.args.word l c.args.b r c.in-Some.verb c.new.result (sym c.is_blank.ensures ∙ c.if-is_blank.true) (sym (c.in-Some.ensures ∙ ap verb_of c.letters.ensures)) c.new.ensures

pub returns-in-None : goal.returns-in-None
returns-in-None c = λ l r. no_verb_ends c.args.word l c.args.b r (sym c.is_blank.ensures ∙ c.if-is_blank.true) (sym (c.in-None.ensures ∙ ap verb_of c.letters.ensures))

pub returns-in-Some-with : goal.returns-in-Some-with
returns-in-Some-with c = λ l r. word_goes_on c.args.word l c.args.b r c.in-Some-with.longer (sym c.is_blank.ensures ∙ c.if-is_blank.false) c.in-Some-with.ensures

pub returns-in-None-with : goal.returns-in-None-with
returns-in-None-with c = λ l r. word_too_long c.args.word l c.args.b r (sym c.is_blank.ensures ∙ c.if-is_blank.false) c.in-None-with.ensures
