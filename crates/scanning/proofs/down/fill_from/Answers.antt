use Rattle.scanning.proofs.down.fill_from.Goals as goal

pub returns : goal.returns
returns c = λ ts es vs ms. rw (← c.locate.ensures ts es vs ms) c.moves.ensures
