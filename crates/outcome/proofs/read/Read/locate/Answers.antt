use Rattle.outcome.proofs.read.Read.locate.Goals as goal

pub returns : goal.returns
returns c = λ ts es vs ms. rw (c.chart.ensures.0, c.chart.ensures.1, c.chart.ensures.2) at (c.locate.ensures ts es vs ms)
