use Rattle.rice_code.proofs.encode.coder.Coder.finish.Goals as goal

pub returns : goal.returns
returns c xs h = (c.finish_counted-count.result, c.finish_counted-count.ensures.adds xs h)
