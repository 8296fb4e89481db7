use Rattle.rice_stream.proofs.Words.{subst, sym, length, Parameters, fill_count, complete_samples, AddsCode, setting_of}
use Rattle.rice_stream.proofs.takes.BlockCoderTakesBytes.finish.Goals as goal

pub returns : goal.returns
returns c m xs stands room taken =
    subst (λ (s : Parameters). AddsCode s (complete_samples s xs) xs m.sink c.finish.new.sink c.finish.result (fill_count s (length xs)) m.meter c.finish.new.meter) (sym (setting_of stands))
    (c.finish.ensures.adds m xs stands room taken)
