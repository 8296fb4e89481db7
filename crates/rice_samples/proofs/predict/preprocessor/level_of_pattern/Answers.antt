use Rattle.std.proofs.Common.{◌-◌, ap}
use Rattle.rice_samples.proofs.lemmas.bytes.LevelPatterns.{level_of_pattern}
use Rattle.rice_samples.proofs.predict.preprocessor.level_of_pattern.Goals as goal

pub returns-clause-pattern : goal.returns-clause-pattern
returns-clause-pattern c =
    let legal = c.offset.ensures.legal in
    level_of_pattern c.args.setting.now c.args.v c.offset.result (c.number_of_values.result - 1) legal.bits_from legal.bits_to c.requires c.offset.ensures.value
    (ap (λ n. n - 1) c.number_of_values.ensures.value)
