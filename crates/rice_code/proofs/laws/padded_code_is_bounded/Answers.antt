use Rattle.std.proofs.Common.{arith, pos}
use Rattle.rice_samples.proofs.lemmas.setting.LevelsOfSamples.{zero_is_sample}
use Rattle.rice_code.proofs.laws.padded_code_is_bounded.Goals as goal
use Rattle.rice_code.proofs.lemmas.{cost.PaddingBounds.padding_is_bounded, code.SoundBlocks.code_is_bounded}

pub returns : goal.returns
returns c = λ s legal xs h. omega (arith, padding_is_bounded s legal xs h, code_is_bounded s legal 0 (pos 0) xs (zero_is_sample s legal.bits_from) h)
