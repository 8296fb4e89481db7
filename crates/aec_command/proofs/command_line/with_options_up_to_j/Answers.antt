use Rattle.std.proofs.Common.{refl}
use Rattle.aec_command.proofs.CommandLineLemmas.{argument_adds_rule, last_argument_adds_rule}
use Rattle.aec_command.proofs.command_line.with_options_up_to_j.Goals as goal

-- one argument after the other
pub returns : goal.returns
returns c =
    let three_bytes = argument_adds_rule _ _ _ _ _ c.in_ok-arg.ensures c.three_bytes.ensures.local c.three_bytes.ensures.rule refl in
    let no_preprocessing = argument_adds_rule _ _ _ _ _ c.in_ok-arg-2.ensures c.flag.ensures.local c.flag.ensures.rule three_bytes in
    let buffer = argument_adds_rule _ _ _ _ _ c.in_ok-arg-3.ensures c.buffer.ensures.local c.buffer.ensures.rule no_preprocessing in
    let decompress = argument_adds_rule _ _ _ _ _ c.in_ok-arg-4.ensures c.flag-2.ensures.local c.flag-2.ensures.rule buffer in
    last_argument_adds_rule _ _ _ _ c.arg-5.result c.arg-5.ensures c.block_size.ensures.local c.block_size.ensures.rule decompress
