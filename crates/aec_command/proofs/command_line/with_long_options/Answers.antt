use Rattle.std.proofs.Common.{refl}
use Rattle.aec_command.proofs.CommandLineLemmas.{argument_adds_rule, last_argument_adds_rule}
use Rattle.aec_command.proofs.command_line.with_long_options.Goals as goal

-- one argument after the other
pub returns : goal.returns
returns c =
    let samples = argument_adds_rule _ _ _ _ _ c.in_ok-arg.ensures c.samples.ensures.local c.samples.ensures.rule refl in
    let test = argument_adds_rule _ _ _ _ _ c.in_ok-arg-2.ensures c.long_flag.ensures.local c.long_flag.ensures.rule samples in
    last_argument_adds_rule _ _ _ _ c.arg-3.result c.arg-3.ensures c.long_flag-2.ensures.local c.long_flag-2.ensures.rule test
