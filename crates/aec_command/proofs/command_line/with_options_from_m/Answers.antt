use Rattle.std.proofs.Common.{refl}
use Rattle.aec_command.proofs.CommandLineLemmas.{argument_adds_rule, last_argument_adds_rule}
use Rattle.aec_command.proofs.command_line.with_options_from_m.Goals as goal

-- one argument after the other
pub returns : goal.returns
returns c =
    let most_significant_first = argument_adds_rule _ _ _ _ _ c.in_ok-arg.ensures c.flag.ensures.local c.flag.ensures.rule refl in
    let bits = argument_adds_rule _ _ _ _ _ c.in_ok-arg-2.ensures c.bits.ensures.local c.bits.ensures.rule most_significant_first in
    let pad = argument_adds_rule _ _ _ _ _ c.in_ok-arg-3.ensures c.flag-2.ensures.local c.flag-2.ensures.rule bits in
    let interval = argument_adds_rule _ _ _ _ _ c.in_ok-arg-4.ensures c.interval.ensures.local c.interval.ensures.rule pad in
    last_argument_adds_rule _ _ _ _ c.arg-5.result c.arg-5.ensures c.flag-3.ensures.local c.flag-3.ensures.rule interval
