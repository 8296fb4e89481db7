use Rattle.std.proofs.Common.{◌∙◌, ap}
use Rattle.aec_command.specs.CommandLine.{aec_test, with_rules, rules_up_to_j, rules_from_m, long_rules}
use Rattle.aec_command.proofs.CommandLineLemmas.{last_argument_adds_rule}
use Rattle.aec_command.proofs.command_line.command_with_one_name.Goals as goal

-- the options, and then the name
pub returns : goal.returns
unfolding aec_test
returns c =
    let up_to_j = c.in_ok-begun.ensures ∙ ap (λ x. with_rules x rules_up_to_j) c.in_ok-described.ensures in
    let from_m = c.in_ok-lettered.ensures ∙ ap (λ x. with_rules x rules_from_m) up_to_j in
    let long = c.in_ok-with_long_options.ensures ∙ ap (λ x. with_rules x long_rules) from_m in
    last_argument_adds_rule _ _ _ _ c.arg.result c.arg.ensures c.source.ensures.local c.source.ensures.rule long
