use Rattle.aec_command.specs.CommandLine.{aec}
use Rattle.aec_command.proofs.CommandLineLemmas.{last_argument_adds_rule}
use Rattle.aec_command.proofs.command_line.command.Goals as goal

-- the other name is added
pub returns : goal.returns
unfolding aec
returns c = last_argument_adds_rule _ _ _ _ c.arg.result c.arg.ensures c.dest.ensures.local c.dest.ensures.rule c.in_ok-command_with_one_name.ensures
