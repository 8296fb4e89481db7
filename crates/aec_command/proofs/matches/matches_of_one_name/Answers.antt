use Rattle.aec_command.specs.CommandLine.{aec_test}
use Rattle.aec_command.proofs.CommandLineLemmas.{test_is_free, words_are_parsed, words_are_refused}
use Rattle.aec_command.proofs.matches.matches_of_one_name.Goals as goal

pub returns : goal.returns
returns c =
    let parse = c.try_get_matches_from in
    record {
      ok = words_are_parsed aec_test _ _ parse.result test_is_free c.in_ok-command_with_one_name.ensures parse.ensures.matches parse.ensures.kinds;
      err = words_are_refused aec_test _ _ parse.result test_is_free c.in_ok-command_with_one_name.ensures parse.ensures.kinds;
    }
