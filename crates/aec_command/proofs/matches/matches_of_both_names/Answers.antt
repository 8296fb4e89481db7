use Rattle.aec_command.specs.CommandLine.{aec}
use Rattle.aec_command.proofs.CommandLineLemmas.{aec_is_free, words_are_parsed, words_are_refused}
use Rattle.aec_command.proofs.matches.matches_of_both_names.Goals as goal

pub returns : goal.returns
returns c =
    let parse = c.try_get_matches_from in
    record {
      ok = words_are_parsed aec _ _ parse.result aec_is_free c.in_ok-command.ensures parse.ensures.matches parse.ensures.kinds;
      err = words_are_refused aec _ _ parse.result aec_is_free c.in_ok-command.ensures parse.ensures.kinds;
    }
