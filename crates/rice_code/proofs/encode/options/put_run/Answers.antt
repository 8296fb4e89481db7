use Rattle.std.proofs.Common.{◌+◌, ◌++◌, ◌∙◌, ap, arith, sym, false}
use Rattle.rice_code.proofs.Words.{word, fundamental_sequence, id_len, reference_bits, zeros_of_run, common_steps}
use Rattle.rice_code.proofs.lemmas.encode.OptionTexts.{word_flag_zero, append_flagged, run_text, run_cost}
use Rattle.rice_code.proofs.encode.options.put_run.Goals as goal

pub returns : goal.returns
returns c = grind (arith, common_steps, word_flag_zero, run_cost, append_flagged, run_text)
