use Rattle.std.proofs.Common.{arith, ◌≡◌, ◌<◌, ◌∙◌, Bool, List, length, subst, sym, true, false}
use Rattle.rice_code.proofs.Words.{IfErr-weaker, IfOk-weaker, Stops, err_from_is_err_and, CountRow, ones, PartsCut, PartsRead, common_steps}
use Rattle.rice_code.proofs.lemmas.decode.OptionsRead.{counts_read, parts_read, parts_cut_high, parts_cut_low}
use Rattle.rice_code.proofs.decode.high_and_low_parts.read_parts.Goals as goal

pub returns-then-k-eq0-clause-ok : goal.returns-then-k-eq0-clause-ok
returns-then-k-eq0-clause-ok g c = grind (arith, common_steps, IfOk-weaker, counts_read)

pub returns-then-k-eq0-clause-err : goal.returns-then-k-eq0-clause-err
returns-then-k-eq0-clause-err g c = grind (arith, common_steps, IfErr-weaker, parts_cut_high)

pub returns-in_err-small-clause-err : goal.returns-in_err-small-clause-err
returns-in_err-small-clause-err g c = grind (arith, common_steps, err_from_is_err_and, parts_cut_high)

pub returns-in_err-read_words-clause-err : goal.returns-in_err-read_words-clause-err
returns-in_err-read_words-clause-err g c = grind (arith, common_steps, err_from_is_err_and, parts_cut_low)

pub returns-then-small-clause-ok : goal.returns-then-small-clause-ok
returns-then-small-clause-ok g c = grind (arith, common_steps, parts_read)

pub returns-else-small-clause-ok : goal.returns-else-small-clause-ok
returns-else-small-clause-ok g c = grind (arith, common_steps, parts_read)
