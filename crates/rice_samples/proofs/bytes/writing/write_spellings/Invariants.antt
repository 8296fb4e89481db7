use Rattle.std.proofs.Common.{◌≡◌, ◌*◌, take}
use Rattle.rice_samples.specs.{Spelling.spellings, Parameters.values_at}
use Rattle.rice_samples.proofs.bytes.writing.write_spellings.Given as goal

abbrev pub invariant-loop-i : goal.invariant-loop-i
invariant-loop-i l = take (l.width * l.i) l.bytes ≡ spellings l.setting (values_at l.setting (take l.i l.levels))
