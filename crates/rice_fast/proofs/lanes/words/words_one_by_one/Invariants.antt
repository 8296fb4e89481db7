use Rattle.std.proofs.Common.{◌≡◌, length, drop}
use Rattle.rice_fast.proofs.lemmas.WordsOneByOne.{AreWords}
use Rattle.rice_fast.proofs.lanes.words.words_one_by_one.Given as goal

abbrev pub invariant-loop-i : goal.invariant-loop-i
invariant-loop-i l = record { words : AreWords (drop l.skip l.ahead) l.width l.i l.words; long : length l.words ≡ 8 }
