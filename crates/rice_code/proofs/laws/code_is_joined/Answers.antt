use Rattle.std.proofs.Common.{◌+◌, length}
use Rattle.rice_code.proofs.{lemmas.code.Layouts.laid_plain, Words.block_count, Words.sets_of}
use Rattle.rice_code.proofs.laws.code_is_joined.Goals as goal

pub returns : goal.returns
returns c = λ s e xs. laid_plain s (0 + block_count s (length xs)) 0 0 (sets_of s xs) e
