use Rattle.std.proofs.Common.{refl}
use Rattle.rice_bits.proofs.lemmas.read.WindowLemmas.{passed_none, window_empty}
use Rattle.rice_bits.proofs.read.window.Window.new.Goals as goal

pub returns-clause-bits : goal.returns-clause-bits
returns-clause-bits c = window_empty _ refl

pub returns-clause-passed : goal.returns-clause-passed
returns-clause-passed c = passed_none _ refl
