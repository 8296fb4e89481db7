use Rattle.std.proofs.Common.{refl}
use Rattle.rice_bits.proofs.lemmas.read.WindowLemmas.{marked-bits, passed_none}
use Rattle.rice_bits.proofs.read.window.Window.mark.Goals as goal

pub returns-clause-bits : goal.returns-clause-bits
returns-clause-bits c = marked-bits c.args.self.now c.args.self.now.at

pub returns-clause-passed : goal.returns-clause-passed
returns-clause-passed c = passed_none _ refl
