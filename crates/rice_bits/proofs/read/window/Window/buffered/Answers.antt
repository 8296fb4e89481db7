use Rattle.std.proofs.Common.{sym}
use Rattle.rice_bits.proofs.lemmas.read.WindowLemmas.{length-window}
use Rattle.rice_bits.proofs.read.window.Window.buffered.Goals as goal

pub returns-clause-value : goal.returns-clause-value
returns-clause-value c = sym (length-window c.args.self.now c.requires)
