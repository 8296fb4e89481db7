use Rattle.rice_bits.proofs.lemmas.read.WindowLemmas.{near-ahead}
use Rattle.rice_bits.proofs.read.window.Window.first_bits_ahead.Goals as goal

pub returns : goal.returns
returns c = near-ahead c.args.self.now c.at_least_57_bits_from.result c.requires c.at_least_57_bits_from.ensures
