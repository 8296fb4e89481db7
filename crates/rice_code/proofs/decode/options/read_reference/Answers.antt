use Rattle.rice_bits.proofs.lemmas.read.ReaderLemmas.{takes-none}
use Rattle.rice_code.proofs.decode.options.read_reference.Goals as goal

pub returns-then-not-is_reference-clause-ok : goal.returns-then-not-is_reference-clause-ok
returns-then-not-is_reference-clause-ok g c = takes-none c.args.reader.now c.requires.ready.going
