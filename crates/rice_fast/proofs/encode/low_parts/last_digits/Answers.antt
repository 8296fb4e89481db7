use Rattle.rice_fast.proofs.lemmas.encode.LowParts.{first_digits}
use Rattle.rice_fast.proofs.encode.low_parts.last_digits.Goals as goal

pub returns-clause-bits : goal.returns-clause-bits
returns-clause-bits c = first_digits c.args.width c.args.skipped c.args.value c.requires.skipped c.requires.width
