use Rattle.rice_fast.proofs.Words.{◌∙◌, ap, drop, sym, flat_map, word}
use Rattle.rice_code.proofs.lemmas.encode.OptionTexts.{no_digits}
use Rattle.rice_fast.proofs.lemmas.encode.AddedBits.{none_added, same_added}
use Rattle.rice_fast.proofs.encode.low_parts.put_low.Goals as goal

pub returns-then-width-eq0 : goal.returns-then-width-eq0
returns-then-width-eq0 c =
    let ds = drop c.args.from c.args.items.now in
    same_added (sym (ap (λ w. flat_map (word w) ds) c.if-width-eq0.true ∙ no_digits ds)) none_added
