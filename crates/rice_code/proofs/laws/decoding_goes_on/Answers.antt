use Rattle.rice_code.proofs.laws.decoding_goes_on.Goals as goal
use Rattle.rice_code.proofs.lemmas.meaning.DecodingGoesOn as decoding

pub returns : goal.returns
returns c s legal b position p d skipped rest asked xs ys ending used set made pads next =
    decoding.decoding_goes_on legal d skipped xs set pads made next
