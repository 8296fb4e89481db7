use Rattle.rice_code.proofs.laws.decoded_is_one.Goals as goal
use Rattle.rice_code.proofs.lemmas.meaning.DecodedInOneWay as determined

pub returns : goal.returns
returns c s legal b position t sample bits asked xs ys p q m n h k = determined.decoded_is_one legal sample h k
