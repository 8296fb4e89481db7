use Rattle.rice_code.proofs.laws.decoding_depends_on_places_alone.Goals as goal
use Rattle.rice_code.proofs.lemmas.meaning.DecodingByPlacesAlone as places

pub returns : goal.returns
returns _ s legal b c m n p bits xs ending used e f h = places.decoding_stands legal p bits xs ending used e f h
