use Rattle.std.proofs.Common.{arith}
use Rattle.rice_fast.proofs.lemmas.ahead.EightWordsLemmas.{bytes-picked, places_are_ok}
use Rattle.rice_fast.proofs.ahead.words.bytes_at_places.Goals as goal

pub swizzle : goal.swizzle
swizzle c = places_are_ok c.args.places c.fits-places.0 c.requires

pub returns : goal.returns
returns c = bytes-picked c.args.bytes 0 c.args.places (omega (arith, c.fits-places.0)) c.requires
