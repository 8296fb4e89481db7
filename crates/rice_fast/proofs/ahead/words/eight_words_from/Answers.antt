use Rattle.std.proofs.Common.{◌*◌, ◌/◌, ◌%◌, ◌∙◌, arith, drop, take}
use Rattle.rice_fast.proofs.lemmas.ahead.WordsInBytes.{eight_words, loaded_below, places_are, places_inside, sixteen_loaded, words-loaded}
use Rattle.rice_fast.proofs.ahead.words.eight_words_from.Goals as goal

pub bytes_at_places-held-requires : goal.bytes_at_places-held-requires
bytes_at_places-held-requires c =
    rw (places_are c.args.width (c.args.at % 8) c.requires.width (omega arith)) (places_inside 2 c.args.width (c.args.at % 8) 0 8 (omega arith) (omega (arith, c.requires.width)))

pub returns-clause-fit : goal.returns-clause-fit
returns-clause-fit c = (eight_words (take 16 (drop (c.args.at / 8) c.args.bytes.now)) c.bytes_at_places-held.result c.args.width (c.args.at % 8)
    (sixteen_loaded c.args.bytes.now (c.args.at / 8) c.requires.room) (loaded_below c.args.bytes.now (c.args.at / 8) c.type_inv.bytes) c.requires.width (omega arith)
    c.bytes_at_places-held.ensures).fit

pub returns-clause-bits : goal.returns-clause-bits
returns-clause-bits c =
    (eight_words (take 16 (drop (c.args.at / 8) c.args.bytes.now)) c.bytes_at_places-held.result c.args.width (c.args.at % 8)
    (sixteen_loaded c.args.bytes.now (c.args.at / 8) c.requires.room) (loaded_below c.args.bytes.now (c.args.at / 8) c.type_inv.bytes) c.requires.width (omega arith)
    c.bytes_at_places-held.ensures).bits
    ∙ words-loaded c.args.bytes.now c.args.at (8 * c.args.width) c.requires.room (omega (arith, c.requires.width))
