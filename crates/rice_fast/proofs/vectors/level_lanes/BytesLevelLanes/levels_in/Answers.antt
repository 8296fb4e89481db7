use Rattle.rice_fast.proofs.Words.{◌*◌, ◌∙◌, ap, arith, map-id, sym}
use Rattle.rice_fast.proofs.lemmas.vectors.{LevelsInLanes.single_bytes, LevelsSpelledInByteLanes.one_byte}
use Rattle.rice_fast.proofs.vectors.level_lanes.BytesLevelLanes.levels_in.Goals as goal

pub read-requires : goal.read-requires
read-requires c = c.requires.len ∙ ap (λ w. w * 16) (one_byte c.args.setting.now c.requires.bits.most)

pub levels_of_words-requires : goal.levels_of_words-requires
levels_of_words-requires c = record { width = sym (one_byte c.args.setting.now c.requires.bits.most); room = omega arith; fit = c.read.result.fits }

pub returns : goal.returns
returns c = sym (c.levels_of_words.ensures ∙ (single_bytes c.args.setting.now.msb c.read.result.lanes c.read.result.fits ∙ (c.read.ensures ∙ map-id c.args.bytes.now)))
