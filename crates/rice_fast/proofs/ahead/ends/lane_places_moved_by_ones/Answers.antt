use Rattle.rice_fast.proofs.Words.{◌≡◌, ◌+◌, ◌-◌, ◌*◌, ◌∙◌, ap, arith, drop, take, take-take, SLIDE}
use Rattle.rice_fast.proofs.lemmas.ahead.EndsInLanes.{slide_places}
use Rattle.rice_fast.proofs.ahead.ends.lane_places_moved_by_ones.Goals as goal

pub returns : goal.returns
returns c =
    let at = 48 - 8 * c.args.place + c.args.zeros in
    let count = 8 * c.args.place - c.args.zeros in
    let same : at ≡ 48 - count = omega (arith, c.requires.place, c.requires.zeros) in
    take-take 16 (64 - at) (drop at SLIDE) (omega (arith, c.requires.place, c.requires.zeros)) ∙ (ap (λ n. take 16 (drop n SLIDE)) same ∙ slide_places count (omega (arith, c.requires.place)))
