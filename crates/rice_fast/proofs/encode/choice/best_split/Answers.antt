use Rattle.rice_fast.proofs.Words.{ℕ, ◌+◌, ◌∙◌, ap, arith, cut_sum, sum_halves, sum_stop_is_best, best_split_is, small_sum}
use Rattle.rice_fast.proofs.lemmas.encode.Stops.{last_split_is_small}
use Rattle.rice_fast.proofs.encode.choice.best_split.Goals as goal

pub first_stop-stop-requires-clause-small : goal.first_stop-stop-requires-clause-small
first_stop-stop-requires-clause-small g c =
    let same = c.items.ensures.value ∙ c.residuals.ensures in
    rw same (last_split_is_small c.args.setting.now c.args.block.now.residuals c.block-size.ensures.legal.bits_to c.k_max-limit.ensures.value c.requires.sound.fit)

pub returns-clause-best : goal.returns-clause-best
returns-clause-best g c =
    let same = c.items.ensures.value ∙ c.residuals.ensures in
    let stop = c.first_stop-stop.ensures.stop in
    let len = c.coded_len-coded.ensures.value in
    let sums = λ (k : ℕ). ap (λ ds. cut_sum ds k) same in
    let k = c.first_stop-stop.result.k in
    sum_stop_is_best c.args.setting.now c.args.block.now k c.requires.sound.zero (omega (arith, stop.limit, c.k_max-limit.ensures.value))
    (λ j lt. omega (arith, stop.falls j lt, len, sums j, sums (j + 1)))
    (λ lt. omega (arith, stop.stops (omega (arith, lt, c.k_max-limit.ensures.value)), len, sums k, sums (k + 1)))

pub returns-clause-named : goal.returns-clause-named
returns-clause-named g c = best_split_is c.args.setting.now c.args.block.now c.first_stop-stop.result.k (returns-clause-best g c)

pub returns-clause-small : goal.returns-clause-small
returns-clause-small g c = λ none.
    let same = c.items.ensures.value ∙ c.residuals.ensures in
    let ds = c.args.block.now.residuals in
    let k = c.first_stop-stop.result.k in
    let sums = λ (k : ℕ). ap (λ ds. cut_sum ds k) same in
    let here = ap (cut_sum ds) none in
    let next = ap (λ n. cut_sum ds (n + 1)) none in
    let stops = c.first_stop-stop.ensures.stop.stops (omega (arith, none, c.k_max-limit.ensures.range)) in
    small_sum ds (omega (arith, here, next, stops, sum_halves ds 0, c.coded_len-coded.ensures.limit, sums k, sums (k + 1)))
