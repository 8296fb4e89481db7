use Rattle.std.proofs.Common.{ℕ, ◌≡◌, ◌+◌, ◌/◌, ◌^◌, ◌∙◌, ap, arith, map, subst, sym}
use Rattle.rice_fast.specs.Parts.{IsFirstStop}
use Rattle.rice_fast.proofs.lemmas.encode.Stops.{begins, begins_in_bytes, high_cut, high_summed, stops_at_first, stops_at_price, stops_last, stops_later, summed}
use Rattle.rice_fast.proofs.encode.stops.first_stop.Goals.{then-two_pay, else-two_pay+then-one_pays, else-two_pay+else-one_pays}
use Rattle.rice_fast.proofs.encode.stops.first_stop.Goals as goal

pub high_parts-high-requires-clause-small : goal.high_parts-high-requires-clause-small
high_parts-high-requires-clause-small g c =
    let ds = c.args.items.now in
    let r = c.requires in
    begins_in_bytes ds r.few r.price.0 r.small (begins ds r.long c.min-first.ensures r.whole c.digits_above.ensures.below c.digits_above.ensures.above)

pub returns-then-sum-price-clause-stop : goal.returns-then-sum-price-clause-stop
returns-then-sum-price-clause-stop g c =
    let ds = c.args.items.now in
    let at = begins ds c.requires.long c.min-first.ensures c.requires.whole c.digits_above.ensures.below c.digits_above.ensures.above in
    stops_at_price ds at (high_summed ds c.min-first.result c.high_parts-high.ensures c.sum_shifted-sum.ensures.value) c.if-sum-price.true

pub returns-clause-stop : goal.returns-clause-stop
returns-clause-stop g c =
    let ds = c.args.items.now in
    let r = c.requires in
    let first = c.min-first.result in
    let at = begins ds r.long c.min-first.ensures r.whole c.digits_above.ensures.below c.digits_above.ensures.above in
    let sums = summed ds first c.high_parts-high.ensures c.sum_shifted-sum.ensures.value c.sum_shifted-next.ensures.value c.sum_shifted-last.ensures.value in
    let P : ℕ × ℕ → Type 0 = λ v. IsFirstStop ds c.args.limit c.args.price (first + v.0) v.1 in
    let here : first ≡ first + 0 = omega arith in
    elim c.if-two_pay.branch [
      | then-two_pay w ↦ subst P (sym w.more-is) (stops_last ds r.price.1 at sums w.if-two_pay.true)
      | else-two_pay+then-one_pays w ↦ subst P (sym w.more-is) (stops_later ds at sums w.if-one_pays.true w.if-two_pay.false)
      | else-two_pay+else-one_pays w ↦
          subst P (sym w.more-is) (subst (λ n. IsFirstStop ds c.args.limit c.args.price n c.sum_shifted-sum.result) here (stops_at_first ds at sums w.if-one_pays.false))
    ]

pub returns-clause-high : goal.returns-clause-high
returns-clause-high g c = c.shifted.ensures ∙ (ap (map (λ m. m / 2 ^ c.if-two_pay.more.0)) c.high_parts-high.ensures ∙ high_cut c.min-first.result c.if-two_pay.more.0 c.args.items.now)
