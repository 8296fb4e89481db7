use Rattle.std.proofs.Common.{arith, rules, w64, FitsSigned, ◌∙◌, ◌^◌, ◌<◌, ap, sym, subst, length}
use Rattle.rice_stream.proofs.Words.{to_z-of_z, word}
use Rattle.rice_stream.proofs.lemmas.{EncodingLemmas.nothing_held, EncodingLemmas.sink_short, EncodingLemmas.standing_of, Seams.seam_of}
use Rattle.rice_stream.proofs.encoding.Encoding.seam.Goals as goal

pub take_waiting_number-waiting-requires : goal.take_waiting_number-waiting-requires
take_waiting_number-waiting-requires g c =
    let v = c.requires.0 in
    let h = c.requires.6 in
    let ahead = g.met.C.TakesBytes.between _ _ _ (standing_of v) c.requires.1.standing (nothing_held h.counts c.requires.7) in
    omega (arith, sink_short c.requires.2 c.requires.3 c.requires.4 v c.requires.5 h, ap length ahead.0)

pub returns : goal.returns
returns g c v s old now xs sees h all limit =
    let e = c.args.self.now in
    let ahead = g.met.C.TakesBytes.between e.coder e.sink e.meter (standing_of v) sees.standing (nothing_held h.counts all) in
    let len = ap length ahead.0 in
    let fits : FitsSigned w64 c.previous.result = search rules in
    let digits = c.take_waiting_number-waiting.ensures.digits in
    seam_of h all limit (record {
      samples = sym sees.samples;
      bits = sym sees.bits;
      steps = c.steps.ensures.value ∙ sym ahead.1;
      previous = to_z-of_z w64 c.previous.result fits ∙ c.previous.ensures e.sink e.meter (standing_of v) sees.standing;
      start = c.start.ensures e.sink e.meter (standing_of v) sees.standing;
      waiting_bits = c.len-waiting_bits.ensures.value ∙ sym len;
      waiting = ap (λ n. word n c.take_waiting_number-waiting.result) len ∙ digits ∙ sym ahead.0;
      fits = subst (λ n. c.take_waiting_number-waiting.result < 2 ^ n) (sym len) c.take_waiting_number-waiting.ensures.fits;
    }) (omega (arith, sink_short s old now v xs h))
