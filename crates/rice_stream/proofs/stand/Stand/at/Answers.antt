use Rattle.rice_stream.proofs.Words.{arith, refl, [], mod-eq_of_lt, zero_is_sample}
use Rattle.rice_stream.proofs.lemmas.{DecodedSamples.decoded_nothing, SetsRead.sets-none}
use Rattle.rice_stream.proofs.stand.Stand.at.Goals as goal

pub returns : goal.returns
returns c =
    let s = c.args.setting.now in
    let legal = c.block-block.ensures.legal in
    record {
      state = record {
        legal = legal;
        within = legal.interval_from;
        sample = zero_is_sample s legal.bits_from;
        run_begun = λ lt. absurd (omega arith);
        run_fits = λ lt. absurd (omega arith);
        no_block = λ e. absurd (cc);
      };
      begins = c.requires.padded;
      early = c.requires.samples;
      blocks = 0;
      begun = 0;
      before = omega arith;
      sets = [];
      has_sets = sets-none s;
      decoded = decoded_nothing s;
      here = mod-eq_of_lt legal.interval_from;
      previous = refl;
      samples = omega arith;
      bits = omega arith;
      steps = record { count = omega arith; most = omega arith; by_bits = omega arith };
      limit = omega (arith, c.requires.limit);
    }
