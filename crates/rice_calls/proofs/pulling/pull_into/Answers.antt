use Rattle.rice_calls.proofs.Words.{arith, refl, ◌/◌, ◌∙◌, ap, status_number, pause_place}
use Rattle.rice_calls.proofs.lemmas.BytesOfPulledPiece.{bytes_fit, bytes_written, more_samples}
use Rattle.rice_calls.proofs.pulling.pull_into.Goals as goal

pub overflow_sub-report : goal.overflow_sub-report
overflow_sub-report g c =
    let know = c.requires in
    let d = c.decode_more-pause.ensures know.0 know.1 know.2 know.3 in
    let more = more_samples c.args.setting.now know.0 know.1 know.2 c.args.code.now c.args.drain.now.stand c.decode_more-pause.result.0 c.args.samples.now
    c.decode_more-pause.new.samples c.decode_more-pause.result.1 know.3 d in
    omega (arith, more)

pub overflow_mul-report : goal.overflow_mul-report
overflow_mul-report g c =
    let know = c.requires in
    let d = c.decode_more-pause.ensures know.0 know.1 know.2 know.3 in
    let fits = bytes_fit c.args.setting.now know.0 know.1 know.2 c.args.code.now c.args.drain.now.stand c.decode_more-pause.result.0 c.args.samples.now
    c.decode_more-pause.new.samples c.decode_more-pause.result.1 c.width.result c.width.ensures.value know.3 d in
    omega (arith, fits)

pub returns : goal.returns
returns g c = λ o front given h.
    let stand = c.decode_more-pause.result.0 in
    let pause = c.decode_more-pause.result.1 in
    let d = c.decode_more-pause.ensures o front given h in
    record {
      pause = pause;
      decodes = d;
      setting_is = refl;
      status_is = c.number.ensures ∙ ap status_number c.pause_status.ensures;
      counts = refl;
      written = bytes_written c.args.setting.now o front given c.args.code.now c.args.drain.now.stand stand c.args.samples.now c.decode_more-pause.new.samples
          pause c.width.result c.width.ensures.value h d;
      place = c.pause_place.ensures ∙ ap (λ n. pause_place pause (stand.samples / n)) c.block.ensures.value;
    }
