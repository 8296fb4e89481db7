use Rattle.std.proofs.Common.{arith, ◌≡◌, ◌+◌, ◌-◌, ◌*◌, ap, length, sym, take, ◌∙◌, subst, None}
use Rattle.rice_stream.proofs.Words.{Ok, Err, err_from_is_err_and, Parameters, width, spellings, DecoderState, IsDecoderState, Block, Done, Advances, GivesMore, stand_at, state_of, Stand}
use Rattle.rice_stream.proofs.lemmas.{DecodingLemmas.samples_of_block, PulledRuns.gives_one, PullingLemmas.Steps, PullingLemmas.done_next, PullingLemmas.stops_next}
use Rattle.rice_stream.proofs.pulling.give_next_block.Goals as goal

pub returns-in_err-bytes_of_next : goal.returns-in_err-bytes_of_next
returns-in_err-bytes_of_next c =
    let new = c.bytes_of_next.new in
    let says = c.in_err-bytes_of_next.ensures.gives in
    let r = err_from_is_err_and c.from_residual.result c.from_residual.ensures.1 in
    rw (r.1, r.2) (record {
      samples = says.samples;
      goes_on = tt;
      takes = λ o front given h. stops_next c.args.setting.now o front given c.requires.come.reads
          (subst (λ (d : DecoderState). Advances c.args.reader.now new.reader c.tick.new.self new.meter d new.decoder says.samples
          (Err c.in_err-bytes_of_next.field-0.0)) c.requires.come.state says.advances);
    })

pub returns-in-Done : goal.returns-in-Done
returns-in-Done c =
    let new = c.bytes_of_next.new in
    let says = c.in_ok-bytes_of_next.ensures.gives in
    let a = subst (λ t. Advances c.args.reader.now new.reader c.tick.new.self new.meter c.args.decoder.now new.decoder says.samples (Ok t))
    c.in-Done.is says.advances in
    record {
      samples = says.samples;
      goes_on = tt;
      takes = λ o front given h. done_next c.args.setting.now o front given c.requires.come.reads
          (subst (λ (d : DecoderState). Advances c.args.reader.now new.reader c.tick.new.self new.meter d new.decoder says.samples (Ok Done)) c.requires.come.state a);
    }

pub returns : goal.returns
returns c =
    let s = c.args.setting.now in
    let stand = c.args.stand.now in
    let old = c.args.reader.now in
    let new = c.bytes_of_next.new.reader in
    let p = c.args.decoder.now in
    let q = c.bytes_of_next.new.decoder in
    let meter = c.bytes_of_next.new.meter in
    let bytes = c.bytes_of_next.new.bytes in
    let says = c.in_ok-bytes_of_next.ensures.gives in
    let know = c.requires.come.stand in
    let setting_old : p.setting ≡ s = ap (λ (d : DecoderState). d.setting) c.requires.come.state in
    let going : p.stopped ≡ None = ap (λ (d : DecoderState). d.stopped) c.requires.come.state in
    let next = stand_at (stand.samples + c.block-size.result) (stand.bits + (new.taken - c.taken-before.result)) c.tick-2.new.self q in
    let setting : q.setting ≡ s = says.setting ∙ setting_old in
    let stopped : q.stopped ≡ None = c.in_ok-bytes_of_next.ensures.block (ap Ok c.in-Block.is) in
    let same : q ≡ state_of s next = (λ i. record { setting = setting i; block = q.block; before = q.before; run = q.run; stopped = stopped i }) in
    let a = subst (λ t. Advances old new c.tick.new.self meter p q says.samples (Ok t)) c.in-Block.is says.advances in
    let block = samples_of_block s setting_old going a in
    let at_stand = subst (λ (d : DecoderState). Advances old new c.tick.new.self meter d q says.samples (Ok Block)) c.requires.come.state a in
    let old_run : p.run * p.setting.block ≡ stand.run * s.block = ap (λ (d : DecoderState). d.run * d.setting.block) c.requires.come.state in
    let new_run : q.run * q.setting.block ≡ q.run * s.block = ap (λ (d : DecoderState). d.run * d.setting.block) same in
    let steps : Steps s stand next old new c.tick.new.self meter says.samples = record {
      state = subst (λ (d : DecoderState). IsDecoderState d.setting d.block d.before d.run d.stopped) same c.stand_after-next.ensures.state;
      advances = subst (λ (d : DecoderState). Advances old new c.tick.new.self meter (state_of s stand) d says.samples (Ok Block)) same at_stand;
      counted = says.counted;
      few = omega (arith, says.by_bits, old_run, new_run);
      reads = c.requires.come.reads;
      aligned = c.requires.come.aligned;
      samples = omega (arith, c.block-size.ensures.value);
      bits = omega (arith, c.taken-before.ensures.value);
      steps_old = omega (arith, c.tick.ensures, c.new-meter.ensures);
      steps_are = omega (arith, c.tick-2.ensures, c.block-size.ensures.value);
    } in
    let given = subst (λ (t : Stand). GivesMore s stand t q old new says.samples) (sym c.stand_after-next.ensures.numbers) (gives_one know.0 know.1 know.2 know.3 same steps) in
    let spelled = subst (λ (t : Parameters). take (width t * length says.samples) bytes ≡ spellings t says.samples) setting_old (says.spelled (ap Ok c.in-Block.is)) in
    record { samples = says.samples; goes_on = (given.goes_on, block.len, ap (λ n. take (width s * n) bytes) (sym block.len) ∙ spelled); takes = given.gives }
