use Rattle.rice_fast.proofs.Words.{◌≡◌, ◌∙◌, ap, arith, rules, subst, sym, SFits, w64, to_z-of_z, IsSample, level, value_at, value_of_level, place_after}
use Rattle.rice_fast.proofs.lemmas.BlocksTaken.{bytes_given, spelled_at, spelled_buffered}
use Rattle.rice_fast.proofs.one_pass.pass.Goals as goal

pub returns-clause-some : goal.returns-clause-some
returns-clause-some g c _ =
    let p = c.args.decoder.now in
    let s = c.args.setting.now in
    let block = c.block-block.ensures in
    let found = c.in-Some.spelled in
    let before : SFits w64 c.before-2.result = search rules in
    let f : SFits w64 c.value_at-last.result = search rules in
    let level_is = rw (to_z-of_z w64 c.before-2.result before) at c.level-before.ensures.value in
    let sample = subst (λ t. IsSample t p.before) c.requires.setting block.state.sample in
    let same : value_at s c.level-before.result ≡ p.before = ap (value_at s) level_is ∙ (ap (λ x. value_at s (level s x)) c.before-2.ensures ∙ value_of_level s p.before sample) in
    let spelled = spelled_at p c.requires.setting block.place same (spelled_buffered c.ahead.ensures.bits (omega (arith, c.in-Some.ensures.within, c.buffered.ensures)) c.in-Some.ensures.some) in
    let last : c.value_at-last.result ≡ value_at p.setting found.last = c.value_at-last.ensures.value ∙ ap (λ t. value_at t found.last) (sym c.requires.setting) in
    let moves = rw (to_z-of_z w64 c.value_at-last.result f) at c.go_to_next_block-answer.ensures.moves in (
      omega (arith, c.if-run-gt0.false, c.run.ensures),
      bytes_given block.state.legal spelled (record {
        bits = c.pass.ensures.takes;
        steps_are = omega (arith, c.pass.ensures.steps, c.tick.ensures);
        filled = c.go_to_next_block-answer.ensures.skips;
        counted = c.go_to_next_block-answer.ensures.steps;
        further = omega (arith, c.go_to_next_block-answer.ensures.few);
      }) (moves ∙ (λ j. record { setting = p.setting; block = place_after p.setting p.block 1; before = last j; run = 0; stopped = p.stopped })),
    )
