use Rattle.std.proofs.Common.{◌≡◌, ℕ, ◌+◌, ◌-◌, ◌*◌, ◌/◌, ◌≤◌, ◌∙◌, arith, inl, inr, length, max, w64, to_z, of_z, to_z-of_z}
use Rattle.rice_stream.proofs.Words.{cases_lt, common_steps, mul-le-mul_left, mul-le-mul_right, stand_at}
use Rattle.rice_stream.proofs.lemmas.PulledRuns.{run_written}
use Rattle.rice_stream.proofs.pulled_runs.write_next_of_run.Goals as goal

-- samples of whole blocks that fit, whatever their width, have room
blocks_fit : (w n block at len : ℕ) {fit : ℕ} → w ≤ 4 → n ≤ fit → fit ≡ max ((len - at) / 4) block → at + w * block ≤ len → at + w * n ≤ len
blocks_fit w n block at len {fit} few within is room = elim (cases_lt block ((len - at) / 4)) [
  | inl lt ↦ let le : w * n ≤ 4 * n = mul-le-mul_right n few in omega (arith, le, within, is, lt, room)
  | inr ge ↦ let le : w * n ≤ w * block = mul-le-mul_left w (omega (arith, within, is, ge)) in omega (arith, le, room)
]

pub slice_bounds-spell_copies_of_sample-end : goal.slice_bounds-spell_copies_of_sample-end
slice_bounds-spell_copies_of_sample-end c =
    let s = c.args.setting.now in
    let fits : c.max-fit.result ≡ max ((length c.args.samples.now - c.args.at) / 4) c.block-block.result = omega (arith, c.max-fit.ensures) in
    let n : c.block-block.result * c.blocks_at_once-blocks.result ≤ c.max-fit.result =
    (let b = c.block-block.ensures.value in let wanted = c.blocks_at_once-blocks.ensures.wanted in rw b (omega (arith, wanted))) in
    let room : c.args.at + c.width-width.result * c.block-block.result ≤ length c.args.samples.now =
    (let w = c.width-width.ensures.value in let b = c.block-block.ensures.value in rw (w, b) c.requires.room) in
    blocks_fit _ _ c.block-block.result _ (length c.args.samples.now) (omega (arith, c.width-width.ensures.range)) n fits room

pub returns-clause-gives : goal.returns-clause-gives
returns-clause-gives c =
    let stand = c.args.stand.now in
    let know = c.requires.come.stand in
    let r = c.args.reader.now in
    let p = c.args.decoder.now in
    let q = c.pass_blocks_of_run.new.self in
    let z = c.before-sample.result in
    let blocks = c.blocks_at_once-blocks in
    let n = c.block-block.result * blocks.result in
    let same : to_z w64 (of_z w64 z) ≡ p.before = to_z-of_z {w = w64} {z = z} (record { sfits = c.before-sample.type_inv }) ∙ c.before-sample.ensures in
    let taken : r.taken - c.taken.result ≡ r.taken - r.taken = omega (arith, c.taken.ensures.value) in
    let steps : c.tick-2.new.self ≡ stand.steps + n = omega (arith, c.tick-2.ensures, c.tick.ensures, c.new-meter.ensures) in
    run_written know.3 c.requires.come.reads c.requires.come.state c.pass_blocks_of_run.ensures.gives (record {
      width_is = c.width-width.ensures.value;
      block_is = c.block-block.ensures.value;
      width_some = omega (arith, c.width-width.ensures.range);
      block_some = omega (arith, c.block-block.ensures.range);
      some = blocks.ensures.some;
    }) (c.stand_after-stand.ensures.numbers ∙ (λ i. stand_at (stand.samples + n) (stand.bits + taken i) (steps i) q)) same (grind (arith, common_steps, c.spell_copies_of_sample.ensures))
