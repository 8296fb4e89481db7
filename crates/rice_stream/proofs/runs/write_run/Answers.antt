use Rattle.std.proofs.Common.{◌≡◌, ◌≤◌, ◌*◌, ◌∙◌, ap, arith, replicate, w64, to_z, of_z, to_z-of_z}
use Rattle.rice_stream.proofs.Words.{spellings}
use Rattle.rice_stream.proofs.lemmas.RunsWritten.{run_cut}
use Rattle.rice_stream.proofs.runs.write_run.Goals as goal

pub slice_bounds-spelled-end : goal.slice_bounds-spelled-end
slice_bounds-spelled-end g c =
    let e : c.width-width.result * (c.block-block.result * c.blocks_at_once-blocks.result) ≤ 320 =
    (let w = c.width-width.ensures.value in let b = c.block-block.ensures.value in rw (w, b) (let r = c.blocks_at_once-blocks.ensures.room in omega (arith, r))) in
    omega (arith, e)

pub returns-in-Err-clause-err : goal.returns-in-Err-clause-err
returns-in-Err-clause-err g c =
    let p = c.args.decoder.now in
    let s = c.args.setting.now in
    let z = c.before-sample.result in
    let same : to_z w64 (of_z w64 z) ≡ p.before = to_z-of_z {w = w64} {z = z} (record { sfits = c.before-sample.type_inv }) ∙ c.before-sample.ensures in
    let blocks = c.blocks_at_once-blocks in
    let width = c.width-width.ensures in
    let block = c.block-block.ensures in
    let spelled = c.spell_copies_of_sample.ensures ∙ ap (λ x. spellings s (replicate (c.block-block.result * blocks.result) x)) same in
    let taken = c.in-Err.ensures.err in
    run_cut blocks.result c.pass_blocks_of_run.new.self
    (record {
      block = omega (arith, block.value, block.range);
      width_some = omega (arith, width.value, width.range);
      width_is = width.value;
      block_is = block.value;
    }) c.pass_blocks_of_run.ensures.gives c.pass_blocks_of_run.ensures.run blocks.ensures.wanted spelled taken.0 taken.1
