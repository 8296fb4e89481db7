use Rattle.std.proofs.Common.{◌≡◌, ◌+◌, ◌*◌, ◌/◌, ◌^◌, ◌<◌, ◌∙◌, ap, arith, subst, sym, ℕ}
use Rattle.rice_code.proofs.Words.{CoderState, HasRoomForSegment, HoldsSoundBlocks, blocks_held, block_bound, AreSoundBlocks, held_blocks, coding_steps, k_max, common_steps}
use Rattle.rice_code.proofs.lemmas.encode.OpenSegments.{few_bits, few_blocks, codes_held, room_after, segment_meter}
use Rattle.rice_code.proofs.encode.open_segment.OpenSegment.code.Goals as goal

pub code_blocks-requires : goal.code_blocks-requires
code_blocks-requires c =
    let i = c.self.inside in
    let s = i.setting in
    let st : CoderState = record { setting = i.setting; residuals = i.residuals; reference = i.reference; previous = i.previous; start = i.start } in
    let n : (c.len.result / c.block.result) ≡ blocks_held st = (λ j. c.len.ensures.value j / c.block.ensures.value j) in
    let blocks : HoldsSoundBlocks st = subst HoldsSoundBlocks (sym c.self.view_is) c.requires.blocks in
    let meter : c.args.meter.now + coding_steps s < 2 ^ 62 = subst (λ (v : CoderState). c.args.meter.now + coding_steps v.setting < 2 ^ 62) (sym c.self.view_is) c.requires.meter in
    let bits = few_bits st (c.len.result / c.block.result) i.end n c.self.invariant blocks.sound in
    let few = (few_blocks st i.end c.self.invariant blocks.whole).1 in
    let after : HasRoomForSegment s c.args.sink.now = subst (λ (v : CoderState). HasRoomForSegment v.setting c.args.sink.now) (sym c.self.view_is) c.requires.room in
    let room = room_after s (c.len.result / c.block.result) c.args.sink.now c.self.invariant.legal (omega (arith, n, few)) after in
    let steps = segment_meter (c.len.result / c.block.result) (block_bound s) (s.block * (k_max s + 5)) c.args.meter.now _ (omega (arith, n, few)) bits meter in
    let count = (c.len.result / c.block.result) in
    let left = few_blocks st i.end c.self.invariant blocks.whole in
    grind (arith, common_steps)

pub returns : goal.returns
returns c =
    let i = c.self.inside in
    let st : CoderState = record { setting = i.setting; residuals = i.residuals; reference = i.reference; previous = i.previous; start = i.start } in
    let n : (c.len.result / c.block.result) ≡ blocks_held st = (λ j. c.len.ensures.value j / c.block.ensures.value j) in
    codes_held c.self.view_is n c.self.invariant c.requires.blocks c.code_blocks.ensures c.pad_interval.ensures
    (omega (arith, c.len-2.ensures.value, c.len-before.ensures.value))
