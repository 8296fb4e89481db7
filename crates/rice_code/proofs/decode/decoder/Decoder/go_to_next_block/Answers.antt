use Rattle.std.proofs.Common.{arith, w64}
use Rattle.rice_code.proofs.{lemmas.decode.DecoderLemmas.place_moves, Words.common_steps, Words.to_z-of_z}
use Rattle.rice_code.proofs.decode.decoder.Decoder.go_to_next_block.Goals as goal

pub invariant_of-self : goal.invariant_of-self
invariant_of-self g c =
    let st = c.self.inside in
    let state = c.self.invariant in
    let sample = rw (← c.self.view_is) at c.requires.last in
    rw (to_z-of_z w64 c.args.last c.ranges.last) (place_moves c.args.run c.args.last st.stopped
    state.legal state.within c.place_of_block_after-self-inside.ensures sample (rw (← c.self.view_is) at c.requires.run) state.no_block)
