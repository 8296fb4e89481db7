use Rattle.std.proofs.Common.{arith, rules, ◌-◌, w64}
use Rattle.std.proofs.lemmas.{Grind.common_steps, Int.to_z-of_z}
use Rattle.rice_code.proofs.lemmas.decode.DecoderLemmas.{place_moves, goes_on}
use mir.Val.{SFits}
use Rattle.rice_code.proofs.decode.decoder.Decoder.next_block.Goals as goal

pub invariant_of-self : goal.invariant_of-self
invariant_of-self g c =
    let st = c.self.inside in
    let state = c.self.invariant in
    let last = c.restore_zero_block-self-inside in
    let f : SFits w64 last.result = search rules in
    rw (to_z-of_z w64 last.result f) (place_moves (st.run - 1) last.result st.stopped
    state.legal state.within c.place_of_block_after-self-inside.ensures last.ensures.sample
    (λ h. omega (arith, state.run_fits c.if-self-gt0.true)) state.no_block)

pub returns-then-self-gt0-clause-in_run : goal.returns-then-self-gt0-clause-in_run
returns-then-self-gt0-clause-in_run g c none pos = grind (arith, common_steps, to_z-of_z, goes_on)
