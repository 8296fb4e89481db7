use Rattle.std.proofs.lemmas.Grind.{common_steps}
use Rattle.std.proofs.Common.{arith, ◌≡◌, ◌∙◌, ap, true}
use Rattle.rice_code.proofs.lemmas.decode.DecoderLemmas.{inside_interval, passes_blocks}
use Rattle.rice_code.proofs.decode.decoder.Decoder.pass_blocks_of_run.Goals as goal

pub place_of_block_after-next-requires-clause-within : goal.place_of_block_after-next-requires-clause-within
place_of_block_after-next-requires-clause-within c = grind (arith, common_steps, inside_interval)

pub invariant_of-self : goal.invariant_of-self
invariant_of-self c =
    let st = c.self.inside in
    let run : st.run ≡ c.args.self.now.run = ap (λ p. p.run) c.self.view_is in
    let preprocess : st.setting.preprocess ≡ true = ap (λ p. p.setting.preprocess) c.self.view_is ∙ c.requires.preprocess in
    (passes_blocks c.args.count c.self.invariant (omega (arith, run, c.requires.run)) preprocess c.place_of_block_after-next.ensures).state

pub returns-clause-gives : goal.returns-clause-gives
returns-clause-gives c = grind (arith, common_steps, passes_blocks)
