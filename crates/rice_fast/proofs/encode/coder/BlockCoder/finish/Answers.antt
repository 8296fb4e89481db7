use Rattle.rice_fast.proofs.Words.{ℕ, ◌≤◌, arith, pos, refl, subst, sym, [], IsLegal, IsSample, Parameters, zero_is_sample, none_taken, state_between, StandsFor, coder_between, BlockCoder}
use Rattle.rice_fast.proofs.lemmas.{encode.EndedSegments.finish_adds_all, encode.StandingCoders.begun_stands, encode.StandingCoders.setting_of}
use Rattle.rice_fast.proofs.encode.coder.BlockCoder.finish.Goals as goal

pub level_of_sample-self-requires : goal.level_of_sample-self-requires
level_of_sample-self-requires c =
    let legal = c.requires.1.holds.opens.legal in
    subst (λ (s : Parameters). IsSample s (pos 0)) (sym c.fill.ensures.setting) (zero_is_sample c.args.self.now.setting legal.bits_from)

pub returns-clause-adds : goal.returns-clause-adds
returns-clause-adds c m xs h room taken =
    let one : 1 ≤ c.args.self.now.setting.block = grind (arith, h.holds.opens.legal.block) in
    finish_adds_all c.args.self.now.setting (setting_of h) one (c.put_end-bits.ensures m _ (c.fill.ensures.stands m h room) room) taken

pub returns-clause-reset : goal.returns-clause-reset
returns-clause-reset c sink meter =
    let s = c.fill.new.self.setting in
    let legal : IsLegal s = subst IsLegal (sym c.fill.ensures.setting) c.requires.1.holds.opens.legal in
    let room = (c.fill.ensures.stands c.requires.0 c.requires.1 c.requires.2).room in
    let begun = begun_stands s 0 _ c.level_of_sample-self.result c.fill.new.self.part sink meter (pos 0) []
    (none_taken s legal) c.level_of_sample-self.ensures.value c.level_of_sample-self.ensures.below refl room in
    let P : BlockCoder → Type 0 = λ v. StandsFor v sink meter (record { coder = state_between s 0 (pos 0); sink = sink; meter = meter }) in
    let R : ℕ → Type 0 = λ end. P (coder_between s 0 end c.level_of_sample-self.result c.fill.new.self.part) in
    let Q : Parameters → Type 0 = λ v. StandsFor c.go_to.new.self sink meter (record { coder = state_between v 0 (pos 0); sink = sink; meter = meter }) in
    subst Q c.fill.ensures.setting (subst P (sym c.go_to.ensures) (subst R (sym c.blocks_left-end.ensures.value) begun))
