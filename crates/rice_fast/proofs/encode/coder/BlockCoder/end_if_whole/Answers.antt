use Rattle.rice_fast.proofs.Words.{ℕ, ◌≤◌, arith, rules, subst, sym, StandsFor, coder_between, BlockCoder}
use Rattle.rice_fast.proofs.lemmas.{encode.EndedSegments.pushes_segment, encode.StandingCoders.pushes_nothing}
use Rattle.rice_fast.proofs.encode.coder.BlockCoder.end_if_whole.Goals as goal

pub returns-then-self-clause-stands : goal.returns-then-self-clause-stands
returns-then-self-clause-stands c m xs h room =
    let one : 1 ≤ c.args.self.now.setting.block = grind (arith, h.stands.holds.opens.legal.block) in
    pushes_nothing h (omega (arith, one, c.requires.between)) (search rules)

pub returns-clause-stands : goal.returns-clause-stands
returns-clause-stands c m xs h room =
    let s = c.args.self.now.setting in
    let next = c.next_place-start.result in
    let pushed = pushes_segment h c.requires.between (search rules) (c.put_end-bits.ensures m xs h room) c.next_place-start.ensures.start in
    let P : BlockCoder → Type 0 = λ v. StandsFor v c.put_end-bits.new.sink c.put_end-bits.new.meter pushed.0 in
    let Q : ℕ → Type 0 = λ end. P (coder_between s next.0 end c.args.self.now.previous c.args.self.now.part) in
    (pushed.0, subst P (sym c.go_to.ensures) (subst Q (sym c.next_place-start.ensures.end) pushed.1), pushed.2)
