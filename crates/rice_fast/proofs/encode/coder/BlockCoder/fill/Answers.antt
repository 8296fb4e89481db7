use Rattle.rice_fast.proofs.Words.{◌≡◌, ◌-◌, ◌∙◌, ◌++◌, ◌∷◌, [], ap, arith, refl, replicate, rules, subst, sym, w64, FitsSigned, to_z-of_z, StandsAfter, replicate_more}
use Rattle.rice_fast.proofs.lemmas.{encode.EndedSegments.fill_for, encode.EndedSegments.fill_for_none, encode.StandingCoders.after_none, encode.StandingCoders.step_for_one}
use Rattle.rice_fast.proofs.encode.coder.BlockCoder.fill.Goals as goal

pub returns-then-self-eq0-clause-stands : goal.returns-then-self-eq0-clause-stands
returns-then-self-eq0-clause-stands c m h room =
    let none = fill_for_none h c.if-self-eq0.true in
    subst (λ n. StandsAfter c.args.self.now c.args.sink.now c.args.meter.now m (replicate n m.coder.previous)) (sym none) (after_none h)

pub loop-i-init : goal.loop-i-init
loop-i-init c = record { stands = λ m h. after_none h; setting = refl; end = refl; held = omega arith; blocks = refl }

pub hold-requires-clause-meter : goal.hold-requires-clause-meter
hold-requires-clause-meter c =
    let inv = c.loop-i.invariant in
    step_for_one (inv.stands c.requires.0 c.requires.1) c.requires.2 (search rules) (search rules)

pub loop-i-preserved : goal.loop-i-preserved
loop-i-preserved c =
    let inv = c.loop-i.invariant in
    let x = c.previous-x.result in
    let fits : FitsSigned w64 x = search rules in
    record {
      stands = λ m h.
          let held = c.hold.ensures.stands c.args.sink.now m (replicate c.loop-i.i m.coder.previous) (inv.stands m h) in
          let same = to_z-of_z w64 x fits ∙ c.previous-x.ensures.value c.args.sink.now c.args.meter.now m h in
          let all = ap (λ v. replicate c.loop-i.i m.coder.previous ++ v ∷ []) same ∙ replicate_more c.loop-i.i m.coder.previous in
          subst (StandsAfter c.hold.new.self c.args.sink.now c.hold.new.meter m) all held;
      setting = c.hold.ensures.setting ∙ inv.setting;
      end = c.hold.ensures.end ∙ inv.end;
      held = omega (arith, c.hold.ensures.held, inv.held);
      blocks = c.hold.ensures.blocks ∙ inv.blocks;
    }

pub put_part-requires-clause-stands : goal.put_part-requires-clause-stands
put_part-requires-clause-stands c = (c.requires.0, _, c.loop-i.invariant.stands c.requires.0 c.requires.1, c.requires.2)

pub returns-clause-stands : goal.returns-clause-stands
returns-clause-stands c m h room =
    let put = c.put_part.ensures.stands m (replicate c.loop-i.i m.coder.previous) (c.loop-i.invariant.stands m h) room in
    let fill = fill_for h (omega arith) in
    let count : c.loop-i.i ≡ c.args.self.now.setting.block - c.args.self.now.held = omega (arith, c.block.ensures.value) in
    subst (λ n. StandsAfter c.put_part.new.self c.put_part.new.sink c.put_part.new.meter m (replicate n m.coder.previous)) (count ∙ sym fill) put
