use Rattle.rice_fast.proofs.Words.{◌≡◌, ◌+◌, ◌-◌, ◌*◌, ◌<◌, ◌∙◌, ◌++◌, ◌∷◌, [], drop, take, ap, arith, refl, rules, subst, sym, length-append, w64, FitsSigned, to_z-of_z, Parameters, IsSample, width}
use Rattle.rice_fast.proofs.Words.{Reads, spelling, StandsAfter}
use Rattle.rice_fast.proofs.lemmas.encode.StandingCoders.{after_none, for_open, pushes_nothing, step_for_one}
use Rattle.rice_fast.proofs.lemmas.{encode.EndedSegments.spelled_are_taken, encode.TakenBytes.no_spelling, encode.TakenBytes.reads_more, encode.TakenBytes.reads_none, encode.TakenBytes.reads_one}
use Rattle.rice_fast.proofs.encode.coder.BlockCoder.hold_some.Goals as goal

pub loop-i-init : goal.loop-i-init
loop-i-init c = record {
  stands = λ m h room. ([], refl, reads_none c.args.self.now.setting c.args.bytes.now (c.width-width.result * 0) (omega arith), after_none h);
  setting = refl;
  end = refl;
  held = omega arith;
  blocks = refl;
}

pub hold-requires-clause-inside : goal.hold-requires-clause-inside
hold-requires-clause-inside c = omega (arith, for_open c.requires.stands.1, c.loop-i.invariant.blocks, c.loop-i.invariant.end)

pub hold-requires-clause-meter : goal.hold-requires-clause-meter
hold-requires-clause-meter c =
    let given = c.requires.stands in
    let inv = c.loop-i.invariant in
    let less : c.loop-i.self.blocks < c.loop-i.self.end = omega (arith, for_open given.1, inv.blocks, inv.end) in
    let size = ap (λ (s : Parameters). s.block) inv.setting in
    step_for_one (inv.stands given.0 given.1 given.2).3 given.2 (omega (arith, inv.held, size, c.block-size.ensures.value)) less

pub returns-in-None-clause-takes : goal.returns-in-None-clause-takes
returns-in-None-clause-takes c m h room =
    let inv = c.loop-i.invariant in
    let less : c.loop-i.self.blocks < c.loop-i.self.end = omega (arith, for_open h, inv.blocks, inv.end) in
    let size = ap (λ (s : Parameters). s.block) inv.setting in
    let taken = inv.stands m h room in
    let pushed = pushes_nothing taken.3 (omega (arith, inv.held, size, c.block-size.ensures.value)) less in (
      pushed.0,
      pushed.1,
      spelled_are_taken c.args.self.now.setting c.args.bytes.now c.loop-i.i (c.width-width.result * c.loop-i.i) (sym inv.setting) taken.3.stands taken.1 taken.2
          (ap (λ w. w * c.loop-i.i) c.width-width.ensures.value) pushed.2,
    )

pub returns-in-None-clause-none : goal.returns-in-None-clause-none
returns-in-None-clause-none c some none x sample spells =
    let s = c.args.self.now.setting in
    let w = c.width-width in
    let at : width s * c.loop-i.i ≡ 0 = ap (λ n. width s * n) none ∙ (omega arith) in
    let own = ap (λ (v : Parameters). v) c.loop-i.invariant.setting in
    no_spelling s w.result c.loop-i.i c.args.bytes.now w.ensures.value
    (λ y legal e. c.in-None.ensures.none y (subst (λ (v : Parameters). IsSample v y) (sym own) legal) (e ∙ ap (λ (v : Parameters). spelling v y) (sym own))) x sample
    (ap (λ n. take (width s) (drop n c.args.bytes.now)) at ∙ spells)

pub loop-i-preserved : goal.loop-i-preserved
loop-i-preserved c =
    let inv = c.loop-i.invariant in
    let s = c.args.self.now.setting in
    let w = c.width-width.result in
    let i = c.loop-i.i in
    let x = c.in-Some.x in
    let fits : FitsSigned w64 x = search rules in
    let same = to_z-of_z w64 x fits in
    let spelled = c.in-Some.ensures.value in
    let own = inv.setting in
    let legal : IsSample s x = subst (λ (v : Parameters). IsSample v x) own spelled.0 in
    let place : w * i + w ≡ w * (i + 1) = omega arith in
    let slice : w * i + w - w * i ≡ w = omega arith in
    record {
      stands = λ m h room.
          let taken = inv.stands m h room in
          let one = reads_one s _ x legal (sym (ap (λ n. take n (drop (w * i) c.args.bytes.now)) slice) ∙ (spelled.1 ∙ ap (λ (v : Parameters). spelling v x) own)) in
          let read = reads_more (w * i) w taken.2 one in (
            taken.0 ++ x ∷ [],
            omega (arith, length-append taken.0 (x ∷ []), taken.1),
            subst (λ n. Reads s c.args.bytes.now (taken.0 ++ x ∷ []) (drop n c.args.bytes.now)) place read,
            subst (λ y. StandsAfter c.hold.new.self c.args.sink.now c.hold.new.meter m (taken.0 ++ y ∷ [])) same (c.hold.ensures.stands c.args.sink.now m taken.0 taken.3),
          );
      setting = c.hold.ensures.setting ∙ inv.setting;
      end = c.hold.ensures.end ∙ inv.end;
      held = omega (arith, c.hold.ensures.held, inv.held);
      blocks = c.hold.ensures.blocks ∙ inv.blocks;
    }

pub end_part-bits-requires-clause-inside : goal.end_part-bits-requires-clause-inside
end_part-bits-requires-clause-inside c = omega (arith, for_open c.requires.stands.1, c.loop-i.invariant.blocks, c.loop-i.invariant.end)

pub end_part-bits-requires-clause-stands : goal.end_part-bits-requires-clause-stands
end_part-bits-requires-clause-stands c =
    let given = c.requires.stands in
    let taken = c.loop-i.invariant.stands given.0 given.1 given.2 in
    (given.0, taken.0, taken.3, given.2)

pub returns-clause-takes : goal.returns-clause-takes
returns-clause-takes c m h room =
    let inv = c.loop-i.invariant in
    let taken = inv.stands m h room in
    let pushed = c.end_part-bits.ensures m taken.0 taken.3 room in
    let end : c.loop-i.i ≡ c.min-most.result = omega arith in (
      pushed.0,
      pushed.1,
      spelled_are_taken c.args.self.now.setting c.args.bytes.now c.min-most.result (c.width-width.result * c.loop-i.i) (sym inv.setting) taken.3.stands (taken.1 ∙ end) taken.2
          ((λ j. c.width-width.ensures.value j * end j)) pushed.2,
    )
