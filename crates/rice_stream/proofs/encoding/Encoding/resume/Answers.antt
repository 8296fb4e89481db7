use Rattle.rice_stream.proofs.Words.{rules, refl, w64, FitsSigned, arith, subst, to_z-of_z, standing_between}
use Rattle.rice_stream.proofs.lemmas.Seams.{few_steps_so_far}
use Rattle.rice_stream.proofs.encoding.Encoding.resume.Goals as goal

pub tick-requires : goal.tick-requires
tick-requires g c = omega (arith, c.new-meter.ensures, few_steps_so_far c.args.setting c.args.seam.now c.requires.0 c.requires.1)

pub returns : goal.returns
returns g c =
    let seam = c.args.seam.now in
    let fits : FitsSigned w64 seam.previous = search rules in
    record {
      coder = λ bits steps. subst (λ p. g.C.TakesBytes.stands c.resume.result bits steps (standing_between c.args.setting seam.start p bits steps)) (to_z-of_z w64 seam.previous fits)
          (c.resume.ensures bits steps);
      sink = c.new.ensures;
      steps = omega (arith, c.tick.ensures, c.new-meter.ensures);
      samples = refl;
      bits = refl;
    }
