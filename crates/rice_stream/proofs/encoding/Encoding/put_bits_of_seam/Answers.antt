use Rattle.rice_stream.proofs.Words.{◌++◌, ◌∙◌, ap, sym, subst, word, standing_between}
use Rattle.rice_stream.proofs.encoding.Encoding.put_bits_of_seam.Goals as goal

pub returns : goal.returns
returns g c s st =
    let seam = c.args.seam.now in
    let sink = c.put.ensures.bits ∙ ap (λ l. l ++ word seam.waiting_bits seam.waiting) st.sink in
    record {
      standing = subst (λ l. g.C.TakesBytes.stands c.args.self.now.coder c.put.new.self c.args.self.now.meter (standing_between s seam.start seam.previous l seam.steps)) sink
          (subst (λ n. g.C.TakesBytes.stands c.args.self.now.coder c.put.new.self c.args.self.now.meter (standing_between s seam.start seam.previous c.put.new.self n)) st.steps
          (st.coder c.put.new.self c.args.self.now.meter));
      samples = sym st.samples;
      bits = sym st.bits;
    }
