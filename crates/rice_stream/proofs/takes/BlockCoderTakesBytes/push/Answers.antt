use Rattle.rice_stream.proofs.Words.{arith, ◌≡◌, ◌==◌, ◌<◌, ◌≤◌, ℕ, zero, suc, List, Bool, false, [], length, refl, subst, sym, ◌∙◌, nat_tests, width, IsNoSpelling, BlockCoder, StandsFor, Standing}
use Rattle.rice_stream.proofs.Words.{setting_of, stands_between, ShowsCode}
use Rattle.rice_stream.proofs.takes.BlockCoderTakesBytes.push.Goals as goal

-- only with the code of a segment that is whole is nothing ahead
shows_by : (c : BlockCoder) (sink : List Bool) (meter : ℕ) (m m_new : Standing) (bits : ℕ) → StandsFor c sink meter m_new → (0 < bits → m_new.coder.residuals ≡ [])
    → (bits ≡ 0 → m_new.sink ≡ m.sink) → ShowsCode (bits == 0) m m_new sink
shows_by c sink meter m m_new zero stands whole buffered = buffered refl
shows_by c sink meter m m_new (suc bits) stands whole buffered =
    let some : (suc bits == 0) ≡ false = grind (arith, nat_tests) in subst (λ b. ShowsCode b m m_new sink) (sym some) (stands_between stands (whole (omega arith))).0

pub push-pushed-requires : goal.push-pushed-requires
push-pushed-requires c =
    let given = c.requires in
    let same : c.args.setting.now ≡ c.args.self.now.setting = sym given.3 ∙ setting_of given.1 in
    record {
      setting = same;
      some = subst (λ s. width s ≤ length c.args.bytes.now) same given.4;
      stands = (given.0, given.1, given.2);
    }

pub returns : goal.returns
returns c m stands room =
    let p = c.push-pushed.ensures.takes m stands room in
    let t = p.2 in
    let same = setting_of stands in (
      p.0,
      p.1,
      record {
        samples = t.samples;
        reads = t.reads;
        number = t.number;
        none = λ none. subst (λ s. IsNoSpelling s c.args.bytes.now) (sym same) (c.push-pushed.ensures.none none);
        pushes = t.pushes;
        before_last = t.before_last;
        shows = shows_by c.push-pushed.new.self c.push-pushed.new.sink c.push-pushed.new.meter m p.0 c.push-pushed.result.bits p.1 t.whole t.buffered;
      },
    )
