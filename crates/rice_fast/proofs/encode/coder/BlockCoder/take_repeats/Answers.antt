use Rattle.rice_fast.proofs.Words.{ℕ, ◌≡◌, ◌+◌, ◌*◌, ◌∙◌, ◌++◌, ap, arith, length-replicate, replicate, subst, sym, Parameters, StandsAfter, value_at}
use Rattle.rice_fast.proofs.lemmas.encode.RunsGoOn.{run_of_bytes}
use Rattle.rice_fast.proofs.encode.coder.BlockCoder.take_repeats.Goals as goal

pub tick-requires : goal.tick-requires
tick-requires g c =
    let given = c.requires.stands.1 in
    let run = run_of_bytes c.repeats-count.result given.2 given.3 c.requires.between c.requires.inside c.repeats-count.ensures.len (c.repeats-count.ensures.goes_on c.if-count-gt0.true) in
    let known = c.known_or.ensures ∙ (c.block.ensures.value ∙ ap (λ (s : Parameters). s.block) c.requires.setting) in
    let samples = ap (λ b. b * c.repeats-count.result) known in
    omega (arith, run.grows.limit c.if-count-gt0.true, samples)

pub overflow_cast-self : goal.overflow_cast-self
overflow_cast-self g c =
    let given = c.requires.stands.1 in
    let run = run_of_bytes c.repeats-count.result given.2 given.3 c.requires.between c.requires.inside c.repeats-count.ensures.len (c.repeats-count.ensures.goes_on c.if-count-gt0.true) in
    omega (arith, run.inside)

pub overflow_add-self : goal.overflow_add-self
overflow_add-self g c =
    let given = c.requires.stands.1 in
    let run = run_of_bytes c.repeats-count.result given.2 given.3 c.requires.between c.requires.inside c.repeats-count.ensures.len (c.repeats-count.ensures.goes_on c.if-count-gt0.true) in
    omega (arith, run.inside)

pub overflow_cast-self-then-count-gt0 : goal.overflow_cast-self-then-count-gt0
overflow_cast-self-then-count-gt0 g c =
    let given = c.requires.stands.1 in
    let run = run_of_bytes c.repeats-count.result given.2 given.3 c.requires.between c.requires.inside c.repeats-count.ensures.len (c.repeats-count.ensures.goes_on c.if-count-gt0.true) in
    omega (arith, run.inside)

pub overflow_add-self-then-count-gt0 : goal.overflow_add-self-then-count-gt0
overflow_add-self-then-count-gt0 g c =
    let given = c.requires.stands.1 in
    let run = run_of_bytes c.repeats-count.result given.2 given.3 c.requires.between c.requires.inside c.repeats-count.ensures.len (c.repeats-count.ensures.goes_on c.if-count-gt0.true) in
    omega (arith, run.inside, run.run)

pub overflow_add-self-then-count-gt0-2 : goal.overflow_add-self-then-count-gt0-2
overflow_add-self-then-count-gt0-2 g c =
    let given = c.requires.stands.1 in
    let run = run_of_bytes c.repeats-count.result given.2 given.3 c.requires.between c.requires.inside c.repeats-count.ensures.len (c.repeats-count.ensures.goes_on c.if-count-gt0.true) in
    let known = c.known_or.ensures ∙ (c.block.ensures.value ∙ ap (λ (s : Parameters). s.block) c.requires.setting) in
    let samples = ap (λ b. b * c.repeats-count.result) known in
    omega (arith, run.grows.limit c.if-count-gt0.true, run.steps_ahead, samples)

pub returns-then-count-gt0-clause-takes : goal.returns-then-count-gt0-clause-takes
returns-then-count-gt0-clause-takes g c some sink m xs h room =
    let self = c.args.self.now in
    let n = c.repeats-count.result in
    let run = run_of_bytes n h room c.requires.between c.requires.inside c.repeats-count.ensures.len (c.repeats-count.ensures.goes_on c.if-count-gt0.true) in
    let known = c.known_or.ensures ∙ (c.block.ensures.value ∙ ap (λ (s : Parameters). s.block) c.requires.setting) in
    let samples = ap (λ b. b * n) known in
    let steps : c.tick.new.self ≡ c.args.meter.now + 2 * (self.setting.block * n) = c.tick.ensures ∙ ap (λ k. c.args.meter.now + 2 * k) samples in
    let ys = replicate (self.setting.block * n) (value_at self.setting self.previous) in
    let P : ℕ → ℕ → Type 0 = λ t k. StandsAfter (record self { blocks = self.blocks + n; run = self.run + n; steps_ahead = self.steps_ahead + k }) sink t m (xs ++ ys) in
    (ys, run.reads, length-replicate _ _, subst (λ t. P t (c.known_or.result * n)) (sym steps) (subst (P _) (sym samples) run.grows.stands))
