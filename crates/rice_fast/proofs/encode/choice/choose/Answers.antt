use Rattle.rice_fast.proofs.Words.{◌≡◌, ℕ, ◌+◌, ◌*◌, ◌/◌, ◌≤◌, ◌⊎◌, ◌∙◌, ap, arith, inl, inr, length, mul-le-mul_left, pairs_are_longer, best_split_is, takes_no_compression, k_max}
use Rattle.rice_fast.proofs.encode.choice.choose.Goals.{then-k-eq0, else-k-eq0}
use Rattle.rice_fast.proofs.lemmas.encode.Stops.{last_split}
use Rattle.rice_fast.proofs.encode.choice.choose.Goals as goal

-- The looks that are counted are about as many as the plain search takes at the best split.
record Looks (size block best limit looks : ℕ) : Type 0 where
  least : block * (best + 2) ≤ size * looks
  most : size * looks ≤ block * (best + 3)
  within : size * looks ≤ block * (limit + 2)

looks_of : {size block best limit looks : ℕ} (k : ℕ) → size ≡ block → best ≡ k → 1 ≤ limit → k ≤ limit → ((k ≡ 0) × (looks ≡ 3)) ⊎ (looks ≡ k + 2) → Looks size block best limit looks
looks_of {size} {block} {best} {limit} {looks} k is named some le h = elim h [
  | inl e ↦ counted (omega (arith, named, e)) (omega (arith, named, e)) (omega (arith, e, some))
  | inr e ↦ counted (omega (arith, named, e)) (omega (arith, named, e)) (omega (arith, e, le))
]
  where
    counted : best + 2 ≤ looks → looks ≤ best + 3 → looks ≤ limit + 2 → Looks size block best limit looks
    counted least most within =
        let same = ap (λ n. n * looks) is in
        record {
          least = omega (arith, same, mul-le-mul_left block least);
          most = omega (arith, same, mul-le-mul_left block most);
          within = omega (arith, same, mul-le-mul_left block within);
        }

pub returns-then-are_large-clause-value : goal.returns-then-are_large-clause-value
returns-then-are_large-clause-value g c =
    let s = c.args.setting.now in
    let b = c.args.block.now in
    let best = c.are_large.ensures.best c.if-are_large.true in
    let costs = c.are_large.ensures.costs c.if-are_large.true in
    let n : s.block ≡ 2 * (s.block / 2) = omega (arith, c.block-block.ensures.legal.block) in
    let long = pairs_are_longer s b (k_max s) (s.block / 2) best (omega (arith, (last_split s).0)) (c.requires.sound.len ∙ n) in
    takes_no_compression s b (k_max s) best (omega (arith, costs, long)) costs

pub returns-then-are_large-clause-steps_from : goal.returns-then-are_large-clause-steps_from
returns-then-are_large-clause-steps_from g c =
    let s = c.args.setting.now in
    let best = best_split_is s c.args.block.now (k_max s) (c.are_large.ensures.best c.if-are_large.true) in
    let looks = looks_of (k_max s) (c.len-size.ensures.value ∙ (ap length c.residuals.ensures ∙ c.requires.sound.len))
    best (last_split s).0 (omega arith) (inr (ap (λ n. n + 2) c.k_max.ensures.value)) in
    omega (arith, c.tick.ensures, looks.least)

pub returns-then-are_large-clause-steps_to : goal.returns-then-are_large-clause-steps_to
returns-then-are_large-clause-steps_to g c =
    let s = c.args.setting.now in
    let best = best_split_is s c.args.block.now (k_max s) (c.are_large.ensures.best c.if-are_large.true) in
    let looks = looks_of (k_max s) (c.len-size.ensures.value ∙ (ap length c.residuals.ensures ∙ c.requires.sound.len))
    best (last_split s).0 (omega arith) (inr (ap (λ n. n + 2) c.k_max.ensures.value)) in
    omega (arith, c.tick.ensures, looks.most)

pub tick-requires-2 : goal.tick-requires-2
tick-requires-2 g c =
    let best = c.best_split-k.ensures.best in
    let looks = looks_of c.best_split-k.result.0 (c.len-size.ensures.value ∙ (ap length c.residuals.ensures ∙ c.requires.sound.len))
    c.best_split-k.ensures.named (last_split c.args.setting.now).0 best.at_most
    (elim c.if-k-eq0.branch [
      | then-k-eq0 w ↦ inl (w.if-k-eq0.true, ap (λ p. p.1) w.second_extension-is)
      | else-k-eq0 w ↦ inr (ap (λ p. p.1) w.second_extension-is)
    ]) in
    omega (arith, looks.within, c.requires.meter)

pub shortest_of-choice-requires-clause-second_extension_from : goal.shortest_of-choice-requires-clause-second_extension_from
shortest_of-choice-requires-clause-second_extension_from g c =
    let s = c.args.setting.now in
    let b = c.args.block.now in
    elim c.if-k-eq0.branch [
      | then-k-eq0 w ↦ omega (arith, ap (λ p. p.0) w.second_extension-is, w.second_extension_cost.ensures)
      | else-k-eq0 w ↦
          let n : s.block ≡ 2 * (s.block / 2) = omega (arith, c.block-block.ensures.legal.block) in
          let long = pairs_are_longer s b c.best_split-k.result.0 (s.block / 2) c.best_split-k.ensures.best (omega (arith, w.if-k-eq0.false)) (c.requires.sound.len ∙ n) in
          omega (arith, ap (λ p. p.0) w.second_extension-is, long, c.best_split-k.ensures.value)
    ]

pub returns : goal.returns
returns g c =
    let best = c.best_split-k.ensures.best in
    let looks = looks_of c.best_split-k.result.0 (c.len-size.ensures.value ∙ (ap length c.residuals.ensures ∙ c.requires.sound.len))
    c.best_split-k.ensures.named (last_split c.args.setting.now).0 best.at_most
    (elim c.if-k-eq0.branch [
      | then-k-eq0 w ↦ inl (w.if-k-eq0.true, ap (λ p. p.1) w.second_extension-is)
      | else-k-eq0 w ↦ inr (ap (λ p. p.1) w.second_extension-is)
    ]) in
    record {
      value = c.shortest_of-choice.ensures.value;
      high = c.shortest_of-choice.ensures.high _ c.best_split-k.ensures.high;
      steps_from = omega (arith, looks.least, c.tick-2.ensures);
      steps_to = omega (arith, looks.most, c.tick-2.ensures);
      steps_limit = omega (arith, looks.within, c.tick-2.ensures);
      split = c.shortest_of-choice.ensures.split;
    }
