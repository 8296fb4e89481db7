use Rattle.std.proofs.lemmas.Grind.{common_steps}
use Rattle.std.proofs.Common.{arith, ℕ, ◌≡◌, ◌+◌, ◌*◌, ◌/◌, ◌≤◌, ◌∙◌, ap, min}
use Rattle.rice_code.proofs.{encode.choice.choose.Goals.then-k-gt0+then-k-k_max, encode.choice.choose.Goals.else-k-gt0, lemmas.cost.PairsAreLonger.pairs_are_longer, Words.mul-le-mul_left, Words.k_max}
use Rattle.rice_code.proofs.encode.choice.choose.Goals as goal

-- the looks of a search that stops at k
looks_within : (j k m : ℕ) → j * (min (k + 1) m + 1) ≤ j * (k + 2)
looks_within j k m = mul-le-mul_left j (omega arith)

pub shortest_of-requires-clause-second_extension_from : goal.shortest_of-requires-clause-second_extension_from
shortest_of-requires-clause-second_extension_from c =
    let s = c.args.setting.now in
    let best = c.best_split-k in
    let n : s.block ≡ 2 * (s.block / 2) = grind (arith, c.block-block.ensures.legal.block) in
    elim c.if-k-gt0.branch [
      | then-k-gt0+then-k-k_max w ↦
          let long = pairs_are_longer s c.args.block.now best.result.0 (s.block / 2) best.ensures.best (omega (arith, w.if-k-gt0.true)) (c.requires.sound.len ∙ n) in
          omega (arith, w.second_extension-is, long, best.ensures.value)
      | else-k-gt0 w ↦ omega (arith, w.second_extension-is, w.second_extension_cost-second_extension.ensures.value)
    ]

pub returns-clause-steps_to : goal.returns-clause-steps_to
returns-clause-steps_to c = grind (arith, common_steps, looks_within)
