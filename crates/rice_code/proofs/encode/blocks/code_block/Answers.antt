use Rattle.std.proofs.Common.{◌≡◌, ℕ, ◌+◌, ◌*◌, ◌≤◌, Bool, List, ◌++◌, ◌∙◌, arith, ap, sym}
use Rattle.rice_code.proofs.Words.{Parameters, k_max, BlockData, CodedDataSet, bits_of_set, cost, shortest, best_split, PutsSet, PutsShortest, chosen_set, common_steps}
use Rattle.rice_code.proofs.lemmas.encode.SegmentBlocksInTurn.{steps_least}
use Rattle.rice_code.proofs.encode.blocks.code_block.Goals as goal

-- the steps of the search
record Searched (s : Parameters) (b : BlockData) (before after : ℕ) : Type 0 where
  from : before + s.block * (best_split s b + 2) ≤ after
  to : after ≤ before + s.block * (best_split s b + 3)
  limit : after ≤ before + s.block * (k_max s + 2)

-- the shortest set is put after the search
shortest_put : {s : Parameters} {b : BlockData} {set : CodedDataSet} {least most : ℕ} {old new : List Bool} {m0 m1 m2 : ℕ} → set ≡ shortest s b → Searched s b m0 m1
    → s.block ≤ least + 1 → most ≤ 2 * s.block → PutsSet s set least most old new m1 m2 → PutsShortest s b old new m0 m2
shortest_put {s} {b} {set} {old} {m0} {m1} {m2} is searched few many put =
    let price = ap (cost s) is in
    let own = steps_least s.block (best_split s b) (k_max s) m0 m1 m2 (cost s (shortest s b))
    (record {
      by_split = omega (arith, searched.to);
      by_limit = omega (arith, searched.limit);
      more = omega (arith, price, put.steps_to, many);
    }) in
    grind (arith, common_steps)

pub returns-in-NoCompression : goal.returns-in-NoCompression
returns-in-NoCompression c =
    let chosen = c.choose-choice.ensures in
    shortest_put (ap (λ o. chosen_set o c.args.block.now) (sym c.in-NoCompression.is) ∙ chosen.value)
    (record { from = chosen.steps_from; to = chosen.steps_to; limit = chosen.steps_limit }) (omega arith) (omega arith) c.put_no_compression.ensures

pub returns-in-SecondExtension : goal.returns-in-SecondExtension
returns-in-SecondExtension c =
    let chosen = c.choose-choice.ensures in
    shortest_put (ap (λ o. chosen_set o c.args.block.now) (sym c.in-SecondExtension.is) ∙ chosen.value)
    (record { from = chosen.steps_from; to = chosen.steps_to; limit = chosen.steps_limit }) (omega arith) (omega arith) c.put_second_extension.ensures

pub returns-in-Split : goal.returns-in-Split
returns-in-Split c =
    let chosen = c.choose-choice.ensures in
    shortest_put (ap (λ o. chosen_set o c.args.block.now) (sym c.in-Split.is) ∙ chosen.value)
    (record { from = chosen.steps_from; to = chosen.steps_to; limit = chosen.steps_limit }) (omega arith) (omega arith) c.put_split.ensures
