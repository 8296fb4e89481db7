use Rattle.rice_fast.proofs.Words.{◌≡◌, ℕ, ◌+◌, ◌-◌, ◌*◌, ◌≤◌, ◌++◌, ◌∙◌, List, Bool, arith, ap, refl, sym, Parameters, k_max, BlockData, CodedDataSet, bits_of_set, cost, shortest, best_split, Choice}
use Rattle.rice_fast.proofs.Words.{PutsSet, PutsShortest, chosen_set, puts_chosen, steps_least}
use Rattle.rice_fast.proofs.encode.blocks.code_in_rows.Goals as goal

-- the shortest option is put, after the looks of the search
shortest_put : {s : Parameters} (b : BlockData) {set : CodedDataSet} {old new : List Bool} {m0 m1 m2 : ℕ} → set ≡ shortest s b → m0 + s.block * (best_split s b + 2) ≤ m1
    → m1 ≤ m0 + s.block * (best_split s b + 3) → m1 ≤ m0 + s.block * (k_max s + 2) → PutsSet s set (s.block - 1) (2 * s.block) old new m1 m2 → PutsShortest s b old new m0 m2
shortest_put {s} b {set} {old} {new} {m0} {m1} {m2} value from to limit put =
    let price = ap (cost s) value in
    record {
      bits = put.bits ∙ ap (λ d. old ++ bits_of_set s d) value;
      len = omega (arith, price, put.len);
      steps_from = omega (arith, price, put.steps_from, from);
      steps_to = steps_least s.block (best_split s b) (k_max s) m0 m1 m2 (cost s (shortest s b)) (record { by_split = to; by_limit = limit; more = omega (arith, price, put.steps_to) });
    }

pub returns-in-NoCompression : goal.returns-in-NoCompression
returns-in-NoCompression g c =
    let chosen = c.choose-choice.ensures in
    let option = λ (o : Choice). chosen_set o c.args.block.now in
    shortest_put c.args.block.now (ap option (sym c.in-NoCompression.is) ∙ chosen.value) chosen.steps_from chosen.steps_to chosen.steps_limit c.put_no_compression.ensures

pub returns-in-SecondExtension : goal.returns-in-SecondExtension
returns-in-SecondExtension g c =
    let chosen = c.choose-choice.ensures in
    let option = λ (o : Choice). chosen_set o c.args.block.now in
    shortest_put c.args.block.now (ap option (sym c.in-SecondExtension.is) ∙ chosen.value) chosen.steps_from chosen.steps_to chosen.steps_limit
    (puts_chosen refl refl refl (omega arith) (omega arith) c.put_second_extension.ensures)

pub returns-in-Split : goal.returns-in-Split
returns-in-Split g c =
    let chosen = c.choose-choice.ensures in
    let option = λ (o : Choice). chosen_set o c.args.block.now in
    shortest_put c.args.block.now (ap option (sym c.in-Split.is) ∙ chosen.value) chosen.steps_from chosen.steps_to chosen.steps_limit c.put_split.ensures
