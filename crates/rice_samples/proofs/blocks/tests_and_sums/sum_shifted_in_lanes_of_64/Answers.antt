use Rattle.std.proofs.{lemmas.Simd.adds_fit, lemmas.Simd.sum_fits, Common.arith, Common.map-id, Common.w64}
use Rattle.rice_samples.proofs.lemmas.blocks.EightsInLanes.{sums_fit, sum_added, lanes_added, whole_sum, total_fits, sum_limited}
use Rattle.rice_samples.proofs.blocks.tests_and_sums.sum_shifted_in_lanes_of_64.Goals as goal

pub overflow_add-total : goal.overflow_add-total
overflow_add-total c =
    let l = c.loop-i in
    let xs = c.args.items.now in
    adds_fit w64 l.total _ (rw map-id (sums_fit c.args.k l.i xs l.total l.invariant.lanes (omega arith) c.requires.few (λ j. omega (arith, c.type_inv.items j)) l.invariant.value))

pub loop-i-preserved : goal.loop-i-preserved
loop-i-preserved c =
    let l = c.loop-i in
    let xs = c.args.items.now in
    record {
      lanes = rw map-id (lanes_added c.args.k l.i xs l.total l.invariant.lanes (omega arith));
      value = rw map-id (sum_added c.args.k l.i xs l.total l.invariant.lanes (omega arith) l.invariant.value);
    }

pub overflow_add-result : goal.overflow_add-result
overflow_add-result c = sum_fits w64 0 c.loop-i.total (total_fits c.args.k c.loop-i.i c.args.items.now c.loop-i.total c.requires.few (λ j. omega (arith, c.type_inv.items j)) c.loop-i.invariant.value)

pub returns-clause-value : goal.returns-clause-value
returns-clause-value c = whole_sum c.args.k c.loop-i.i c.args.items.now c.loop-i.total c.requires.chunks c.loop-i-test.false c.loop-i.invariant.value

pub returns-clause-limit : goal.returns-clause-limit
returns-clause-limit c =
    sum_limited c.args.k c.loop-i.i c.args.items.now c.loop-i.total c.requires.few c.requires.chunks c.loop-i-test.false (λ j. omega (arith, c.type_inv.items j)) c.loop-i.invariant.value
