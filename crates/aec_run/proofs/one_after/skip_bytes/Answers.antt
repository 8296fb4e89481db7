use Rattle.std.proofs.Common.{rules, arith, ◌≡◌, ◌∙◌, ◌+◌, ◌-◌, ◌≤◌, Some, ap, drop, take, length}
use Rattle.std.proofs.lemmas.List.{length-take}
use Rattle.aec_run.proofs.OneAfterLemmas.{skipped_all, skipped_more}
use Rattle.aec_run.proofs.one_after.skip_bytes.Goals as goal

pub returns-then-taken-eq0-clause-rest : goal.returns-then-taken-eq0-clause-rest
returns-then-taken-eq0-clause-rest g c = λ bytes reported.
    let i = c.loop-left.invariant in
    skipped_all (c.args.count - c.loop-left.left) c.args.count bytes (take c.in_ok-taken.taken c.fill.new.buf) (i.rest bytes reported) c.in_ok-taken.ensures.bytes
    (omega (arith, length-take c.in_ok-taken.taken c.fill.new.buf, c.if-taken-eq0.true)) (c.in_ok-taken.ensures.end c.if-taken-eq0.true) (omega arith)

pub loop-left-preserved : goal.loop-left-preserved
loop-left-preserved g c =
    let i = c.loop-left.invariant in
    let few : c.in_ok-taken.taken ≤ c.loop-left.left = search rules in
    let size : length (take c.in_ok-taken.taken c.fill.new.buf) ≡ c.in_ok-taken.taken = omega (arith, length-take c.in_ok-taken.taken c.fill.new.buf, c.in_ok-taken.ensures.count) in
    let step : (c.args.count - c.loop-left.left) + c.in_ok-taken.taken ≡ c.args.count - (c.loop-left.left - c.in_ok-taken.taken) = omega (arith, few, i.within) in
    record {
      within = omega (arith, i.within);
      rest = λ bytes reported. skipped_more (c.args.count - c.loop-left.left) c.in_ok-taken.taken bytes (take c.in_ok-taken.taken c.fill.new.buf) (i.rest bytes reported)
          c.in_ok-taken.ensures.bytes size ∙ ap (λ n. Some (drop n bytes)) step;
      failures = c.in_ok-taken.ensures.failures ∙ i.failures;
    }
