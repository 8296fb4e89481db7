use Rattle.std.proofs.Common.{arith, ◌∙◌, subst, false, replicate}
use Rattle.std.proofs.lemmas.{List.replicate-append-replicate, List.append-nil, Grind.common_steps}
use Rattle.rice_bits.proofs.lemmas.read.ReaderLemmas.{no_refusal, refusal_is, takes-none, takes-append, stops-append, zeros-fs, one_buffered}
use Rattle.rice_bits.specs.Reader.{Stops}
use Rattle.rice_bits.proofs.read.reader.BitReader.take_fs_with_refills.Goals as goal

pub loop-count-init : goal.loop-count-init
loop-count-init g c = grind (arith, common_steps, no_refusal, takes-none)

pub returns-in-Ok-default-true-clause-ok : goal.returns-in-Ok-default-true-clause-ok
returns-in-Ok-default-true-clause-ok g c _ = grind (arith, common_steps, zeros-fs, takes-append)

pub loop-count-preserved : goal.loop-count-preserved
loop-count-preserved g c =
    let z = c.in-Ok-default-false.ensures.zeros c.in-Ok-default-false.field-0-1-test in
    let t = takes-append c.args.self.now c.loop-count.self c.take_some_of_sequence.new.self _ _ c.loop-count.invariant.takes z.1 in
    record {
      takes = rw (← replicate-append-replicate c.loop-count.zeros c.in-Ok-default-false.count false) t;
      idle = λ one. c.take_some_of_sequence.ensures.idle (one_buffered _ _ _ c.loop-count.invariant.takes one) ∙ c.loop-count.invariant.idle one;
      limit = c.take_some_of_sequence.ensures.limit;
      steps = omega (arith, c.take_some_of_sequence.ensures.steps, c.loop-count.invariant.steps);
    }

pub returns-in-Err-clause-err : goal.returns-in-Err-clause-err
returns-in-Err-clause-err g c none = refusal_is _ _ _ c.in-Err.ensures.err.refusal (
  c.loop-count.zeros,
  subst (λ xs. Stops c.args.self.now c.take_some_of_sequence.new.self xs c.in-Err.field-0) (append-nil (replicate c.loop-count.zeros false))
      (stops-append c.args.self.now c.loop-count.self c.take_some_of_sequence.new.self _ _ _ c.loop-count.invariant.takes c.in-Err.ensures.err),
)

pub returns-in-Ok-default-true-clause-idle : goal.returns-in-Ok-default-true-clause-idle
returns-in-Ok-default-true-clause-idle g c one =
    c.take_some_of_sequence.ensures.idle (one_buffered _ _ _ c.loop-count.invariant.takes one) ∙ c.loop-count.invariant.idle one

pub returns-in-Err-clause-idle : goal.returns-in-Err-clause-idle
returns-in-Err-clause-idle g c one =
    c.take_some_of_sequence.ensures.idle (one_buffered _ _ _ c.loop-count.invariant.takes one) ∙ c.loop-count.invariant.idle one
