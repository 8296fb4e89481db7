use Rattle.rice_stream.proofs.Words.{rules, arith, ◌+◌, ◌*◌, ◌≤◌, ap, refl, sym, ◌∙◌, subst, true, Some, Ok, Advances, AnswersBytes, wanted_of, refusal_fault}
use Rattle.rice_stream.proofs.lemmas.BlocksPassed.{blocks_passed, blocks_shrink, passed_fails, passed_reads, passed_within, some_passed}
use Rattle.rice_stream.proofs.lemmas.DecodingEnds.{reports_as, block_is_wanted, progress_at_start, refusal_ends, ended_ends, ends_within, nothing_read, reached_ends}
use Rattle.rice_stream.proofs.lemmas.RunsWritten.{progress_with_run, run_fails, run_shrinks, run_within}
use Rattle.rice_stream.proofs.lemmas.{BytesOfBlocks.block_fails, BytesOfBlocks.block_shrinks, BytesOfBlocks.block_written, DecodingLemmas.decoding_is_done, DecodingLemmas.stops_in_no_run}
use Rattle.rice_stream.proofs.decoding.decode_blocks.Goals as goal

pub decode_all-init : goal.decode_all-init
decode_all-init g c = record {
  runs = progress_at_start c.args.asked (g.O.Outlet.taken c.args.outlet.now) c.block-block.ensures.legal c.new-decoder.ensures c.new-reader.ensures c.new-meter.ensures;
  writes = refl;
}

pub returns-then-count-eq0-clause-call : goal.returns-then-count-eq0-clause-call
returns-then-count-eq0-clause-call g c =
    let none = sym (c.wanted-count.ensures.value ∙ ap (wanted_of c.args.asked c.decode_all.written) c.block-block.ensures.value) ∙ c.if-count-eq0.true in
    reached_ends c.block-block.ensures.legal c.decode_all.invariant.runs none c.ended.ensures.reports

pub returns-then-count-eq0-clause-bounds : goal.returns-then-count-eq0-clause-bounds
returns-then-count-eq0-clause-bounds g c = let runs = c.decode_all.invariant.runs in ends_within runs (nothing_read runs) c.ended.ensures.reports

-- ---- a run

pub decode_all-preserved-in-Ok : goal.decode_all-preserved-in-Ok
decode_all-preserved-in-Ok g c = record {
  runs = progress_with_run c.block-block.ensures.legal c.decode_all.invariant.runs c.in-Ok.ensures.ok c.tick.ensures;
  writes = c.in-Ok.ensures.failures ∙ c.decode_all.invariant.writes;
}

pub decode_all-smaller-in-Ok : goal.decode_all-smaller-in-Ok
decode_all-smaller-in-Ok g c = omega (arith, run_shrinks c.block-block.ensures.legal c.decode_all.invariant.runs.at_block.setting c.in-Ok.ensures.ok)

pub returns-in-Err-clause-call : goal.returns-in-Err-clause-call
returns-in-Err-clause-call g c =
    run_fails c.block-block.ensures.legal c.decode_all.invariant.runs c.in-Err.ensures.err c.tick-in-Err.ensures refl c.ended-in-Err.ensures.reports

pub returns-in-Err-clause-bounds : goal.returns-in-Err-clause-bounds
returns-in-Err-clause-bounds g c = run_within c.decode_all.invariant.runs c.in-Err.ensures.err c.tick-in-Err.ensures refl c.ended-in-Err.ensures.reports

-- ---- passes

pub overflow_add-written-in-Ok-write_blocks : goal.overflow_add-written-in-Ok-write_blocks
overflow_add-written-in-Ok-write_blocks g c =
    let runs = blocks_passed c.block-block.ensures.legal c.decode_all.invariant.runs c.more_wanted-most.ensures c.in-Ok-write_blocks.ensures.written in
    let few : c.decode_all.written + c.in-Ok-write_blocks.samples ≤ 456 * 4503599627370496 = omega (arith, runs.has_steps.by_bits, runs.limit) in
    search rules

pub overflow_add-written-in-Err-write_blocks : goal.overflow_add-written-in-Err-write_blocks
overflow_add-written-in-Err-write_blocks g c =
    let runs = blocks_passed c.block-block.ensures.legal c.decode_all.invariant.runs c.more_wanted-most.ensures c.in-Err-write_blocks.ensures.fails.before in
    let few : c.decode_all.written + c.in-Err-write_blocks.samples ≤ 456 * 4503599627370496 = omega (arith, runs.has_steps.by_bits, runs.limit) in
    search rules

pub returns-in-Err-write_blocks-clause-call : goal.returns-in-Err-write_blocks-clause-call
returns-in-Err-write_blocks-clause-call g c =
    passed_fails c.block-block.ensures.legal c.decode_all.invariant.runs c.more_wanted-most.ensures c.in-Err-write_blocks.ensures.fails refl c.ended-in-Err-write_blocks.ensures.reports

pub returns-in-Err-write_blocks-clause-failures : goal.returns-in-Err-write_blocks-clause-failures
returns-in-Err-write_blocks-clause-failures g c =
    let tells = c.ended-in-Err-write_blocks.ensures.reports in
    let reads = passed_reads c.block-block.ensures.legal c.decode_all.invariant.runs c.more_wanted-most.ensures c.in-Err-write_blocks.ensures.fails refl tells in
    rw (tells.fault_is) (tells.failed_is ∙ reads, c.in-Err-write_blocks.ensures.err ∙ ap (λ n. n + 1) c.decode_all.invariant.writes)

pub returns-in-Err-write_blocks-clause-bounds : goal.returns-in-Err-write_blocks-clause-bounds
returns-in-Err-write_blocks-clause-bounds g c =
    passed_within c.block-block.ensures.legal c.decode_all.invariant.runs c.more_wanted-most.ensures c.in-Err-write_blocks.ensures.fails refl c.ended-in-Err-write_blocks.ensures.reports

pub decode_all-preserved-then-count-eq0-2 : goal.decode_all-preserved-then-count-eq0-2
decode_all-preserved-then-count-eq0-2 g c = record {
  runs = blocks_passed c.block-block.ensures.legal c.decode_all.invariant.runs c.more_wanted-most.ensures c.in-Ok-write_blocks.ensures.written;
  writes = c.in-Ok-write_blocks.ensures.ok ∙ c.decode_all.invariant.writes;
}

pub decode_all-smaller-then-count-eq0-2 : goal.decode_all-smaller-then-count-eq0-2
decode_all-smaller-then-count-eq0-2 g c =
    let w = c.in-Ok-write_blocks.ensures.written in
    let asked = c.args.asked in
    let written = c.decode_all.written in
    let size = c.block-block.ensures.value in
    let some = block_is_wanted asked written c.wanted-count.ensures.value size c.if-count-eq0.false in
    let none = sym (c.wanted-count-in-decode_all.ensures.value ∙ ap (wanted_of asked (written + c.in-Ok-write_blocks.samples)) size) ∙ c.if-count-eq0-2.true in
    omega (
      arith,
      some_passed asked written c.in-Ok-write_blocks.samples c.args.setting.now.block w.blocks w.count_is some none,
      blocks_shrink c.block-block.ensures.legal c.decode_all.invariant.runs c.more_wanted-most.ensures w,
    )

-- ---- a block that the decoder reads

pub returns-in-Err-answer-clause-call : goal.returns-in-Err-answer-clause-call
returns-in-Err-answer-clause-call g c =
    let legal = c.block-block.ensures.legal in
    let runs = blocks_passed legal c.decode_all.invariant.runs c.more_wanted-most.ensures c.in-Ok-write_blocks.ensures.written in
    let written = c.decode_all.written + c.in-Ok-write_blocks.samples in
    let says = c.in-Err-answer.ensures.gives in
    let some = block_is_wanted c.args.asked written c.wanted-count-in-decode_all.ensures.value c.block-block.ensures.value c.if-count-eq0-2.false in
    let tells = reports_as (ap Some (c.fault_of-fault.ensures ∙ ap (refusal_fault c.in-Err-answer.fault written) c.block-block.ensures.value)) c.ended-in-Err-answer.ensures.reports in
    refusal_ends c.in-Err-answer.fault legal runs some (stops_in_no_run legal runs says.advances) says.counted tells

pub returns-in-Err-answer-clause-failures : goal.returns-in-Err-answer-clause-failures
returns-in-Err-answer-clause-failures g c =
    let runs = blocks_passed c.block-block.ensures.legal c.decode_all.invariant.runs c.more_wanted-most.ensures c.in-Ok-write_blocks.ensures.written in
    let reads = runs.reads in
    let writes = c.in-Ok-write_blocks.ensures.ok ∙ c.decode_all.invariant.writes in
    search rules

pub returns-in-Err-answer-clause-bounds : goal.returns-in-Err-answer-clause-bounds
returns-in-Err-answer-clause-bounds g c =
    let runs = blocks_passed c.block-block.ensures.legal c.decode_all.invariant.runs c.more_wanted-most.ensures c.in-Ok-write_blocks.ensures.written in
    ends_within runs c.in-Err-answer.ensures.gives.counted c.ended-in-Err-answer.ensures.reports

pub returns-in-Done-clause-call : goal.returns-in-Done-clause-call
returns-in-Done-clause-call g c =
    let legal = c.block-block.ensures.legal in
    let runs = blocks_passed legal c.decode_all.invariant.runs c.more_wanted-most.ensures c.in-Ok-write_blocks.ensures.written in
    let written = c.decode_all.written + c.in-Ok-write_blocks.samples in
    let old = c.write_blocks.new in
    let new = c.bytes_of_next-answer.new in
    let says = c.in-Ok-answer.ensures.gives in
    let a = subst (λ t. Advances old.reader new.reader old.meter new.meter old.decoder new.decoder says.samples (Ok t)) c.in-Done.is says.advances in
    let some = block_is_wanted c.args.asked written c.wanted-count-in-decode_all.ensures.value c.block-block.ensures.value c.if-count-eq0-2.false in
    let tells = reports_as c.end_of.ensures c.ended-in-Done.ensures.reports in
    let ends = decoding_is_done legal runs a in
    ended_ends true runs some ends.0 ends.1 says.counted tells

pub returns-in-Done-clause-failures : goal.returns-in-Done-clause-failures
returns-in-Done-clause-failures g c =
    let runs = blocks_passed c.block-block.ensures.legal c.decode_all.invariant.runs c.more_wanted-most.ensures c.in-Ok-write_blocks.ensures.written in
    let reads = runs.reads in
    let writes = c.in-Ok-write_blocks.ensures.ok ∙ c.decode_all.invariant.writes in
    search rules

pub returns-in-Done-clause-bounds : goal.returns-in-Done-clause-bounds
returns-in-Done-clause-bounds g c =
    let runs = blocks_passed c.block-block.ensures.legal c.decode_all.invariant.runs c.more_wanted-most.ensures c.in-Ok-write_blocks.ensures.written in
    ends_within runs c.in-Ok-answer.ensures.gives.counted c.ended-in-Done.ensures.reports

pub returns-in-Err-write_all-clause-call : goal.returns-in-Err-write_all-clause-call
returns-in-Err-write_all-clause-call g c =
    let legal = c.block-block.ensures.legal in
    let runs = blocks_passed legal c.decode_all.invariant.runs c.more_wanted-most.ensures c.in-Ok-write_blocks.ensures.written in
    let written = c.decode_all.written + c.in-Ok-write_blocks.samples in
    let old = c.write_blocks.new in
    let new = c.bytes_of_next-answer.new in
    let says = subst (λ t. AnswersBytes old.reader new.reader old.meter new.meter old.decoder new.decoder new.bytes (Ok t)) c.in-Block.is c.in-Ok-answer.ensures.gives in
    let count = c.wanted-count-in-decode_all in
    block_fails legal runs says count.result (count.ensures.value ∙ ap (wanted_of c.args.asked written) c.block-block.ensures.value) c.if-count-eq0-2.false
    (ap (λ n. n * count.result) c.width-width.ensures.value) c.in-Err-write_all.ensures.err.0 c.ended-in-Err-write_all.ensures.reports

pub returns-in-Err-write_all-clause-failures : goal.returns-in-Err-write_all-clause-failures
returns-in-Err-write_all-clause-failures g c =
    let runs = blocks_passed c.block-block.ensures.legal c.decode_all.invariant.runs c.more_wanted-most.ensures c.in-Ok-write_blocks.ensures.written in
    let reads = runs.reads in
    let writes = c.in-Ok-write_blocks.ensures.ok ∙ c.decode_all.invariant.writes in
    search rules

pub returns-in-Err-write_all-clause-bounds : goal.returns-in-Err-write_all-clause-bounds
returns-in-Err-write_all-clause-bounds g c =
    let runs = blocks_passed c.block-block.ensures.legal c.decode_all.invariant.runs c.more_wanted-most.ensures c.in-Ok-write_blocks.ensures.written in
    ends_within runs c.in-Ok-answer.ensures.gives.counted c.ended-in-Err-write_all.ensures.reports

pub overflow_add-written-in-decode_all : goal.overflow_add-written-in-decode_all
overflow_add-written-in-decode_all g c =
    let legal = c.block-block.ensures.legal in
    let runs = blocks_passed legal c.decode_all.invariant.runs c.more_wanted-most.ensures c.in-Ok-write_blocks.ensures.written in
    let written = c.decode_all.written + c.in-Ok-write_blocks.samples in
    let old = c.write_blocks.new in
    let new = c.bytes_of_next-answer.new in
    let says = subst (λ t. AnswersBytes old.reader new.reader old.meter new.meter old.decoder new.decoder new.bytes (Ok t)) c.in-Block.is c.in-Ok-answer.ensures.gives in
    let count = c.wanted-count-in-decode_all in
    let next = block_written legal runs says count.result (count.ensures.value ∙ ap (wanted_of c.args.asked written) c.block-block.ensures.value) c.if-count-eq0-2.false
    (ap (λ n. n * count.result) c.width-width.ensures.value) c.in-Ok-write_all.ensures.ok.0 refl in
    let few : written + count.result ≤ 456 * 4503599627370496 = omega (arith, next.has_steps.by_bits, next.limit) in
    search rules

pub decode_all-preserved : goal.decode_all-preserved
decode_all-preserved g c =
    let legal = c.block-block.ensures.legal in
    let runs = blocks_passed legal c.decode_all.invariant.runs c.more_wanted-most.ensures c.in-Ok-write_blocks.ensures.written in
    let written = c.decode_all.written + c.in-Ok-write_blocks.samples in
    let old = c.write_blocks.new in
    let new = c.bytes_of_next-answer.new in
    let says = subst (λ t. AnswersBytes old.reader new.reader old.meter new.meter old.decoder new.decoder new.bytes (Ok t)) c.in-Block.is c.in-Ok-answer.ensures.gives in
    let count = c.wanted-count-in-decode_all in
    record {
      runs = block_written legal runs says count.result (count.ensures.value ∙ ap (wanted_of c.args.asked written) c.block-block.ensures.value) c.if-count-eq0-2.false
          (ap (λ n. n * count.result) c.width-width.ensures.value) c.in-Ok-write_all.ensures.ok.0 c.tick-in-decode_all.ensures;
      writes = c.in-Ok-write_all.ensures.ok.1 ∙ (c.in-Ok-write_blocks.ensures.ok ∙ c.decode_all.invariant.writes);
    }

pub decode_all-smaller : goal.decode_all-smaller
decode_all-smaller g c =
    let legal = c.block-block.ensures.legal in
    let w = c.in-Ok-write_blocks.ensures.written in
    let old = c.write_blocks.new in
    let new = c.bytes_of_next-answer.new in
    let says = subst (λ t. AnswersBytes old.reader new.reader old.meter new.meter old.decoder new.decoder new.bytes (Ok t)) c.in-Block.is c.in-Ok-answer.ensures.gives in
    omega (arith, block_shrinks legal (blocks_passed legal c.decode_all.invariant.runs c.more_wanted-most.ensures w) says, blocks_shrink legal c.decode_all.invariant.runs c.more_wanted-most.ensures w)
