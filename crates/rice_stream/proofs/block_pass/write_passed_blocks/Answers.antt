use Rattle.rice_stream.proofs.Words.{arith, refl, ◌∙◌, ◌*◌, subst, take, Appends, TakesPart}
use Rattle.rice_stream.specs.DecodingState.{at_work}
use Rattle.rice_stream.proofs.lemmas.BlocksPassed.{answers_given, one_more, still_ready}
use Rattle.rice_stream.proofs.block_pass.write_passed_blocks.Goals as goal

pub pass_over-init : goal.pass_over-init
pass_over-init g c = record { ready = c.requires.ready; writes = record { blocks = 0; count_is = omega arith; within = omega arith; each = refl }; counts = refl }

pub pass_over-preserved : goal.pass_over-preserved
pass_over-preserved g c =
    let i = c.pass_over.invariant in
    let size = c.known_or-block.ensures ∙ c.block.ensures.value in
    let says = c.pass.ensures.some c.if-not-pass.false in
    let answers = answers_given says.0 says.1 c.pass.ensures.setting c.pass.ensures.steps in
    let bytes = c.in-Ok.ensures.ok in
    record {
      ready = still_ready i.ready answers says.0 c.pass.ensures.stopped c.pass.ensures.going (omega (arith, c.tick.ensures, size));
      writes = one_more i.writes (omega (arith, size, c.pass_over-test.true)) (record {
        bytes = c.pass.new.bytes;
        steps = c.pass.new.meter;
        no_run = says.0;
        answers = answers;
        state = c.block-place.ensures.state;
        put = subst (λ n. Appends (g.O.Outlet.taken c.pass_over.outlet) (g.O.Outlet.taken c.write_all.new.outlet) (take n c.pass.new.bytes)) (λ j. c.requires.width j * size j) bytes.0;
        ticked = omega (arith, c.tick.ensures, size);
      }) (omega (arith, size));
      counts = bytes.1 ∙ i.counts;
    }

pub returns-in-Err-clause-fails : goal.returns-in-Err-clause-fails
returns-in-Err-clause-fails g c =
    let l = c.pass_over in
    let size = c.known_or-block.ensures ∙ c.block.ensures.value in
    let says = c.pass.ensures.some c.if-not-pass.false in
    record {
      middle = at_work l.reader l.meter l.decoder (g.O.Outlet.taken l.outlet);
      before = l.invariant.writes;
      bytes = c.pass.new.bytes;
      answers = answers_given says.0 says.1 c.pass.ensures.setting c.pass.ensures.steps;
      wanted = omega (arith, size, c.pass_over-test.true);
      part = subst (λ n. TakesPart (g.O.Outlet.taken l.outlet) (g.O.Outlet.taken c.write_all.new.outlet) (take n c.pass.new.bytes)) (λ j. c.requires.width j * size j) c.in-Err.ensures.err.0;
    }
