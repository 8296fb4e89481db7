use Rattle.rice_stream.proofs.Words.{◌≡◌, ◌≤◌, ◌+◌, ◌*◌, ◌∙◌, ap, arith, length, take, mul-le-mul_left}
use Rattle.rice_stream.proofs.lemmas.RunsWritten.{copied-on, first-copy}
use Rattle.rice_stream.proofs.runs.repeat_bytes.Goals as goal

pub copy_within-requires-clause-dest_in_bounds : goal.copy_within-requires-clause-dest_in_bounds
copy_within-requires-clause-dest_in_bounds c =
    let w = length c.args.pattern.now in
    let most : w * (c.repeat.done + c.min-more.result) ≤ w * c.args.count = mul-le-mul_left w (omega (arith, c.min-more.ensures, c.repeat-test.true)) in
    omega (arith, most, c.repeat.invariant.len)

pub repeat-init : goal.repeat-init
repeat-init c =
    let pattern = c.args.pattern.now in
    let old = c.args.bytes.now in
    let same : c.copy_from_slice.new.self ≡ pattern = c.copy_from_slice.ensures.after in
    let first = first-copy pattern (c.copy_from_slice.new.self) old c.args.count same c.requires.count c.requires.len in
    record { some = omega arith; within = c.requires.count; len = first.0; copies = first.1 }

pub repeat-preserved : goal.repeat-preserved
repeat-preserved c =
    let pattern = c.args.pattern.now in
    let done = c.repeat.done in
    let more = c.min-more.result in
    let few : done + more ≤ c.args.count = omega (arith, c.min-more.ensures, c.repeat-test.true) in
    let inside : more ≤ done = omega (arith, c.min-more.ensures) in
    record {
      some = omega (arith, c.repeat.invariant.some);
      within = few;
      len = c.copy_within.ensures.len ∙ c.repeat.invariant.len;
      copies = ap (take (length pattern * (done + more))) c.copy_within.ensures.after
          ∙ copied-on pattern c.repeat.bytes done more c.args.count inside few c.repeat.invariant.len c.repeat.invariant.copies;
    }
