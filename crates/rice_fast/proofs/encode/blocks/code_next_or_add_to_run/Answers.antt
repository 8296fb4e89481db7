use Rattle.rice_fast.proofs.Words.{◌≡◌, ◌+◌, ◌*◌, ◌≤◌, ◌∙◌, length, ap, arith, sym, true, false, mul-le-mul_left, k_max}
use Rattle.rice_fast.proofs.lemmas.encode.Stops.{no_zero_block, zero_block}
use Rattle.rice_fast.proofs.encode.blocks.code_next_or_add_to_run.Goals as goal

pub returns-then-whole-eq0-clause-ends : goal.returns-then-whole-eq0-clause-ends
returns-then-whole-eq0-clause-ends g c = λ other. absurd (let f : true ≡ false = sym (zero_block c.args.block.residuals (omega (arith, c.requires.whole, c.if-whole-eq0.true))) ∙ other in cc)

pub put_run_before_block-requires-clause-room : goal.put_run_before_block-requires-clause-room
put_run_before_block-requires-clause-room g c =
    let s = c.args.setting.now in
    let room = c.requires.room (no_zero_block c.args.block.residuals (omega (arith, c.requires.whole, c.if-whole-eq0.false))) in
    let len = c.len.ensures.value ∙ (ap length c.residuals.ensures ∙ c.requires.sound.len) in
    let some : s.block * 1 ≤ s.block * (k_max s + 5) = mul-le-mul_left s.block (omega arith) in
    record { room = omega (arith, room.room); steps = omega (arith, room.steps, c.tick.ensures, len, some) }

pub returns-then-len-lt8-clause-joins : goal.returns-then-len-lt8-clause-joins
returns-then-len-lt8-clause-joins g c = λ none. absurd (let f : true ≡ false = sym none ∙ no_zero_block c.args.block.residuals (omega (arith, c.requires.whole, c.if-whole-eq0.false)) in cc)

pub code_in_rows-requires-clause-room : goal.code_in_rows-requires-clause-room
code_in_rows-requires-clause-room g c =
    let s = c.args.setting.now in
    let room = c.requires.room (no_zero_block c.args.block.residuals (omega (arith, c.requires.whole, c.if-whole-eq0.false))) in
    let len = c.len.ensures.value ∙ (ap length c.residuals.ensures ∙ c.requires.sound.len) in
    let looks : s.block * (k_max s + 5) ≡ s.block * (k_max s + 4) + s.block = omega arith in
    record {
      room = omega (arith, room.room, c.put_run_before_block.ensures.len);
      steps = omega (arith, room.steps, c.tick.ensures, len, looks, c.put_run_before_block.ensures.steps);
    }

pub code_in_rows-requires-in-None-clause-room : goal.code_in_rows-requires-in-None-clause-room
code_in_rows-requires-in-None-clause-room g c =
    let s = c.args.setting.now in
    let room = c.requires.room (no_zero_block c.args.block.residuals (omega (arith, c.requires.whole, c.if-whole-eq0.false))) in
    let len = c.len.ensures.value ∙ (ap length c.residuals.ensures ∙ c.requires.sound.len) in
    let looks : s.block * (k_max s + 5) ≡ s.block * (k_max s + 4) + s.block = omega arith in
    record {
      room = omega (arith, room.room, c.put_run_before_block.ensures.len);
      steps = omega (arith, room.steps, c.tick.ensures, len, looks, c.put_run_before_block.ensures.steps);
    }

pub returns-in-Some-clause-joins : goal.returns-in-Some-clause-joins
returns-in-Some-clause-joins g c = λ none. absurd (let f : true ≡ false = sym none ∙ no_zero_block c.args.block.residuals (omega (arith, c.requires.whole, c.if-whole-eq0.false)) in cc)

pub returns-in-None-clause-joins : goal.returns-in-None-clause-joins
returns-in-None-clause-joins g c = λ none. absurd (let f : true ≡ false = sym none ∙ no_zero_block c.args.block.residuals (omega (arith, c.requires.whole, c.if-whole-eq0.false)) in cc)
