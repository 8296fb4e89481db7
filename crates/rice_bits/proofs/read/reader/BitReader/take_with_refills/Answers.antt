use Rattle.std.proofs.Common.{arith, ◌≡◌, ◌+◌, ◌-◌, ◌++◌, [], ap, sym, ◌∙◌, None, length-append}
use Rattle.std.proofs.lemmas.{Grind.common_steps, Nat.pow_pos}
use Rattle.rice_bits.proofs.lemmas.read.ReaderLemmas.{no_refusal, refusal_is, takes-none, takes-append, stops-append, still_buffered}
use Rattle.rice_bits.proofs.lemmas.bits.WordsAndNumbers.{join_below, length-word, word-nil, word-cat}
use Rattle.rice_bits.specs.Bits.{word}
use Rattle.rice_bits.proofs.read.reader.BitReader.take_with_refills.Goals as goal

pub loop-left-init : goal.loop-left-init
loop-left-init g c =
    let e : c.args.width - c.args.width ≡ 0 = omega arith in
    let none : c.args.self.now.refusal ≡ None = ap (λ r. r.refusal) (sym c.self.view_is) ∙ no_refusal c.self.inside.refusal (sym c.is_some.ensures ∙ c.if-is_some.false) in
    grind (arith, common_steps, pow_pos, word-nil, takes-none)

pub take_some_digits-requires-clause-meter : goal.take_some_digits-requires-clause-meter
take_some_digits-requires-clause-meter g c =
    omega (arith, c.loop-left.invariant.takes.taken, length-word (c.args.width - c.loop-left.left) c.loop-left.value, c.loop-left.invariant.steps)

pub loop-left-preserved : goal.loop-left-preserved
loop-left-preserved g c =
    let k : (c.args.width - c.loop-left.left) + c.in-Ok.count ≡ c.args.width - (c.loop-left.left - c.in-Ok.count) = omega (arith, c.in-Ok.ensures.count) in
    let w = word-cat (c.args.width - c.loop-left.left) c.in-Ok.count c.loop-left.value c.in-Ok.digits c.in-Ok.ensures.count.2 in
    let b = join_below (c.args.width - c.loop-left.left) c.in-Ok.count c.loop-left.value c.in-Ok.digits c.loop-left.invariant.below c.in-Ok.ensures.count.2 in
    let t = takes-append c.args.self.now c.loop-left.self c.take_some_digits.new.self _ _ c.loop-left.invariant.takes c.in-Ok.ensures.ok in
    grind (arith, common_steps, still_buffered, length-word)

pub returns-in-Err-clause-err : goal.returns-in-Err-clause-err
returns-in-Err-clause-err g c none = refusal_is _ _ _ c.in-Err.ensures.err.refusal (
  word (c.args.width - c.loop-left.left) c.loop-left.value ++ [],
  omega (
    arith,
    length-append (word (c.args.width - c.loop-left.left) c.loop-left.value) [],
    length-word (c.args.width - c.loop-left.left) c.loop-left.value,
    c.loop-left.invariant.within,
    c.loop-left-test.true,
  ),
  stops-append c.args.self.now c.loop-left.self c.take_some_digits.new.self _ _ _ c.loop-left.invariant.takes c.in-Err.ensures.err,
)

pub returns-in-Err-clause-idle : goal.returns-in-Err-clause-idle
returns-in-Err-clause-idle g c h = grind (arith, common_steps, still_buffered, length-word)

pub returns-in-Err-clause-most : goal.returns-in-Err-clause-most
returns-in-Err-clause-most g c =
    omega (arith, c.loop-left.invariant.takes.taken, length-word (c.args.width - c.loop-left.left) c.loop-left.value, c.in-Err.ensures.err.taken, c.loop-left.invariant.within)

pub returns-clause-taken : goal.returns-clause-taken
returns-clause-taken g c =
    omega (arith, c.loop-left.invariant.takes.taken, length-word (c.args.width - c.loop-left.left) c.loop-left.value, c.loop-left-test.false)

pub returns-clause-most : goal.returns-clause-most
returns-clause-most g c =
    omega (arith, c.loop-left.invariant.takes.taken, length-word (c.args.width - c.loop-left.left) c.loop-left.value, c.loop-left-test.false)
