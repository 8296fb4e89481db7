use Rattle.rice_fast.proofs.Words.{arith, refl, subst, sym, SpelledAhead}
use Rattle.rice_fast.proofs.lemmas.CopiedBlocks.{CopiedBlock, copied_ahead}
use Rattle.rice_fast.proofs.copied_blocks.write_copied_block.Goals as goal

pub returns-clause-some : goal.returns-clause-some
returns-clause-some g c = λ b p.
    let w = g.row.WIDTH in
    let s = c.args.setting.now in
    let buffered = c.args.ahead.now in
    let bytes = c.write_copied_ahead.new.bytes in
    let last = c.last_copied.ensures in
    let block : CopiedBlock buffered s w bytes =
    record { there = omega (arith, c.copied_len-len.ensures, c.if-buffered-len.false, c.requires.there); id = c.if-not-is_copied_ahead.ensures refl; words = c.write_copied_ahead.ensures } in
    subst (λ n. SpelledAhead buffered s b p c.last_copied.result n 0 bytes) (sym c.copied_len-len.ensures.value)
    (copied_ahead c.block-block.ensures.legal (c.if-not-is_copied.ensures refl) block last.below last.last b p)
