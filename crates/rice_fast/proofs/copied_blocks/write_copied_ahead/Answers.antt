use Rattle.rice_fast.proofs.Words.{◌≡◌, ◌+◌, ◌*◌, ◌≤◌, ◌∙◌, arith, ap, drop, length, take, id_len}
use Rattle.rice_fast.proofs.lemmas.CopiedBlocks.{block_words, no_words, words_more}
use Rattle.rice_fast.proofs.copied_blocks.write_copied_ahead.Goals as goal

pub loop-i-init : goal.loop-i-init
loop-i-init g c = record { words = no_words c.args.ahead.now c.args.setting.now g.row.WIDTH c.args.bytes.now }

pub loop-i-preserved : goal.loop-i-preserved
loop-i-preserved g c =
    let l = c.loop-i in
    let s = c.args.setting.now in
    let patterns = c.words_ahead-patterns in
    let same : g.row.WIDTH * c.args.size ≡ g.row.WIDTH * s.block = ap (λ n. g.row.WIDTH * n) c.requires.size in
    let room : 16 * l.i + 16 ≤ length l.bytes = omega (arith, c.loop-i-test.true, same, c.requires.room, l.auto.bytes) in
    let place : c.known_id_len-head.result + 128 * l.i ≡ id_len s + 128 * l.i = omega (arith, c.known_id_len-head.ensures.value) in
    record {
      words = words_more l.i l.invariant.words c.bytes_of_patterns-spelled.ensures.words patterns.ensures.len
          c.bytes_of_patterns-spelled.ensures.len room (patterns.ensures.bits ∙ ap (λ n. take 128 (drop n c.args.ahead.now)) place);
    }

pub returns : goal.returns
returns g c =
    let same : g.row.WIDTH * c.args.size ≡ g.row.WIDTH * c.args.setting.now.block = ap (λ n. g.row.WIDTH * n) c.requires.size in
    block_words c.args.ahead.now c.args.setting.now g.row.WIDTH (16 * c.loop-i.i) c.loop-i.bytes c.requires.copied
    c.loop-i.invariant.words (omega (arith, c.loop-i-test.false, same))
