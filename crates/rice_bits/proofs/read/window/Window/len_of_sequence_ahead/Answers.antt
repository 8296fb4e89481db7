use Rattle.std.proofs.Common.{◌≡◌, ℕ, ◌+◌, ◌-◌, ◌/◌, ◌^◌, ◌<◌, ◌++◌, arith, sym, ◌∙◌, ap, false, length, min, replicate, take, take-take}
use Rattle.std.{proofs.lemmas.List.length-take-le, proofs.lemmas.List.take-replicate, proofs.lemmas.List.take_at, proofs.lemmas.Grind.common_steps, specs.Int.Count.leading_unique}
use Rattle.std.proofs.{lemmas.Nat.leading_top, Math.Nat.pow-suc}
use Rattle.rice_bits.proofs.lemmas.read.WindowLemmas.{length-window, run-within, near-there, window-front}
use Rattle.rice_bits.proofs.lemmas.bits.{WordsAndNumbers.length-fundamental_sequence, WordsAndNumbers.word-zero, FrontsOfWords.first_run, FrontsOfWords.take-front, FrontsOfWords.word-parts}
use Rattle.rice_bits.specs.{Window.bits_near, Window.window_bits, Bits.fundamental_sequence, Bits.word}
use lib.Count.{count_leading_zeros}
use Rattle.rice_bits.proofs.read.window.Window.len_of_sequence_ahead.Goals as goal

pub returns-then-after_zero-eq0-clause-none : goal.returns-then-after_zero-eq0-clause-none
returns-then-after_zero-eq0-clause-none c =
    let w = c.args.self.now in
    let r = c.first_bits_ahead-after_zero.result in
    let n = bits_near w in
    let few = min 57 (length (window_bits w)) in
    let near = take n (window_bits w) in
    let len : length near ≡ n = length-take-le n (window_bits w) (omega arith) in
    let zeros : take 63 (word 64 r) ≡ replicate 63 false = take-front 64 63 r (omega arith) ∙ (ap (word 63) c.if-after_zero-eq0.true ∙ word-zero 63) in
    let front : take few (word 64 r) ≡ replicate few false =
    sym (take-take few 63 (word 64 r) (omega arith)) ∙ (ap (take few) zeros ∙ take-replicate few 63 false (omega arith)) in
    grind (arith, common_steps, take-take)

-- a fundamental sequence stands at the front of a word that is not 0, and has as many bits as zeros stand there after one zero more
begins : (r : ℕ) → 0 < r / 2 → r < 2 ^ 64 → (count_leading_zeros 64 (r / 2) ≡ count_leading_zeros 64 r + 1) × (count_leading_zeros 64 r < 64)
    × (word 64 r ≡ fundamental_sequence (count_leading_zeros 64 r) ++ word (64 - (count_leading_zeros 64 r + 1)) r)
begins r some fits =
    let z = count_leading_zeros 64 r in
    let top = leading_top 64 r (omega (arith, some)) fits in
    let within : z < 64 = omega (arith, top.1) in (
      sym (leading_unique 64 (r / 2) (z + 1) top.0 (omega (arith, top.1)) (omega (arith, top.3, pow-suc 2 top.0)) (omega (arith, top.2))),
      within,
      word-parts 64 (z + 1) r (omega (arith, within)) ∙ ap (λ d. d ++ word (64 - (z + 1)) r) (first_run r within fits),
    )

pub returns-clause-some : goal.returns-clause-some
returns-clause-some c =
    let w = c.args.self.now in
    let r = c.first_bits_ahead-after_zero.result in
    let z = count_leading_zeros 64 r in
    let front = begins r (omega (arith, c.if-after_zero-eq0.false)) (omega arith) in
    let same : count_leading_zeros 64 (r / 2) - 1 ≡ z = omega (arith, front.0) in
    let short = run-within z _ _ _ (sym front.2 ∙ c.first_bits_ahead-after_zero.ensures) in
    let len = length-fundamental_sequence z in
    let there = near-there w (fundamental_sequence z) c.requires (omega (arith, short, len)) in
    let split = (window-front (w.at + (z + 1)) r (fundamental_sequence z) _ c.requires c.first_bits_ahead-after_zero.ensures front.2 (omega (arith, short, len)) (omega (arith, len))).split in (
      omega (arith, front.0),
      omega (arith, front.0, len, there, length-window w c.requires),
      rw same (ap (take (count_leading_zeros 64 (r / 2))) split ∙ take_at (fundamental_sequence z) _ (count_leading_zeros 64 (r / 2)) (len ∙ sym front.0)),
    )
