use Rattle.std.proofs.Common.{rules, arith, ℕ, zero, suc, ◌≡◌, ◌≤◌, ◌∙◌, ap, w64, replicate, ℤ}
use Rattle.rice_code.proofs.{Words.to_z-of_z, Words.All-replicate, Words.last_of, Words.common_steps, lemmas.decode.RestoredBlocks.zeros_restored, lemmas.code.RepeatedSamples.last_replicate}
use mir.Val.{SFits}
use Rattle.rice_code.proofs.decode.restoring.restore_zero_block.Goals as goal

last_of_many : (p x : ℤ) (n : ℕ) → 1 ≤ n → last_of p (replicate n x) ≡ x
last_of_many p x zero h = absurd (omega arith)
last_of_many p x (suc n) h = last_replicate x n

pub returns-clause-last : goal.returns-clause-last
returns-clause-last c = grind (arith, common_steps, to_z-of_z, last_of_many)

pub returns-clause-legal : goal.returns-clause-legal
returns-clause-legal c = grind (arith, common_steps, to_z-of_z, All-replicate)

pub returns-clause-contents : goal.returns-clause-contents
returns-clause-contents c =
    let s = c.args.setting.now in
    let x = c.sample_of_residual-first.result in
    let f : SFits w64 x = search rules in
    let e : SFits w64 c.args.p = c.ranges.p in
    let items = rw (to_z-of_z w64 x f) at c.loop.invariant in
    let count : c.loop.counter ≡ s.block = omega (arith, c.loop-test.false, c.loop.auto.counter-end, c.block-end.ensures.value) in
    let some : 1 ≤ s.block = omega (arith, c.block-end.ensures.value, c.block-end.ensures.range) in
    let all : c.loop.samples.items ≡ replicate s.block x = items ∙ ap (λ n. replicate n x) count in
    let residual = rw (to_z-of_z w64 c.args.p e) at c.sample_of_residual-first.ensures.residual in
    grind (arith, common_steps, zeros_restored)
