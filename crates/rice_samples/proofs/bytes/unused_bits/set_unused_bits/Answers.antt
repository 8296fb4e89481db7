use Rattle.std.proofs.Common.{◌≡◌, ℕ, ◌+◌, ◌-◌, ◌*◌, ◌/◌, ◌≤◌, ◌++◌, length, take, drop, refl, ap, subst, arith, ◌∙◌}
use Rattle.std.proofs.Math.Nat.{div-add-mod, mul-le-mul_left}
use borrow.Rule.Slice.PartMut.{Post-is, same_len_mid}
use Rattle.rice_samples.proofs.lemmas.bytes.UnusedBits.{SpelledSoFar, none_so_far, one_more}
use Rattle.rice_samples.proofs.bytes.unused_bits.set_unused_bits.Goals as goal

-- a word that is whole ends inside
ends_inside : (w i n : ℕ) → i + 1 ≤ n / w → w * i + w ≤ n
ends_inside w i n le = let more : w * (i + 1) ≤ w * (n / w) = mul-le-mul_left w le in omega (arith, more, div-add-mod n w)

pub loop-i-init : goal.loop-i-init
loop-i-init c = record { len = refl; so_far = none_so_far c.args.setting.now c.args.bytes.now c.width-width.result }

pub loop-i-preserved : goal.loop-i-preserved
loop-i-preserved c =
    let s = c.args.setting.now in
    let old = c.args.bytes.now in
    let bytes = c.loop-i.bytes in
    let w = c.width-width.result in
    let i = c.loop-i.i in
    let at = w * i in
    let one = c.set_unused_bits_of_one.new.bytes in
    let inside : at + w ≤ length old = ends_inside w i (length old) (omega arith) in
    let len = c.loop-i.invariant.len in
    let count : at + w - at ≡ w = omega arith in
    let next : at + w ≡ w * (i + 1) = omega arith in
    record {
      len = same_len_mid at (at + w - at) bytes one c.set_unused_bits_of_one.auto.bytes ∙ len;
      so_far = subst (λ (n : ℕ). SpelledSoFar s old (take at bytes ++ (one ++ drop (at + w - at) (drop at bytes))) n) next
          (one_more w c.loop-i.invariant.so_far inside len (ap (λ n. take n (drop at bytes)) count) c.set_unused_bits_of_one.ensures
          (ap (λ l. take at bytes ++ (one ++ l)) (Post-is at (at + w) bytes (omega arith))));
    }
