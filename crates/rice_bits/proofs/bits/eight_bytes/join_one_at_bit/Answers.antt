use Rattle.std.proofs.Common.{◌≡◌, ℕ, zero, suc, ◌-◌, ◌/◌, ◌%◌, ◌^◌, ◌<◌, ◌∙◌, arith, refl, ap, set, bit_or}
use Rattle.std.specs.{Int.rotate_right, Int.w8, List.slice_index}
use Rattle.rice_bits.proofs.bits.eight_bytes.join_one_at_bit.Goals as goal

-- a 1 that is moved from the front
turned : (k : ℕ) → k < 8 → rotate_right w8 128 k ≡ 2 ^ (7 - k)
turned zero h = refl
turned (suc zero) h = refl
turned (suc (suc zero)) h = refl
turned (suc (suc (suc zero))) h = refl
turned (suc (suc (suc (suc zero)))) h = refl
turned (suc (suc (suc (suc (suc zero))))) h = refl
turned (suc (suc (suc (suc (suc (suc zero)))))) h = refl
turned (suc (suc (suc (suc (suc (suc (suc zero))))))) h = refl
turned (suc (suc (suc (suc (suc (suc (suc (suc k)))))))) h = absurd (omega arith)

pub returns : goal.returns
returns c =
    ap (λ n. set c.args.bytes.now (c.args.at / 8) (bit_or (slice_index c.args.bytes.now (c.args.at / 8)) n)) (c.rotate_right.ensures ∙ turned (c.args.at % 8) (omega arith))
