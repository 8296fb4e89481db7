-- Residuals so large that the last split is the best one, and no compression is not longer.
use Rattle.rice_fast.proofs.Words.{◌≡◌, ℕ, ◌+◌, ◌*◌, ◌^◌, ◌<◌, ◌≤◌, length, arith, mul-le-mul_left, pow-le-pow_right, Parameters, k_max, cut_sum, BlockData, IsBestSplit, NoCompression, Split, cost}
use Rattle.rice_fast.proofs.Words.{sent_residuals, IsSoundData, coded_sum, sum_stop_is_best, all_sent}
use Rattle.rice_fast.proofs.lemmas.{encode.LargeSums.large_falls, encode.LargeSums.large_leaves, encode.Stops.last_split}

-- the sum is as large, in these words
pub so_large : (s : Parameters) (c : BlockData) {size coded k whole : ℕ} → size ≡ length c.residuals → coded ≡ length (sent_residuals c) → k ≡ k_max s → whole ≡ cut_sum c.residuals 0
    → (size + 2 * coded) * 2 ^ k ≤ whole → (length c.residuals + 2 * length (sent_residuals c)) * 2 ^ k_max s ≤ cut_sum c.residuals 0
so_large s c {size} {coded} {k} {whole} all sent last is large =
    let least : (size + 2 * coded) * 2 ^ k ≡ (length c.residuals + 2 * length (sent_residuals c)) * 2 ^ k_max s = λ i. (all i + 2 * sent i) * 2 ^ last i in
    omega (arith, least, large, is)

-- at so large a sum each digit takes more than its price off, so the last split is the best one
pub last_is_best : (s : Parameters) (c : BlockData) → IsSoundData s c → 0 < length c.residuals
    → (length c.residuals + 2 * length (sent_residuals c)) * 2 ^ k_max s ≤ cut_sum c.residuals 0 → IsBestSplit s c (k_max s)
last_is_best s c sound some large =
    let least = length c.residuals + 2 * length (sent_residuals c) in
    sum_stop_is_best s c (k_max s) sound.zero (omega arith)
    (λ j lt. large_falls c.residuals (length (sent_residuals c)) j some (
    let less : 2 ^ j ≤ 2 ^ k_max s = pow-le-pow_right {n = 2} (omega arith) {i = j} {j = k_max s} (omega (arith, lt)) in
    let within : least * 2 ^ j ≤ least * 2 ^ k_max s = mul-le-mul_left least less in
    omega (arith, within, large)))
    (λ lt. absurd (omega (arith, lt)))

-- it leaves three bits of a sample at most, and its high parts have two bits more than the residuals at least, so that no compression is not longer
pub split_is_not_shorter : (s : Parameters) (c : BlockData) → IsSoundData s c → s.bits ≤ 32 → 0 < length c.residuals
    → (length c.residuals + 2 * length (sent_residuals c)) * 2 ^ k_max s ≤ cut_sum c.residuals 0 → cost s (NoCompression c) ≤ cost s (Split (k_max s) c)
split_is_not_shorter s c sound most some large =
    let n = length (sent_residuals c) in
    let few : n * s.bits ≤ n * (k_max s + 3) = mul-le-mul_left n ((last_split s).1 most) in
    omega (arith, large_leaves c.residuals n (k_max s) some large, coded_sum c.reference c.residuals (k_max s) sound.zero, all_sent s c.reference c.residuals (omega (arith, some)))
