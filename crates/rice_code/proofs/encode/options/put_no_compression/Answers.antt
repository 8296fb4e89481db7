use Rattle.std.proofs.Common.{◌≡◌, ℕ, ◌≤◌, ◌-◌, ◌*◌, ◌%◌, ◌^◌, arith, append_assoc}
use Rattle.rice_code.proofs.{lemmas.cost.CostIsLength.coded_and_reference, Words.pow-le-pow_right, Words.common_steps, lemmas.encode.OptionTexts.sent_are}
use Rattle.rice_code.proofs.encode.options.put_no_compression.Goals as goal

-- the identifier does not wrap
all_ones : (n : ℕ) → n ≤ 5 → (1 * 2 ^ n) % 4294967296 - 1 ≡ 2 ^ n - 1
all_ones n h = let few : 2 ^ n ≤ 2 ^ 5 = pow-le-pow_right {n = 2} (omega arith) {i = n} {j = 5} h in omega (arith, few)

pub put_low-requires-clause-room : goal.put_low-requires-clause-room
put_low-requires-clause-room c = grind (arith, common_steps, sent_are, coded_and_reference)

pub returns : goal.returns
returns c = grind (arith, common_steps, sent_are, coded_and_reference, all_ones, append_assoc)
