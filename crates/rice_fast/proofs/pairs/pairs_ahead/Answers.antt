use Rattle.rice_fast.proofs.Words.{◌≡◌, ◌⊎◌, ◌*◌, ◌/◌, ◌∙◌, ap, arith, drop, get_or, length, sum, sym, take, inl, inr, flat_map, get_or-take, length-drop, length-take-le, fundamental_sequence}
use Rattle.rice_fast.proofs.Words.{pair_codes}
use Rattle.rice_fast.proofs.lemmas.Pairs.{sum_of_pairs, zero_at_reference}
use Rattle.rice_fast.proofs.pairs.pairs_ahead.Goals.{else-references-gt0-via-then-references-gt0+else-numbers-ne0, else-references-gt0-via-else-references-gt0}
use Rattle.rice_fast.proofs.pairs.pairs_ahead.Goals as goal

pub returns-clause-some : goal.returns-clause-some
returns-clause-some c =
    let size = c.args.size in
    let w = c.args.ahead.now in
    let skip = c.args.skip in
    let n = c.in_ok-len.len in
    let numbers = c.write_pairs.new.numbers in
    let first = take size numbers in
    let high = c.in_ok-len.ensures.some in
    let all : 2 * (size / 2) ≡ size = omega (arith, c.requires.even) in
    let pairs : pair_codes first ≡ take (size / 2) c.high_parts_ahead.new.highs = ap (λ m. pair_codes (take m numbers)) (sym all) ∙ c.in_ok-turns.ensures.pairs in
    let total : sum first ≡ c.in_ok-turns.turns = ap (λ m. sum (take m numbers)) (sym all) ∙ c.in_ok-turns.ensures.sum in
    let spelled : flat_map fundamental_sequence (pair_codes first) ≡ take n (drop skip w) = ap (flat_map fundamental_sequence) pairs ∙ high.spelled in
    let len : length first ≡ size = length-take-le size numbers (omega (arith, c.write_pairs.array_long, c.requires.size)) in
    let bits : length (take n (drop skip w)) ≡ n = length-take-le n (drop skip w) (omega (arith, c.requires.skip, c.in_ok-len.ensures.short, length-drop skip w)) in
    let most = sum_of_pairs (size / 2) first (omega (arith, len, c.requires.even)) in
    let zero : (c.args.references ≡ 0) ⊎ (get_or first 0 0 ≡ 0) = elim c.else-references-gt0.branch [
      | else-references-gt0-via-then-references-gt0+else-numbers-ne0 b ↦ inr (get_or-take size numbers 0 0 (omega (arith, c.requires.size)) ∙ b.if-numbers-ne0.false)
      | else-references-gt0-via-else-references-gt0 b ↦ inl (omega (arith, b.if-references-gt0.false))
    ] in
    record {
      zeros = zero_at_reference c.args.references first c.requires.references (omega (arith, len, c.requires.size)) zero;
      spelled = spelled;
      turns_are = total;
      few = omega (arith, total, most, ap length spelled, bits);
    }
