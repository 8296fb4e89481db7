-- Levels, and the patterns and words of the values at these.
use Rattle.std.proofs.Common.{◌≡◌, ℕ, ◌+◌, ◌-◌, ◌*◌, ◌%◌, ◌^◌, ◌<◌, ◌≤◌, ap, arith, sym, ◌∙◌}
use Rattle.std.proofs.{lemmas.Nat.and_mask, lemmas.Nat.mod-mul-add, lemmas.Nat.mod_below, lemmas.Nat.pow-add, lemmas.Nat.pow_pos, Math.Nat.mod-add-mod, Math.Nat.mul-le-mul_right}
use Rattle.std.{proofs.Math.Pow.mod-mod-pow, proofs.Math.Pow.pow_mono, proofs.lemmas.Grind.common_steps, specs.Prelude.bit_and}
use Rattle.rice_samples.proofs.lemmas.bytes.SpellingLemmas.{level_from_pattern, offset_limit, same_offset, wider_value}
use Rattle.rice_samples.specs.{Parameters.Parameters, Parameters.least, Parameters.level, Parameters.value_at, Parameters.value_count, Residuals.pattern, Residuals.twos_complement}
use Rattle.rice_samples.proofs.lemmas.{setting.ValuesAboveLeast.gap_above, setting.ValuesAboveLeast.sample_at, predict.InverseRanksAndPatterns.has_pattern, setting.ValuesAtLevels.value_of_level}
use Rattle.rice_samples.{proofs.lemmas.setting.LevelsOfSamples.pattern_fits, specs.Parameters.offset, specs.Parameters.IsValue}

-- a level that the offset has turned is that of the value with this pattern
pattern_of_level : (s : Parameters) (v : ℕ) → 1 ≤ s.bits → v < value_count s → pattern s (value_at s ((v + offset s) % 2 ^ s.bits)) ≡ v
pattern_of_level s v h lt =
    let x = has_pattern s h v lt in
    let l : (v + offset s) % 2 ^ s.bits ≡ level s x.0 = ap (λ w. (w + offset s) % 2 ^ s.bits) (sym x.2) ∙ level_from_pattern s s.bits x.0 h (omega arith) x.1 in
    ap (λ w. pattern s (value_at s w)) l ∙ (ap (pattern s) (value_of_level s x.0 x.1) ∙ x.2)

-- the lowest digits of a sum that wraps
low_sum : (n a : ℕ) → n ≤ 32 → bit_and (a % 2 ^ 32) (2 ^ n - 1) ≡ a % 2 ^ n
low_sum n a h =
    let e : 32 ≡ 32 - n + n = omega arith in
    and_mask (a % 2 ^ 32) n ∙ (ap (λ k. a % 2 ^ k % 2 ^ n) e ∙ mod-mod-pow a (32 - n) n)

-- the level of the sample with a pattern
pub level_of_pattern : (s : Parameters) (v o greatest : ℕ) → 1 ≤ s.bits → s.bits ≤ 32 → v < value_count s → o ≡ offset s → greatest ≡ value_count s - 1
    → pattern s (value_at s (bit_and ((v + o) % 2 ^ 32) greatest)) ≡ v
level_of_pattern s v o greatest h k lt e g = grind (arith, common_steps, low_sum, pattern_of_level)

-- back to a level
level_again : (wide l o more : ℕ) → more ≤ wide → l < 2 ^ more → o ≤ 2 ^ more → ((l + (2 ^ wide - o)) % 2 ^ wide % 2 ^ more + o) % 2 ^ more ≡ l
level_again wide l o more h lt le =
    let e : wide ≡ wide - more + more = omega arith in
    let parts = pow-add 2 (wide - more) more in
    let whole : 2 ^ wide ≡ 2 ^ (wide - more) * 2 ^ more = ap (λ k. 2 ^ k) e ∙ parts in
    let some = pow_pos (wide - more) in
    let low : (l + (2 ^ wide - o)) % 2 ^ wide % 2 ^ more ≡ (l + (2 ^ wide - o)) % 2 ^ more = ap (λ k. (l + (2 ^ wide - o)) % 2 ^ k % 2 ^ more) e
    ∙ mod-mod-pow (l + (2 ^ wide - o)) (wide - more) more in
    ap (λ m. (m + o) % 2 ^ more) low ∙ (mod-add-mod (l + (2 ^ wide - o)) (2 ^ more) o ∙ wraps (2 ^ wide) (2 ^ (wide - more)) (2 ^ more) whole some lt le)
  where
    wraps : (all parts c : ℕ) → all ≡ parts * c → 0 < parts → l < c → o ≤ c → (l + (all - o) + o) % c ≡ l
    wraps all parts c e some lt le =
        let inside : o ≤ all = let m : 1 * c ≤ parts * c = mul-le-mul_right c some in omega arith in
        let f : l + (all - o) + o ≡ parts * c + l = omega arith in
        rw f (mod-mul-add parts c l lt)

-- the word in which the value at a level is spelled, by a difference in more bits
pub word_in_lane : (s : Parameters) (wide more l o : ℕ) → 1 ≤ s.bits → s.bits ≤ more → more ≤ wide → o ≡ offset s → l < value_count s
    → (l + (2 ^ wide - o)) % 2 ^ wide % 2 ^ more ≡ twos_complement more (value_at s l)
word_in_lane s wide more l o h le few e lt =
    let x = value_at s l in
    let sample = sample_at s l lt in
    let own : Parameters = record s { bits = more } in
    let value : IsValue more s.signed x = wider_value s.bits more s.signed x h le sample in
    let limit : o ≤ 2 ^ more = rw e (offset_limit s more h le) in
    let small : l < 2 ^ more = let m = pow_mono le in omega arith in
    let word = (l + (2 ^ wide - o)) % 2 ^ wide % 2 ^ more in
    same_offset word (twos_complement more x) (offset s) (2 ^ more) (mod_below ((l + (2 ^ wide - o)) % 2 ^ wide) (2 ^ more) (pow_pos more))
    (pattern_fits own x (omega arith) value) (offset_limit s more h le)
    (ap (λ m. (word + m) % 2 ^ more) (sym e) ∙ (level_again wide l o more few small limit ∙ sym (level_from_pattern s more x h le sample ∙ gap_above (least s) l)))

-- and in 32 bits
pub word_of_level : (s : Parameters) (more l o : ℕ) → 1 ≤ s.bits → s.bits ≤ more → more ≤ 32 → o ≡ offset s → l < value_count s
    → (l + (2 ^ 32 - o)) % 2 ^ 32 % 2 ^ more ≡ twos_complement more (value_at s l)
word_of_level s more l o h le few e lt = word_in_lane s 32 more l o h le few e lt
