-- Values, their patterns, and the bytes that spell these.
use Rattle.std.proofs.Common.{◌≡◌, ℕ, zero, suc, ◌+◌, ◌-◌, ◌*◌, ◌/◌, ◌%◌, ◌^◌, ◌<◌, ◌≤◌, ◌⊎◌, inl, inr, cond, mod-eq_of_lt, Bool, true, false, ap, arith, sym, ◌∙◌, subst, List, length, ℤ, pos, negsuc}
use Rattle.std.proofs.Common.{neg_ℤ, ◌≤ℤ◌, ◌<ℤ◌, ◌-ℤ◌}
use Rattle.std.{proofs.Math.Nat.mul-add-mod_self_left, proofs.Math.Nat.pow-suc, specs.Simd.Lanes.digits_l, specs.Simd.Lanes.number_l, proofs.lemmas.Grind.common_steps, proofs.lemmas.Bool.cases_lt}
use Rattle.std.{proofs.lemmas.Nat.pow_pos, proofs.Math.Pow.pow_mono, proofs.lemmas.Int.ints, specs.Int.int_gap}
use Rattle.rice_bits.proofs.lemmas.bits.EightBytes.{pow_bytes}
use Rattle.rice_samples.proofs.lemmas.{bytes.BytesOfWords.bytes_are_digits, bytes.BytesOfWords.in_order-twice, setting.LevelsOfSamples.half_pow, setting.LevelsOfSamples.pattern_fits}
use Rattle.rice_samples.specs.{Parameters.level, Parameters.Parameters, Parameters.IsLegal, Parameters.IsSample, Parameters.width, Spelling.spelling, Spelling.ordered_bytes}
use Rattle.rice_samples.specs.{Residuals.twos_complement, Parameters.offset, Parameters.IsValue, PatternLanes.in_order}

not_below : (a b c : ℕ) → a ≡ c + b → pos a -ℤ pos b ≡ pos c
not_below a b c e = omega (arith, ints)

pos_minus_greater : (a b c : ℕ) → suc (a + c) ≡ b → pos a -ℤ pos b ≡ negsuc c
pos_minus_greater a b c e = omega (arith, ints)

-- the value of a pattern in two's complement has that pattern
pub signed_digits : (bits d : ℕ) → 1 ≤ bits → d < 2 ^ bits → twos_complement bits (pos ((d + 2 ^ (bits - 1)) % (2 * 2 ^ (bits - 1))) -ℤ pos (2 ^ (bits - 1))) ≡ d
signed_digits bits d h lt = halves (2 ^ (bits - 1)) (half_pow bits h) (pow_pos (bits - 1))
  where
    halves : (half : ℕ) → 2 ^ bits ≡ half + half → 0 < half → twos_complement bits (pos ((d + half) % (2 * half)) -ℤ pos half) ≡ d
    halves zero e some = absurd (omega arith)
    halves (suc half) e some =
        elim (cases_lt d (suc half)) [
          | inl low ↦ grind (arith, common_steps, mod-eq_of_lt, not_below)
          | inr high ↦
              let n : d + suc half ≡ 2 * suc half * 1 + (d - suc half) = omega arith in
              let l : (d - suc half) % (2 * suc half) ≡ d - suc half = mod-eq_of_lt (omega (arith, lt, e)) in
              let m : (d + suc half) % (2 * suc half) ≡ d - suc half = ap (λ k. k % (2 * suc half)) n ∙ (mul-add-mod_self_left (2 * suc half) 1 (d - suc half) ∙ l) in
              let v : pos ((d + suc half) % (2 * suc half)) -ℤ pos (suc half) ≡ negsuc (2 ^ bits - suc d) = ap (λ k. pos k -ℤ pos (suc half)) m
              ∙ pos_minus_greater (d - suc half) (suc half) (2 ^ bits - suc d) (omega (arith, lt, e, high)) in
              rw v (omega (arith, lt))
        ]

-- a value of so many bits is one of more bits too
pub wider_value : (bits more : ℕ) (signed : Bool) (x : ℤ) → 1 ≤ bits → bits ≤ more → IsValue bits signed x → IsValue more signed x
wider_value bits more true x h le k =
    halves (2 ^ (bits - 1)) (2 ^ bits) (2 ^ (more - 1)) (2 ^ more) x (half_pow bits h) (half_pow more (omega arith)) (pow_pos (bits - 1)) (pow_mono {i = bits - 1} {j = more - 1} (omega arith)) k.0 k.1
  where
    halves : (half count half' count' : ℕ) (x : ℤ) → count ≡ half + half → count' ≡ half' + half' → 0 < half → half ≤ half' → neg_ℤ (pos half) ≤ℤ x
        → int_gap (neg_ℤ (pos half)) x < count → (neg_ℤ (pos half') ≤ℤ x) × (int_gap (neg_ℤ (pos half')) x < count')
    halves zero count half' count' x e f some le k l = absurd (omega arith)
    halves (suc half) count zero count' x e f some le k l = absurd (omega arith)
    halves (suc half) count (suc half') count' (pos v) e f some le k l = (omega (arith, ints), omega (arith, ints))
    halves (suc half) count (suc half') count' (negsuc v) e f some le k l = (omega (arith, ints), omega (arith, ints))
wider_value bits more false x h le k = let e = pow_mono le in (k.0, omega arith)

number_of_digits : (k v : ℕ) → v < 256 ^ k → number_l 256 (digits_l 256 k v) ≡ v
number_of_digits zero v lt = omega arith
number_of_digits (suc k) v lt = grind (arith, common_steps, number_of_digits k (v / 256) (omega (arith, lt, pow-suc 256 k)))

-- the bytes of a word in either order tell the word
same_word : (msb : Bool) (k v w : ℕ) → v < 2 ^ (8 * k) → w < 2 ^ (8 * k) → ordered_bytes msb k v ≡ ordered_bytes msb k w → v ≡ w
same_word msb k v w hv hw e =
    let ordered : in_order msb (digits_l 256 k v) ≡ in_order msb (digits_l 256 k w) = sym (bytes_are_digits msb k v) ∙ (e ∙ bytes_are_digits msb k w) in
    let digits : digits_l 256 k v ≡ digits_l 256 k w = sym (in_order-twice msb (digits_l 256 k v)) ∙ (ap (in_order msb) ordered ∙ in_order-twice msb (digits_l 256 k w)) in
    sym (number_of_digits k v (rw (pow_bytes k) hv)) ∙ (ap (number_l 256) digits ∙ number_of_digits k w (rw (pow_bytes k) hw))

-- a value of so many bits lies between the powers of two
pub value_limits : (signed : Bool) (bits more : ℕ) (x : ℤ) → 1 ≤ bits → bits ≤ more → IsValue bits signed x → (neg_ℤ (pos (2 ^ more)) ≤ℤ x) × (x <ℤ pos (2 ^ more))
value_limits true bits more x h le k = halves (2 ^ (bits - 1)) (2 ^ bits) (2 ^ more) x (half_pow bits h) (pow_pos (bits - 1)) (pow_mono le) k.0 k.1
  where
    halves : (half count limit : ℕ) (x : ℤ) → count ≡ half + half → 0 < half → count ≤ limit → neg_ℤ (pos half) ≤ℤ x → int_gap (neg_ℤ (pos half)) x < count
        → (neg_ℤ (pos limit) ≤ℤ x) × (x <ℤ pos limit)
    halves zero count limit x e some le k l = absurd (omega arith)
    halves (suc half) count limit (pos v) e some le k l = (omega (arith, ints), omega (arith, ints))
    halves (suc half) count limit (negsuc v) e some le k l = (omega (arith, ints), omega (arith, ints))
value_limits false bits more x h le k = unsigned (2 ^ bits) (2 ^ more) x (pow_mono le) k.0 k.1
  where
    unsigned : (count limit : ℕ) (x : ℤ) → count ≤ limit → pos 0 ≤ℤ x → int_gap (pos 0) x < count → (neg_ℤ (pos limit) ≤ℤ x) × (x <ℤ pos limit)
    unsigned count limit (pos v) le k l = (omega (arith, ints), omega (arith, ints))
    unsigned count limit (negsuc v) le k l = absurd (omega (arith, ints))

-- a number below twice another is reduced by it once at most
pub mod_once : (n c : ℕ) → n < c + c → ((n % c ≡ n) × (n < c)) ⊎ ((n % c + c ≡ n) × (c ≤ n))
mod_once n c h =
    elim (cases_lt n c) [
      | inl lt ↦ inl (mod-eq_of_lt lt, lt)
      | inr ge ↦ inr (
        let e : n ≡ c * 1 + (n - c) = omega arith in let f : n % c ≡ (n - c) % c = ap (λ v. v % c) e ∙ mul-add-mod_self_left c 1 (n - c) in
            let g : (n - c) % c ≡ n - c = mod-eq_of_lt (omega arith) in omega arith,
        ge,
      )
    ]

-- the level of a sample, from its pattern of so many bits or more
pub level_from_pattern : (s : Parameters) (more : ℕ) (y : ℤ) → 1 ≤ s.bits → s.bits ≤ more → IsSample s y → (twos_complement more y + offset s) % 2 ^ more ≡ level s y
level_from_pattern s more y h le k = by_sign s.signed s.bits h le k.0 k.1
  where
    halves : (half count : ℕ) (y : ℤ) → count ≡ half + half → 0 < half → count ≤ 2 ^ more → neg_ℤ (pos half) ≤ℤ y → int_gap (neg_ℤ (pos half)) y < count →
        (twos_complement more y + half) % 2 ^ more ≡ int_gap (neg_ℤ (pos half)) y
    halves zero count y e some le k l = absurd (omega arith)
    halves (suc half) count (pos v) e some le k l = let m : (v + suc half) % 2 ^ more ≡ v + suc half = mod-eq_of_lt (omega (arith, ints)) in omega (arith, ints, m)
    halves (suc half) count (negsuc v) e some le k l =
        let n : 2 ^ more - 1 - v + suc half ≡ 2 ^ more * 1 + (half - v) = omega (arith, ints) in
        let m : (half - v) % 2 ^ more ≡ half - v = mod-eq_of_lt (omega (arith, ints)) in
        let f = ap (λ w. w % 2 ^ more) n ∙ mul-add-mod_self_left (2 ^ more) 1 (half - v) in
        omega (arith, ints, m, f)

    whole : (count : ℕ) (y : ℤ) → count ≤ 2 ^ more → pos 0 ≤ℤ y → int_gap (pos 0) y < count → (twos_complement more y + 0) % 2 ^ more ≡ int_gap (pos 0) y
    whole count (pos v) le k l = let m : (v + 0) % 2 ^ more ≡ v + 0 = mod-eq_of_lt (omega (arith, ints)) in omega (arith, ints, m)
    whole count (negsuc v) le k l = absurd (omega (arith, ints))

    by_sign : (b : Bool) (n : ℕ) → 1 ≤ n → n ≤ more → cond b (neg_ℤ (pos (2 ^ (n - 1)))) (pos 0) ≤ℤ y → int_gap (cond b (neg_ℤ (pos (2 ^ (n - 1)))) (pos 0)) y < 2 ^ n →
        (twos_complement more y + cond b (2 ^ (n - 1)) 0) % 2 ^ more ≡ int_gap (cond b (neg_ℤ (pos (2 ^ (n - 1)))) (pos 0)) y
    by_sign true n h le k l = halves (2 ^ (n - 1)) (2 ^ n) y (half_pow n h) (pow_pos (n - 1)) (pow_mono le) k l
    by_sign false n h le k l = whole (2 ^ n) y (pow_mono le) k l

-- and the pattern from the level
pub same_offset : (v w h c : ℕ) → v < c → w < c → h ≤ c → (v + h) % c ≡ (w + h) % c → v ≡ w
same_offset v w h c hv hw le e = grind (arith, common_steps, mod_once)

-- there are no more values below 0 than patterns of as many bits as a sample has, or of more bits
pub offset_limit : (s : Parameters) (more : ℕ) → 1 ≤ s.bits → s.bits ≤ more → offset s ≤ 2 ^ more
offset_limit s more h le = by_sign s.signed
  where
    by_sign : (b : Bool) → cond b (2 ^ (s.bits - 1)) 0 ≤ 2 ^ more
    by_sign true = pow_mono {i = s.bits - 1} {j = more} (omega arith)
    by_sign false = omega arith

-- bytes that are a word in an order, as many as a sample has, and the offset of the levels
pub record OrderedWord (s : Parameters) (bytes : List ℕ) (msb : Bool) (k word o : ℕ) : Type 0 where
  pub order : msb ≡ s.msb
  pub offset_is : o ≡ offset s
  pub width_is : k ≡ width s
  pub len : length bytes ≡ width s
  pub enough : s.bits ≤ 8 * k
  pub some : 1 ≤ k
  pub ordered : bytes ≡ ordered_bytes msb (length bytes) word
  pub fits : word < 2 ^ (8 * length bytes)

-- bytes that spell the word of a sample's pattern spell the sample
pub spelled_level : {s : Parameters} {bytes : List ℕ} {msb : Bool} {k : ℕ} (word : ℕ) {o : ℕ} (x : ℤ) → IsLegal s → OrderedWord s bytes msb k word o → IsSample s x
    → level s x ≡ (word + o) % 2 ^ (8 * k) → bytes ≡ spelling s x
spelled_level {s} {bytes} {k} word x legal spells hx e =
    let len : length bytes ≡ k = spells.len ∙ sym spells.width_is in
    let fits : word < 2 ^ (8 * k) = subst (λ (v : ℕ). word < 2 ^ (8 * v)) len spells.fits in
    let wide : Parameters = record s { bits = 8 * k } in
    let vx : IsValue (8 * k) s.signed x = wider_value s.bits (8 * k) s.signed x legal.bits_from spells.enough hx in
    let below : twos_complement (8 * k) x < 2 ^ (8 * k) = pattern_fits wide x (omega arith) vx in
    let same : word ≡ twos_complement (8 * k) x =
    same_offset word (twos_complement (8 * k) x) (offset s) (2 ^ (8 * k)) fits below (offset_limit s (8 * k) legal.bits_from spells.enough)
    (ap (λ v. (word + v) % 2 ^ (8 * k)) (sym spells.offset_is) ∙ (sym e ∙ sym (level_from_pattern s (8 * k) x legal.bits_from spells.enough hx)))
    in
    grind (arith, common_steps)

-- bytes that spell a sample tell its level
pub level_spelled : {s : Parameters} {bytes : List ℕ} {msb : Bool} {k : ℕ} (word : ℕ) {o : ℕ} (y : ℤ) → IsLegal s → OrderedWord s bytes msb k word o → k ≤ 4 → IsSample s y → bytes ≡ spelling s y
    → (word + o) % 2 ^ (8 * k) ≡ level s y
level_spelled {s} {bytes} {msb} {k} word {o} y legal spells to hy e =
    let len : length bytes ≡ k = spells.len ∙ sym spells.width_is in
    let fits : word < 2 ^ (8 * k) = subst (λ (v : ℕ). word < 2 ^ (8 * v)) len spells.fits in
    let wide : Parameters = record s { bits = 8 * k } in
    let vy : IsValue (8 * k) s.signed y = wider_value s.bits (8 * k) s.signed y legal.bits_from spells.enough hy in
    let below : twos_complement (8 * k) y < 2 ^ (8 * k) = pattern_fits wide y (omega arith) vy in
    grind (arith, common_steps, same_word, level_from_pattern)
