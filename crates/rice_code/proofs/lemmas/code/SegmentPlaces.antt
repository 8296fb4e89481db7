-- The places of the blocks of a segment, and of the segment after it.
use Rattle.std.proofs.Common.{◌≡◌, ℕ, zero, suc, ◌+◌, ◌-◌, ◌*◌, ◌/◌, ◌%◌, ◌<◌, ◌≤◌, ◌==◌, true, false, cond, ap, arith, ◌∙◌, inl, inr}
use Rattle.rice_code.proofs.Words.{nat_tests, div-mul-add, div-add-mod, mod-lt, mod-eq_of_lt, Parameters, place, segment_start, begins_segment, blocks_left, is_padded, cut, eqb-true, common_steps}
use Rattle.rice_code.proofs.{Words.next_place, Words.some_left, Words.lt_of_mul-lt-mul_left, lemmas.meaning.CoveredBlocks.bool_cases, lemmas.meaning.CoveredBlocks.and-split}

-- places go on inside a segment
pub place_inside : (s : Parameters) (b q : ℕ) → 1 ≤ s.interval → q < blocks_left s b → place s (b + q) ≡ place s b + q
place_inside s b zero h k = let e : b + 0 ≡ b = omega arith in ap (place s) e ∙ (omega arith)
place_inside s b (suc q) h k =
    let ih = place_inside s b q h (omega arith) in
    let e : b + suc q ≡ b + q + 1 = omega arith in
    grind (arith, common_steps, next_place)

-- a segment begins after a whole one
pub begins_next : (s : Parameters) (b : ℕ) → 1 ≤ s.interval → begins_segment s b ≡ true → begins_segment s (b + blocks_left s b) ≡ true
begins_next s b h e =
    let x = place s b in
    let r = s.interval in
    let left = some_left s b h in
    let q = blocks_left s b - 1 in
    let p = place_inside s b q h (omega arith) in
    let n : b + q + 1 ≡ b + blocks_left s b = omega arith in
    grind (arith, common_steps, eqb-true, next_place, nat_tests)

-- the samples of whole segments
pub cut_is : (s : Parameters) (b m n : ℕ) → 1 ≤ s.interval → 1 ≤ s.block → begins_segment s b ≡ true → m ≡ s.block * b + n → n < s.block * blocks_left s b → cut s m ≡ s.block * b
cut_is s b m n h j e f k =
    let q = n / s.block in
    let d = div-add-mod n s.block in
    let r = mod-lt n j in
    let few : q < blocks_left s b = below q (n % s.block) s.block (blocks_left s b) n d k in
    let at : m / s.block ≡ b + q = divided m n b s.block j f in
    let p = place_inside s b q h few in
    let t : place s b ≡ 64 * (place s b / 64) = eqb-true (place s b) (64 * (place s b / 64)) e in
    let left = some_left s b h in
    let back : b + q - (place s (b + q) - segment_start s (b + q)) ≡ b = offset b q (place s b) (place s (b + q)) p t (omega arith) in
    ap (λ c. s.block * (c - (place s c - segment_start s c))) at ∙ ap (λ v. s.block * v) back
  where
    below : (q r j left n : ℕ) → j * q + r ≡ n → n < j * left → q < left
    below q r j left n d k = lt_of_mul-lt-mul_left j (omega arith)

    divided : (m n b j : ℕ) → 1 ≤ j → m ≡ j * b + n → m / j ≡ b + n / j
    divided m n b j h e =
        let d = div-add-mod n j in
        let f : m ≡ (b + n / j) * j + n % j = omega arith in
        ap (λ v. v / j) f ∙ div-mul-add (b + n / j) j (n % j) (mod-lt n h)

    offset : (b q x y : ℕ) → y ≡ x + q → x ≡ 64 * (x / 64) → q < 64 → b + q - (y - 64 * (y / 64)) ≡ b
    offset b q x y e f k = omega arith

-- inside a segment no interval begins
pub none_padded : (s : Parameters) (b q : ℕ) → 1 ≤ s.interval → 1 ≤ q → q < blocks_left s b → is_padded s (b + q) ≡ false
none_padded s b q h some k =
    elim (bool_cases (is_padded s (b + q))) [
      | inr e ↦ e
      | inl e ↦ absurd (let first = eqb-true (place s (b + q)) 0 (and-split s.pad (place s (b + q) == 0) e).1 in omega (arith, first, place_inside s b q h k))
    ]

-- the place after a segment
pub next_start_is : (s : Parameters) (b start : ℕ) → 1 ≤ s.interval → place s b ≡ start →
    place s (b + blocks_left s b) ≡ (let next = start + blocks_left s start in cond (next == s.interval) 0 next)
next_start_is s b start r e =
    let left = some_left s b r in
    let q = blocks_left s b - 1 in
    let p = place_inside s b q r (omega arith) in
    let n : b + q + 1 ≡ b + blocks_left s b = omega arith in
    let m = ap (place s) n in
    grind (arith, common_steps, mod-lt, mod-eq_of_lt, common_steps, next_place, nat_tests)
