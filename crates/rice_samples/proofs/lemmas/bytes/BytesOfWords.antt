-- The bytes of words in either order.
use Rattle.std.proofs.lemmas.Grind.{common_steps}
use Rattle.std.proofs.Common.{◌≡◌, ℕ, zero, suc, ◌+◌, ◌/◌, ◌%◌, ◌^◌, Bool, true, false, List, [], ◌∷◌, ◌++◌, reverse, refl, sym, ◌∙◌, ap, arith}
use Rattle.std.{specs.Int.byte_at, specs.Int.bytes_high_first, specs.Int.bytes_low_first, proofs.lemmas.List.reverse-append, proofs.lemmas.List.reverse-reverse, specs.Simd.Lanes.digits_l}
use Rattle.std.proofs.Math.Nat.{div-div-eq-div-mul, pow-suc}
use Rattle.rice_samples.specs.{Spelling.ordered_bytes, PatternLanes.in_order}

byte_is : (i v : ℕ) → byte_at i v ≡ v / 256 ^ i % 256
byte_is zero v = omega arith
byte_is (suc i) v = refl

one_byte_down : (i v : ℕ) → v / 256 ^ i / 256 ≡ v / 256 ^ suc i
one_byte_down i v = div-div-eq-div-mul v (256 ^ i) 256 ∙ ap (λ p. v / p) (sym (pow-suc 256 i))

low_bytes : (i k v w : ℕ) → w ≡ v / 256 ^ i → bytes_low_first i k v ≡ digits_l 256 k w
low_bytes i zero v w e = refl
low_bytes i (suc k) v w e = grind (arith, common_steps, byte_at, byte_is, one_byte_down, low_bytes (suc i) k v (w / 256) (ap (λ n. n / 256) e ∙ one_byte_down i v))

digits-last : (i k v w : ℕ) → w ≡ v / 256 ^ i → digits_l 256 (suc k) w ≡ digits_l 256 k w ++ (byte_at (i + k) v ∷ [])
digits-last i zero v w e = (let n : i + 0 ≡ i = omega arith in ap (λ b. b ∷ []) (ap (λ n. n % 256) e ∙ sym (byte_is i v)) ∙ ap (λ k. byte_at k v ∷ []) (sym n))
digits-last i (suc k) v w e =
    let n : suc i + k ≡ i + suc k = omega arith in
    ap (λ d. w % 256 ∷ d) (digits-last (suc i) k v (w / 256) (ap (λ n. n / 256) e ∙ one_byte_down i v) ∙ ap (λ m. digits_l 256 k (w / 256) ++ (byte_at m v ∷ [])) n)

high_bytes : (k v : ℕ) → bytes_high_first k v ≡ reverse (digits_l 256 k v)
high_bytes zero v = refl
high_bytes (suc k) v =
    let n : 0 + k ≡ k = omega arith in
    let digits = digits-last 0 k v v (omega arith) ∙ ap (λ m. digits_l 256 k v ++ (byte_at m v ∷ [])) n in
    ap (λ d. byte_at k v ∷ d) (high_bytes k v) ∙ sym (ap reverse digits ∙ reverse-append (digits_l 256 k v) (byte_at k v ∷ []))

-- the bytes of a word are its digits, in the order of the bytes
pub bytes_are_digits : (msb : Bool) (k v : ℕ) → ordered_bytes msb k v ≡ in_order msb (digits_l 256 k v)
bytes_are_digits true k v = high_bytes k v
bytes_are_digits false k v = low_bytes 0 k v v (omega arith)

-- bytes that are turned twice are as they were
pub in_order-twice : (turned : Bool) (g : List ℕ) → in_order turned (in_order turned g) ≡ g
in_order-twice true g = reverse-reverse g
in_order-twice false g = refl
