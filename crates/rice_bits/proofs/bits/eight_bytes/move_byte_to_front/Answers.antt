use Rattle.std.proofs.Common.{◌≡◌, ℕ, zero, suc, ◌+◌, ◌-◌, ◌<◌, ◌≤◌, ◌∙◌, List, ◌∷◌, ◌++◌, inl, inr, refl, ap, sym, arith, length, drop, take, replicate, length-append, min, set, false}
use Rattle.std.specs.Prelude.{◌==◌}
use Rattle.std.proofs.lemmas.{List.append-nil, List.drop_all, List.get_or_past, List.length-drop, List.length-replicate, List.take-append-le, List.take-replicate, List.take_all, Grind.common_steps}
use Rattle.std.{proofs.lemmas.Bool.cases_lt, specs.List.slice_index}
use Rattle.rice_bits.proofs.bits.eight_bytes.move_byte_to_front.Goals as goal

-- zeros, of which the first becomes a byte
zeros_after : (bytes zeros : List ℕ) (some count k : ℕ) → some ≡ suc count → some ≤ length bytes → zeros ≡ replicate some 0 ++ drop some bytes
    → set zeros 0 k ≡ take (length bytes) (k ∷ replicate count 0 ++ drop (count + 1) bytes)
zeros_after bytes zeros some count k more most e = grind (arith, common_steps, length-append, length-replicate, length-drop, take_all)

-- the same where all are zeros
zeros_alone : (bytes zeros : List ℕ) (at size : ℕ) → size ≡ length bytes → 0 < size → size ≤ at → zeros ≡ replicate size 0 ++ drop size bytes
    → set zeros 0 0 ≡ take size (0 ∷ replicate at 0 ++ drop (at + 1) bytes)
zeros_alone bytes zeros at zero same some past e = absurd (omega arith)
zeros_alone bytes zeros at (suc n) same some past e = grind (arith, common_steps, drop_all, length-replicate, append-nil, take-append-le, take-replicate)

front_kept : (bytes zeros : List ℕ) (at some k : ℕ) → 0 < length bytes → min (at + 1) (length bytes) ≤ some → some ≤ length bytes
    → zeros ≡ replicate some 0 ++ drop some bytes → k ≡ slice_index bytes at
    → (count : ℕ) × (at ≤ count) × (set zeros 0 k ≡ take (length bytes) (slice_index bytes at ∷ replicate count 0 ++ drop (count + 1) bytes))
front_kept bytes zeros at some k full least most e byte = elim (cases_lt at (length bytes)) [
  | inl i ↦ (some - 1, omega (arith, least), rw (← byte) (zeros_after bytes zeros some (some - 1) k (omega (arith, least)) most e))
  | inr i ↦
      let none : slice_index bytes at ≡ 0 = get_or_past bytes at 0 i in
      let all : some ≡ length bytes = omega (arith, least, most) in
      (at, omega arith, rw (byte, none) (zeros_alone bytes zeros at (length bytes) refl full i (e ∙ ap (λ n. replicate n 0 ++ drop n bytes) all)))
]

not_none : (n : ℕ) → (n == 0) ≡ false → 0 < n
not_none zero e = absurd cc
not_none (suc n) e = omega arith

-- the byte that is kept
byte_kept : (c : goal.Then-not-is_empty) → c.if-at-bytes.kept ≡ slice_index c.args.bytes.now c.args.at
byte_kept c = grind (arith, common_steps, get_or_past)

pub returns-then-not-is_empty : goal.returns-then-not-is_empty
returns-then-not-is_empty c =
    let some = c.store_zeros_at_front.ensures in
    front_kept c.args.bytes.now c.store_zeros_at_front.new.bytes c.args.at some.0 c.if-at-bytes.kept
    (omega (arith, not_none _ (sym c.is_empty.ensures ∙ c.if-not-is_empty.true))) some.1 some.2 some.3 (byte_kept c)
