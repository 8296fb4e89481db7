-- Bytes that are read from an intake, and the bits taken of them.
use Rattle.std.proofs.Common.{◌+◌, ◌-◌, ◌*◌, ◌≡◌, ℕ, ◌<◌, length-append, Bool, List, [], ◌++◌, length, refl, sym, ◌∙◌, ap, arith, append_assoc, Option, Some, None}
use Rattle.std.{proofs.lemmas.Grind.common_steps, proofs.lemmas.List.append-nil, specs.Io.KnownBytes.Consumes, proofs.lemmas.Bool.cases_lt}
use Rattle.rice_bits.proofs.lemmas.bits.BytesAndBits.{bits_of-nil, bits_of-append, length-bits_of}
use Rattle.rice_bits.specs.{Reader.Refills, Reader.Supplies, Limits.most_at_once, Bits.bits_of}

-- so nothing is read where what is known of the bytes is the same before and after
pub consumes-nil : (a : Option (List ℕ)) → Consumes a a []
consumes-nil None = tt
consumes-nil (Some xs) = refl

-- one part is read after another
pub consumes-append : (a b c : Option (List ℕ)) (xs ys : List ℕ) → Consumes a b xs → Consumes b c ys → Consumes a c (xs ++ ys)
consumes-append None b c xs ys p q = tt
consumes-append (Some u) None c xs ys p q = absurd p
consumes-append (Some u) (Some v) None xs ys p q = absurd q
consumes-append (Some u) (Some v) (Some w) xs ys p q = p ∙ ap (λ z. xs ++ z) q ∙ sym (append_assoc xs ys w)

-- two refills, one after the other: their bytes, the bits that they serve, and the bits between them
record RefilledInTurn (old mid a b ab xs ys xys : ℕ) : Type 0 where
  bytes : ab ≡ a + b
  bits : xys ≡ xs + ys
  between : old + 8 * a ≡ xs + mid

-- what is needed for the bits of the second part alone is needed for both
needed-append : {old mid a b ab xs ys xys : ℕ} → RefilledInTurn old mid a b ab xs ys xys
    → (0 < a → old + 8 * (a - most_at_once) < xs) → (0 < b → mid + 8 * (b - most_at_once) < ys) → 0 < ab → old + 8 * (ab - most_at_once) < xys
needed-append {b} turns p q some = grind (arith, common_steps, cases_lt)

-- bits that are taken by one refill, and others by the next, are taken by both together
pub refills-append : {a b c : Option (List ℕ)} {old mid new xs ys : List Bool} → Refills a b old mid xs → Refills b c mid new ys → Refills a c old new (xs ++ ys)
refills-append {a} {b} {c} {old} {mid} {new} {xs} {ys} p q =
    let lengths : length old + 8 * length p.given ≡ length xs + length mid =
    omega (arith, ap length p.split, length-append old (bits_of p.given), length-append xs mid, length-bits_of p.given) in
    grind (arith, common_steps, consumes-append, needed-append, length-append, bits_of-append, append_assoc)

-- nothing is supplied
pub supplies-none : (a : Option (List ℕ)) (old : List Bool) → Supplies a a old old
supplies-none a old = grind (arith, common_steps, consumes-nil, bits_of-nil, append-nil)

-- bits are taken of those that are buffered, and nothing is read
pub refills-buffered : (a : Option (List ℕ)) (old new xs : List Bool) → old ≡ xs ++ new → Refills a a old new xs
refills-buffered a old new xs e = grind (arith, common_steps, consumes-nil, bits_of-nil, append-nil)

-- at least one bit is taken of those that are buffered after a supply
pub refills-supplied : (a b : Option (List ℕ)) (old mid new xs : List Bool) → 0 < length xs → Supplies a b old mid → mid ≡ xs ++ new → Refills a b old new xs
refills-supplied a b old mid new xs taken s e = grind (arith, common_steps)

-- nothing is read where nothing is buffered
pub refills_nothing : (a : Option (List ℕ)) (old : List Bool) → old ≡ [] → Refills a a old [] []
refills_nothing a old e = refills-buffered a old [] [] e
