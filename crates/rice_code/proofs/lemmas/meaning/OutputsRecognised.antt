-- Which bytes are an output, and of which samples.
use Rattle.std.proofs.Common.{◌≡◌, ℕ, ◌-◌, ◌*◌, ◌≤◌, Bool, List, length, refl, take, ap, sym, ◌∙◌, subst, arith, Some, ℤ}
use Rattle.rice_code.proofs.Words.{All, length-take-le, All-take, Parameters, IsLegal, IsSample, zero_is_sample, bits_of, CodesDiffer, RefusedBytesAreNoOutput, IsOutputOf, OwnBytesAreRecognised}
use Rattle.rice_code.proofs.Words.{output, Decoded, Ending, Reached, common_steps}
use Rattle.rice_code.proofs.lemmas.{meaning.DecodedInOneWay.decoded_is_one, meaning.SamplesAreReturned.returns_samples}

-- what the output of samples decodes to, by their number
decodes_to : {s : Parameters} → IsLegal s → {bytes : List ℕ} {count : ℕ} (xs : List ℤ) {ys : List ℤ} {ending : Ending} {used : ℕ} → All (IsSample s) xs → length xs ≡ count → output s xs ≡ bytes
    → Decoded s (bits_of bytes) (Some count) ys ending used → (ys ≡ xs) × (ending ≡ Reached)
decodes_to {s} legal {bytes} {count} xs {ys} {ending} {used} k number is d =
    let all = returns_samples s legal xs k in
    let there = subst (λ (n : ℕ). Decoded s (bits_of bytes) (Some n) xs Reached all.0) number (subst (λ (l : List ℕ). Decoded s (bits_of l) (Some (length xs)) xs Reached all.0) is all.1) in
    let one = decoded_is_one legal (zero_is_sample s legal.bits_from) d there in
    (one.0, one.1)

-- equally many samples with the same output are the same
pub codes_differ : CodesDiffer
codes_differ s legal xs ys kx ky same equal =
    let all = returns_samples s legal ys ky in
    sym (decodes_to legal xs kx same equal all.1).0

-- bytes whose decoding does not reach a number of samples are the output of no samples that are as many
pub refused_bytes : RefusedBytesAreNoOutput
refused_bytes s legal bytes xs ys ending used k d other is = other (decodes_to legal xs k refl is d).1

-- as many samples as are asked for, where these are reached
reached_samples : (s : Parameters) (bits : List Bool) (count : ℕ) (xs : List ℤ) (used : ℕ) → Decoded s bits (Some count) xs Reached used → All (IsSample s) xs × (length xs ≡ count)
reached_samples s bits count xs used d = grind (arith, common_steps, All-take, length-take-le)

-- bytes are the output of a number of samples just where decoding reaches this number, and what it gives has these bytes as its output
pub own_bytes : OwnBytesAreRecognised
own_bytes s legal bytes count xs ending used d = (own, again)
  where
    own : IsOutputOf s count bytes → (ending ≡ Reached) × (output s xs ≡ bytes)
    own o = let one = decodes_to legal o.samples o.legal o.count_is o.is d in (one.1, ap (output s) one.0 ∙ o.is)

    again : (ending ≡ Reached) × (output s xs ≡ bytes) → IsOutputOf s count bytes
    again h =
        let k = reached_samples s (bits_of bytes) count xs used (subst (λ (e : Ending). Decoded s (bits_of bytes) (Some count) xs e used) h.0 d) in
        record { samples = xs; legal = k.0; count_is = k.1; is = h.1 }
