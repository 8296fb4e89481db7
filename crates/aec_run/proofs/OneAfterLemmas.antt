-- What is after the first bits of bytes.
use Rattle.std.proofs.Common.{◌≡◌, ◌∙◌, ℕ, zero, suc, ◌+◌, ◌*◌, ◌<◌, ◌≤◌, Bool, true, false, List, [], ◌∷◌, ◌++◌}
use Rattle.std.proofs.Common.{length, drop, take, replicate, Option, Some, None, inl, inr, arith, refl, ap, sym, subst, length-append, length-drop}
use Rattle.std.specs.Prelude.{◌^◌, IsSome, Result, Ok, Err, not}
use Rattle.std.specs.Io.KnownBytes.{Consumes, IsAtEnd}
use Rattle.std.proofs.lemmas.Bool.{cases_lt}
use Rattle.std.proofs.lemmas.List.{drop-drop, length-take-le}
use Rattle.rice_bits.specs.Bits.{bits_of, fundamental_sequence, word}
use Rattle.rice_bits.specs.Reader.{Reader, Refills, Stops, Takes, is_blank, new_reader}
use Rattle.rice_bits.specs.declared.read.fault.BitFault.{BitFault}
use Rattle.rice_bits.specs.declared.read.fault.BitFault.TheVariants as bit_faults
use Rattle.rice_bits.proofs.lemmas.bits.BytesAndBits.{length-bits_of}
use Rattle.rice_bits.proofs.lemmas.bits.EightBytes.{split-bytes}
use Rattle.rice_bits.proofs.lemmas.bits.WordsAndNumbers.{length-word}
use Rattle.rice_bits.proofs.lemmas.read.BlankBits.{blank-zeros}
use Rattle.rice_stream.specs.Pulling.{ahead, bytes_reported}
use Rattle.rice_stream.specs.declared.outcome.Fault.{Fault}
use Rattle.rice_stream.specs.declared.outcome.Fault.TheVariants.{Read, TooLong}
use Rattle.rice_stream.proofs.lemmas.PullingLemmas.{all_refilled, refills_ahead}
use Rattle.aec_run.specs.OneAfter.{LooksAfter, StoppedBy, has_one_after}

-- no bits
nil_of_length : {A : Type 0} (xs : List A) → length xs ≡ 0 → xs ≡ []
nil_of_length [] e = refl
nil_of_length (x ∷ xs) e = absurd (omega arith)

-- the front of some elements, and what is after it
drop_front : {A : Type 0} (xs ys : List A) → drop (length xs) (xs ++ ys) ≡ ys
drop_front [] ys = refl
drop_front (x ∷ xs) ys = drop_front xs ys

-- ---- bytes that are taken and forgotten

-- more bytes were taken
pub skipped_more : {old new : Option (List ℕ)} (d m : ℕ) (bytes bs : List ℕ) → old ≡ Some (drop d bytes) → Consumes old new bs → length bs ≡ m → new ≡ Some (drop (d + m) bytes)
skipped_more {old = None} d m bytes bs e c n = let bad : ⊥ = cc in absurd bad
skipped_more {old = Some xs} {new = None} d m bytes bs e c n = absurd c
skipped_more {old = Some xs} {new = Some ys} d m bytes bs e c n =
    let all : xs ≡ drop d bytes = cc in
    let after : ys ≡ drop m xs = sym (drop_front bs ys) ∙ ap (drop (length bs)) (sym c) ∙ ap (λ k. drop k xs) n in
    ap Some (after ∙ ap (drop m) all ∙ drop-drop m d bytes)

-- no more bytes came
pub skipped_all : {old new : Option (List ℕ)} (d count : ℕ) (bytes bs : List ℕ) → old ≡ Some (drop d bytes) → Consumes old new bs → length bs ≡ 0 → IsAtEnd new
    → d ≤ count → new ≡ Some (drop count bytes)
skipped_all {new} d count bytes bs e c n end le =
    let here : new ≡ Some (drop (d + 0) bytes) = skipped_more d 0 bytes bs e c n in
    ended new (d + 0) here end (omega arith)
  where
    ended : (new : Option (List ℕ)) (d : ℕ) → new ≡ Some (drop d bytes) → IsAtEnd new → d ≤ count → new ≡ Some (drop count bytes)
    ended None d e end le = let bad : ⊥ = cc in absurd bad
    ended (Some ys) d e end le =
        let all : ys ≡ drop d bytes = cc in
        let none : drop d bytes ≡ [] = sym all ∙ end in
        let short : drop count bytes ≡ [] = nil_of_length (drop count bytes) (omega (arith, length-drop d bytes, length-drop count bytes, ap length none)) in
        ap Some (end ∙ sym short)

-- ---- bits

-- the bits after whole bytes and a few bits more
pub bits_after : (k few bits : ℕ) (bytes : List ℕ) → bits ≡ 8 * k + few → drop few (bits_of (drop k bytes)) ≡ drop bits (bits_of bytes)
bits_after k few bits bytes e = elim (cases_lt (length bytes) k) [
  | inl past ↦
      let none : drop few (bits_of (drop k bytes)) ≡ [] = nil_of_length _ (omega (arith, length-drop few (bits_of (drop k bytes)), length-bits_of (drop k bytes), length-drop k bytes)) in
      let too : drop bits (bits_of bytes) ≡ [] = nil_of_length _ (omega (arith, length-drop bits (bits_of bytes), length-bits_of bytes)) in
      none ∙ sym too
  | inr within ↦
      let front = bits_of (take k bytes) in
      let after = bits_of (drop k bytes) in
      let size : length front ≡ 8 * k = omega (arith, length-bits_of (take k bytes), length-take-le k bytes within) in
      let cut : drop (8 * k) (bits_of bytes) ≡ after = ap (drop (8 * k)) (sym (split-bytes k bytes)) ∙ ap (λ n. drop n (front ++ after)) (sym size) ∙ drop_front front after in
      ap (drop few) (sym cut) ∙ drop-drop few (8 * k) (bits_of bytes) ∙ ap (λ n. drop n (bits_of bytes)) (sym e)
]

module _ {I : Type 0} (intake : I) (left : Option (List ℕ)) (failed k : ℕ) where
  -- bits after the first few were taken
  taken_few : (bytes : List ℕ) (v : ℕ) (r : Reader I) → left ≡ Some bytes → Takes (new_reader intake left failed) r (word k v) → IsSome r.left × (ahead r ≡ drop k (bits_of bytes))
  taken_few bytes v r e takes =
      let refills = subst (λ (l : Option (List ℕ)). Refills l r.left [] r.buffered (word k v)) e takes.refills in
      let refilled = refills_ahead (Some bytes) r.left [] r.buffered (word k v) refl refills in (
        refilled.0,
        sym (ap (λ n. drop n (bits_of bytes)) (sym (length-word k v)) ∙ ap (drop (length (word k v))) refilled.1 ∙ drop_front (word k v) (ahead r)),
      )

  -- a 1 was found
  pub found_one : (v m : ℕ) (r new : Reader I) → Takes (new_reader intake left failed) r (word k v) → Takes r new (fundamental_sequence m) → (bytes : List ℕ)
      → left ≡ Some bytes → true ≡ has_one_after k bytes
  found_one v m r new takes one bytes e =
      let few = taken_few bytes v r e takes in
      let refilled = refills_ahead r.left new.left r.buffered new.buffered (fundamental_sequence m) few.0 one.refills in
      let some : is_blank (drop k (bits_of bytes)) ≡ false = ap is_blank (sym few.1 ∙ refilled.1) ∙ one_in_front m (ahead new) in
      sym (ap not some)
    where
      one_in_front : (m : ℕ) (rest : List Bool) → is_blank (fundamental_sequence m ++ rest) ≡ false
      one_in_front zero rest = refl
      one_in_front (suc m) rest = one_in_front m rest

  -- how a look ends that finds no 1
  abbrev FindsNoOne : ℕ → BitFault → Type 0
  FindsNoOne count (bit_faults.End reported) = (bytes : List ℕ) → left ≡ Some bytes → has_one_after k bytes ≡ false
  FindsNoOne count bit_faults.Read = count ≡ failed + 1
  FindsNoOne count bit_faults.TooLong = (bytes : List ℕ) → left ≡ Some bytes → 2 ^ 49 < length bytes

  explained : (failures : I → ℕ) (count : ℕ) (fault : BitFault) (result : Result Bool Fault) → StoppedBy failures count fault result → FindsNoOne count fault
      → LooksAfter failures failed left k result
  explained failures count (bit_faults.End reported) result by why = subst (LooksAfter failures failed left k) (sym by) (λ bytes e. sym (why bytes e))
  explained failures count bit_faults.Read result by why = subst (LooksAfter failures failed left k) (sym by.0) (by.1.0, by.1.1 ∙ why)
  explained failures count bit_faults.TooLong result by why = subst (LooksAfter failures failed left k) (sym by) why

  -- no 1 is after them
  pub no_one : (failures : I → ℕ) (v m : ℕ) (r new : Reader I) (fault : BitFault) (result : Result Bool Fault)
      → Takes (new_reader intake left failed) r (word k v) → Stops r new (replicate m false) fault → StoppedBy failures new.failed fault result
      → LooksAfter failures failed left k result
  no_one failures v m r new fault result takes stops by = explained failures new.failed fault result by (why fault stops)
    where
      one_more : (middle left_new : Option (List ℕ)) (byte : ℕ) → IsSome middle → Consumes middle left_new (byte ∷ []) → 0 < length (bytes_reported middle)
      one_more None new byte reported c = absurd (let bad : false ≡ true = reported in cc)
      one_more (Some xs) None byte reported c = absurd c
      one_more (Some xs) (Some ys) byte reported c = omega (arith, ap length c)

      why : (fault : BitFault) → Stops r new (replicate m false) fault → FindsNoOne new.failed fault
      why (bit_faults.End reported) stops = λ bytes e.
          let few = taken_few bytes v r e takes in
          let all : ahead r ≡ replicate m false = all_refilled r.left stops.middle new.left r.buffered (replicate m false) few.0 stops.refills stops.refuses.0 stops.refuses.1 in
          ap not (ap is_blank (sym few.1 ∙ all) ∙ blank-zeros m)
      why bit_faults.Read stops = stops.refuses.1 ∙ ap (λ n. n + 1) takes.failures
      why bit_faults.TooLong stops = λ bytes e.
          let few = taken_few bytes v r e takes in
          let refilled = refills_ahead r.left stops.middle r.buffered [] (replicate m false) few.0 stops.refills in
          let last = one_more stops.middle new.left stops.refuses.0.0 refilled.0 stops.refuses.0.1 in
          let size : length (drop k (bits_of bytes)) ≡ length (replicate m false) + length (bits_of (bytes_reported stops.middle)) = ap length (sym few.1 ∙ refilled.1)
          ∙ length-append (replicate m false) (bits_of (bytes_reported stops.middle)) in
          omega (arith, size, length-drop k (bits_of bytes), length-bits_of bytes, length-bits_of (bytes_reported stops.middle), last, stops.refuses.2, stops.taken, takes.taken, length-word k v)

-- A look at what is after whole bytes is one at all.
pub looks_all : {I : Type 0} (failures : I → ℕ) (before : ℕ) {left rest : Option (List ℕ)} (k few bits : ℕ) (result : Result Bool Fault) → bits ≡ 8 * k + few
    → ((bytes : List ℕ) → left ≡ Some bytes → rest ≡ Some (drop k bytes))
    → LooksAfter failures before rest few result → LooksAfter failures before left bits result
looks_all failures before k few bits (Ok more) e skipped looks = λ bytes reported. looks (drop k bytes) (skipped bytes reported) ∙ ap (λ bits. not (is_blank bits)) (bits_after k few bits bytes e)
looks_all failures before k few bits (Err Read) e skipped looks = looks
looks_all failures before k few bits (Err TooLong) e skipped looks = λ bytes reported. omega (arith, looks (drop k bytes) (skipped bytes reported), length-drop k bytes)
looks_all failures before k few bits (Err other) e skipped looks = absurd looks
