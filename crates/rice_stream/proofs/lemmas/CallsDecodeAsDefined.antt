-- A call that decodes a code does what the code decodes to.
use Rattle.std.proofs.Common.{◌≡◌, ◌≢◌, ℕ, ◌+◌, ◌-◌, ◌*◌, ◌^◌, ◌<◌, ◌≤◌, Bool, false, true, List, [], ◌∷◌, ◌++◌, length, take, drop}
use Rattle.std.proofs.Common.{refl, ap, arith, sym, ◌∙◌, ◌⊎◌, inl, inr, subst, append_assoc, append-nil, length-append, take-append-drop, Option, Some, None, ℤ}
use Rattle.rice_stream.proofs.Words.{IsSome, IsAtEnd, mul-le-mul_left, take-append_seam, take-append-le, take_all, bits_of-append, length-bits_of, Parameters, IsLegal, spellings, zero_is_sample}
use Rattle.rice_stream.proofs.Words.{CodedDataSet, bits_of_set, AreTaken, BeginsUnsound, Decoded, Ending, Reached, Ended, CutOff, Past, Large, blocks_in_all, block_after, ends_inside}
use Rattle.rice_stream.proofs.Words.{ends_there, decoded_is_one, bits_of, Call, DecodesBytes, EndsDecoding, RunsOut, Report, Fault, Read, Write, TooLong, SampleOutOfRange, SampleCut, CodeEnds}
use Rattle.rice_stream.proofs.Words.{RunPastSegment, ResidualTooLarge}
use Rattle.rice_stream.proofs.lemmas.ReturnedBytes.{EndsBefore, decoded_before, with_rest}

-- ---- the bits that decoding uses

-- a list that is as long begins with what all begins with
front_of : (bits more a b : List Bool) → bits ++ more ≡ a ++ b → length a ≤ length bits → bits ≡ a ++ drop (length a) bits
front_of bits more a b e le =
    let n = length a in
    sym (take-append-drop n bits) ∙ ap (λ l. l ++ drop n bits) (sym (take-append-le n bits more le) ∙ ap (take n) e ∙ take-append_seam a b)

-- what is left begins with the same coded data set, which is refused
unsound_front : {s : Parameters} {b used : ℕ} (bits more front : List Bool) {rest : List Bool} (P : CodedDataSet → Type 0) → bits ++ more ≡ front ++ rest
    → (u : BeginsUnsound s b rest used P) → length front + used ≤ length bits → (left : List Bool) × (bits ≡ front ++ left) × BeginsUnsound s b left used P
unsound_front {s} bits more front P e u le =
    let set = bits_of_set s u.refused in
    let all = front ++ set in
    let far = drop (length all) bits in
    let parts : bits ++ more ≡ all ++ u.more = e ∙ ap (λ l. front ++ l) u.begins ∙ sym (append_assoc front set u.more) in (
      set ++ far,
      front_of bits more all u.more parts (omega (arith, length-append front set, u.bits))
          ∙ append_assoc front set far,
      record { refused = u.refused; more = far; form = u.form; unsound = u.unsound; begins = refl; bits = u.bits },
    )

-- decoding that ends in the front of a code ends so without the rest
ends_in_front : {s : Parameters} {asked : Option ℕ} (bits more : List Bool) {xs : List ℤ} (ending : Ending) {used : ℕ} → EndsBefore ending
    → Decoded s (bits ++ more) asked xs ending used → used ≤ length bits → Decoded s bits asked xs ending used
ends_in_front bits more Reached early d le = with_rest d (drop (length d.front) bits) (front_of bits more d.front d.rest d.parts (omega (arith, d.bits_used, le))) d.ends
ends_in_front bits more Past early d le =
    let u = unsound_front bits more d.front _ d.parts d.ends.1 (omega (arith, d.bits_used, le)) in
    with_rest d u.0 u.1 (d.ends.0, u.2)
ends_in_front bits more Large early d le =
    let u = unsound_front bits more d.front _ d.parts d.ends.1 (omega (arith, d.bits_used, le)) in
    with_rest d u.0 u.1 (d.ends.0, u.2)
ends_in_front bits more _ early d le = absurd early

-- ---- a count that is not reached

-- sets that end before the samples asked for are taken as where all are asked for
wanted_all : (s : Parameters) (n b : ℕ) (ds : List CodedDataSet) → s.block * (b + length (blocks_in_all s b ds)) < n → AreTaken s None b ds → AreTaken s (Some n) b ds
wanted_all s n b [] lt h = tt
wanted_all s n b (d ∷ ds) lt h =
    let next = block_after s b d in
    let here : s.block * b ≤ s.block * (b + length (blocks_in_all s b (d ∷ ds))) = mul-le-mul_left s.block (omega arith) in
    let same = ap (λ m. s.block * m) (ends_inside s b d ds) in
    (omega arith, h.1, h.2, h.3, wanted_all s n next ds (omega arith) h.4)

-- it changes nothing
pub never_reached : (s : Parameters) (bits : List Bool) (n : ℕ) (xs : List ℤ) (ending : Ending) (used : ℕ) → length xs < n → Decoded s bits None xs ending used → Decoded s bits (Some n) xs ending used
never_reached s bits n xs ending used lt d =
    let b = 0 + length (blocks_in_all s 0 d.sets) in
    let size : length xs ≡ s.block * b = omega (arith, ap length d.asked_for, d.len) in
    let below : s.block * b < n = omega arith in
    record {
      sets = d.sets;
      front = d.front;
      rest = d.rest;
      parts = d.parts;
      lie = d.lie;
      taken = wanted_all s n 0 d.sets below d.taken;
      all = d.all;
      legal = d.legal;
      len = d.len;
      blocks = d.blocks;
      asked_for = d.asked_for ∙ sym (take_all (n - s.block * 0) d.all (omega (arith, ap length d.asked_for)));
      last = d.last;
      ends = ends_there None (Some n) b b d.rest ending d.last (record { place_is = refl; wanted = λ k. below; reached = λ k. absurd k }) d.ends;
      bits_used = d.bits_used;
    }

-- ---- a call that is given the code

-- the fault of a call whose code decodes to these samples, and ends so
abbrev pub FaultOf : Parameters → List ℤ → Ending → Option Fault → Type 0
FaultOf s xs Reached fault = fault ≡ None
FaultOf s xs Ended fault = fault ≡ None
FaultOf s xs CutOff fault = fault ≡ Some (CodeEnds (length xs))
FaultOf s xs Past fault = (b : ℕ) × (length xs ≡ s.block * b) × (fault ≡ Some (RunPastSegment b))
FaultOf s xs Large fault = (b : ℕ) × (length xs ≡ s.block * b) × (fault ≡ Some (ResidualTooLarge b))

pub record DecodesAs (s : Parameters) (xs : List ℤ) (ending : Ending) (used : ℕ) (c : Call) (r : Report) (fault : Option Fault) : Type 0 where
  pub written : c.written ≡ spellings s xs
  pub samples : r.samples ≡ length xs
  pub bits : r.bits ≡ used
  pub fault_is : FaultOf s xs ending fault

-- where an intake is at its end, nothing is left of it
pub is_at_end : (l : Option (List ℕ)) (left : List ℕ) → l ≡ Some left → IsAtEnd l → left ≡ []
is_at_end l left e end = subst (λ (v : Option (List ℕ)). IsAtEnd v) e end

module _ (s : Parameters) (legal : IsLegal s) (asked : Option ℕ) (code left : List ℕ) (c : Call) (r : Report) (xs ys : List ℤ) (ending e : Ending) (used : ℕ)
    (whole : Decoded s (bits_of code) asked xs ending used) (split : code ≡ c.given ++ left) where
  -- what a part of the code decodes to that all of it decodes to
  one : (zs : List ℤ) (v : Ending) (n : ℕ) → Decoded s (bits_of code) asked zs v n → (zs ≡ xs) × (v ≡ ending) × (n ≡ used)
  one zs v n d = decoded_is_one legal (zero_is_sample s legal.bits_from) d whole

  as_before : EndsBefore e → (d : DecodesBytes s asked c r c.given ys e) → (ys ≡ xs) × (e ≡ ending) × (d.0 ≡ used)
  as_before early d =
      let more = decoded_before s asked (bits_of c.given) (bits_of left) ys e d.0 early d.1 in
      let bits : bits_of c.given ++ bits_of left ≡ bits_of code = sym (bits_of-append c.given left) ∙ ap bits_of (sym split) in
      one ys e d.0 (subst (λ (l : List Bool). Decoded s l asked ys e d.0) bits more)

  as_all : left ≡ [] → (d : DecodesBytes s asked c r c.given ys e) → (ys ≡ xs) × (e ≡ ending) × (d.0 ≡ used)
  as_all none d =
      let all : c.given ≡ code = sym (append-nil c.given) ∙ ap (λ l. c.given ++ l) (sym none) ∙ sym split in
      one ys e d.0 (subst (λ (l : List ℕ). Decoded s (bits_of l) asked ys e d.0) all d.1)

  decodes_so : (fault : Option Fault) (d : DecodesBytes s asked c r c.given ys e) → (ys ≡ xs) × (e ≡ ending) × (d.0 ≡ used) → FaultOf s ys e fault → DecodesAs s xs ending used c r fault
  decodes_so fault d same f = record {
    written = d.2.written ∙ ap (spellings s) same.0;
    samples = d.2.samples ∙ ap length same.0;
    bits = d.2.bits ∙ same.2;
    fault_is = subst (λ (v : Ending). FaultOf s xs v fault) same.1 (subst (λ (l : List ℤ). FaultOf s l e fault) same.0 f);
  }

-- a code of which so few bits are used is not too long
not_early : {s : Parameters} → IsLegal s → {asked : Option ℕ} {code : List ℕ} (front more : List ℕ) {xs ys : List ℤ} {ending e : Ending} {used n : ℕ}
    → Decoded s (bits_of code) asked xs ending used → code ≡ front ++ more → used ≤ 8 * length front → Decoded s (bits_of front) asked ys e n → RunsOut e → EndsBefore ending → ⊥
not_early {s} legal {asked} {code} front more {xs} {ys} {ending} {e} {used} {n} whole split le d runs early =
    let bits : bits_of code ≡ bits_of front ++ bits_of more = ap bits_of split ∙ bits_of-append front more in
    let inside = ends_in_front (bits_of front) (bits_of more) ending early
    (subst (λ (l : List Bool). Decoded s l asked xs ending used) bits whole) (omega (arith, le, length-bits_of front)) in
    let same : e ≡ ending = (decoded_is_one legal (zero_is_sample s legal.bits_from) d inside).1 in
    elim runs [ inl f ↦ subst EndsBefore (sym same ∙ f) early | inr f ↦ subst EndsBefore (sym same ∙ f) early ]

-- a code whose front is as long as a call may take, and more
record LongFront (code front more : List ℕ) : Type 0 where
  joined : code ≡ front ++ more
  long : length front ≡ 2 ^ 49
  more_is : 0 < length more

-- a code that decodes within the limit has no byte past it that is read
never_long : {s : Parameters} → IsLegal s → {asked : Option ℕ} {code : List ℕ} (front more : List ℕ) {xs ys : List ℤ} {ending e : Ending} {used n : ℕ}
    → Decoded s (bits_of code) asked xs ending used → used ≤ 2 ^ 52 → LongFront code front more → Decoded s (bits_of front) asked ys e n → RunsOut e → ⊥
never_long legal {code} front more {ending = Ended} whole limit parts d runs =
    omega (arith, whole.bits_used, whole.ends.2, ap length whole.parts, length-append whole.front whole.rest, length-bits_of code, ap length parts.joined, length-append front more)
never_long legal {code} front more {ending = CutOff} whole limit parts d runs =
    omega (arith, whole.bits_used, whole.ends.3, ap length whole.parts, length-append whole.front whole.rest, length-bits_of code, ap length parts.joined, length-append front more)
never_long legal front more whole limit parts d runs = not_early legal front more whole parts.joined (omega arith) d runs tt

-- what a call took of the code, and what is left
pub record GivenOfCode (code left : List ℕ) (c : Call) : Type 0 where
  pub code_is : code ≡ c.given ++ left
  pub left_is : c.left ≡ Some left

-- neither device fails
pub record NoDeviceFails (fault : Option Fault) : Type 0 where
  pub read : fault ≢ Some Read
  pub write : fault ≢ Some Write

-- a call of the decoder finds the one way in which its bytes decode
pub decodes_as : {s : Parameters} → IsLegal s
    → {asked : Option ℕ} {code left : List ℕ} {c : Call} {r : Report} {fault : Option Fault} {xs : List ℤ} (ys : List ℤ) {ending : Ending} (e : Ending) {used : ℕ}
    → Decoded s (bits_of code) asked xs ending used → used ≤ 2 ^ 52
    → (asked ≡ None) ⊎ (ending ≡ Reached) → GivenOfCode code left c → EndsDecoding s asked fault c r ys e → NoDeviceFails fault → DecodesAs s xs ending used c r fault
decodes_as {s} legal {asked} {code} {left} {c} {r} {fault = None} {xs} ys {ending} e {used} whole limit way given (d, inl reached) device =
    decodes_so s legal asked code left c r xs ys ending e used whole given.code_is None d
    (as_before s legal asked code left c r xs ys ending e used whole given.code_is (rw reached tt) d) (subst (λ (v : Ending). FaultOf s ys v None) (sym reached) refl)
decodes_as {s} legal {asked} {code} {left} {c} {r} {fault = None} {xs} ys {ending} e {used} whole limit way given (d, inr (ended, none, end)) device =
    decodes_so s legal asked code left c r xs ys ending e used whole given.code_is None d
    (as_all s legal asked code left c r xs ys ending e used whole given.code_is (is_at_end c.left left given.left_is end) d) (subst (λ (v : Ending). FaultOf s ys v None) (sym ended) refl)
decodes_as {s} legal {asked} {code} {left} {c} {r} {fault = Some (CodeEnds n)} {xs} ys {ending} e {used} whole limit way given (d, inl cut, end, count) device =
    decodes_so s legal asked code left c r xs ys ending e used whole given.code_is (Some (CodeEnds n)) d
    (as_all s legal asked code left c r xs ys ending e used whole given.code_is (is_at_end c.left left given.left_is end) d)
    (subst (λ (v : Ending). FaultOf s ys v (Some (CodeEnds n))) (sym cut) (ap (λ m. Some (CodeEnds m)) count))
decodes_as {s} legal {asked} {code} {left} {c} {r} {fault = Some (CodeEnds n)} {xs} ys {ending} e {used} whole limit way given (d, inr (ended, some), end, count) device =
    let same = (as_all s legal asked code left c r xs ys ending e used whole given.code_is (is_at_end c.left left given.left_is end) d).1 in
    elim way [ inl none ↦ absurd (let no : false ≡ true = subst (λ (a : Option ℕ). IsSome a) none some in cc) | inr reached ↦ absurd cc ]
decodes_as {s} legal {asked} {code} {left} {c} {r} {fault = Some (RunPastSegment b)} {xs} ys {ending} e {used} whole limit way given (d, past, count) device =
    decodes_so s legal asked code left c r xs ys ending e used whole given.code_is (Some (RunPastSegment b)) d
    (as_before s legal asked code left c r xs ys ending e used whole given.code_is (rw past tt) d)
    (subst (λ (v : Ending). FaultOf s ys v (Some (RunPastSegment b))) (sym past) (b, count, refl))
decodes_as {s} legal {asked} {code} {left} {c} {r} {fault = Some (ResidualTooLarge b)} {xs} ys {ending} e {used} whole limit way given (d, large, count) device =
    decodes_so s legal asked code left c r xs ys ending e used whole given.code_is (Some (ResidualTooLarge b)) d
    (as_before s legal asked code left c r xs ys ending e used whole given.code_is (rw large tt) d)
    (subst (λ (v : Ending). FaultOf s ys v (Some (ResidualTooLarge b))) (sym large) (b, count, refl))
decodes_as {s} legal {asked} {code} {left} {fault = Some TooLong} {xs} ys {ending} e {used} whole limit way given h device =
    let front = h.0.0 in
    let passes = h.0.1 in
    let more = passes.last ∷ left in
    let parts : code ≡ front ++ more = given.code_is ∙ ap (λ l. l ++ left) passes.split ∙ append_assoc front (passes.last ∷ []) left in
    absurd (never_long legal front more whole limit (record { joined = parts; long = passes.full; more_is = omega arith }) h.0.2.1 h.1)
decodes_as legal {fault = Some Read} ys e whole limit way given h device = absurd (device.read refl)
decodes_as legal {fault = Some Write} ys e whole limit way given h device = absurd (device.write refl)
decodes_as legal {fault = Some (SampleOutOfRange index)} ys e whole limit way given h device = absurd h
decodes_as legal {fault = Some (SampleCut index)} ys e whole limit way given h device = absurd h
