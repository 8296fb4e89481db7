-- Bits that are added to a sink, part after part.
use Rattle.rice_fast.proofs.Words.{◌≡◌, ℕ, ◌+◌, ◌-◌, ◌<◌, ◌≤◌, Bool, List, [], ◌∷◌, ◌++◌, length, drop, take, get_or, ap, arith, sym, subst, ◌∙◌, append_assoc, append-nil, length-append, flat_map}
use Rattle.rice_fast.proofs.Words.{slice_range, take-add, take-suc, flat_map-append, drop-drop, drop-take, get_or-drop, length-drop, take_rest, word, fundamental_sequence, length-word}
use Rattle.rice_fast.proofs.Words.{length-fundamental_sequence, HasRoomFor, HasRoomForBits, AddsBits, AddsFields}

-- no bits
pub none_added : {sink fields : List Bool} {meter : ℕ} → AddsBits [] sink fields sink fields meter meter
none_added {sink} {fields} = record { bits = sym (append-nil (sink ++ fields)); len = omega arith; steps = omega arith }

-- the bits of one part, and then those of another
pub both_added : (first second : List Bool) {sink fields sink1 fields1 sink2 fields2 : List Bool} {meter meter1 meter2 : ℕ}
    → AddsBits first sink fields sink1 fields1 meter meter1 → AddsBits second sink1 fields1 sink2 fields2 meter1 meter2 → AddsBits (first ++ second) sink fields sink2 fields2 meter meter2
both_added first second {sink} {fields} h k =
    let n = length-append first second in
    record {
      bits = k.bits ∙ (ap (λ v. v ++ second) h.bits ∙ append_assoc (sink ++ fields) first second);
      len = omega (arith, n, h.len, k.len);
      steps = omega (arith, n, h.steps, k.steps);
    }

-- where there is room for both parts, there is for the first,
pub room_for_first : (first second : List Bool) {bits meter : ℕ} → HasRoomForBits (first ++ second) bits meter → HasRoomForBits first bits meter
room_for_first first second h = let n = length-append first second in record { room = omega (arith, n, h.room); steps = omega (arith, n, h.steps) }

-- and after it for the second
pub room_for_second : (first second : List Bool) {sink fields sink1 fields1 : List Bool} {meter meter1 : ℕ} → HasRoomForBits (first ++ second) (length sink + length fields) (meter + length fields)
    → AddsBits first sink fields sink1 fields1 meter meter1 → HasRoomForBits second (length sink1 + length fields1) (meter1 + length fields1)
room_for_second first second h k = let n = length-append first second in record { room = omega (arith, n, h.room, k.len); steps = omega (arith, n, h.steps, k.steps) }

-- the same bits, otherwise
pub same_added : {first second sink fields sink1 fields1 : List Bool} {meter meter1 : ℕ} → first ≡ second
    → AddsBits first sink fields sink1 fields1 meter meter1 → AddsBits second sink fields sink1 fields1 meter meter1
same_added {first} {second} {sink} {fields} {sink1} {fields1} {meter} {meter1} e h = subst (λ bits. AddsBits bits sink fields sink1 fields1 meter meter1) e h

-- and the room for them
pub same_room : {first second : List Bool} {bits meter : ℕ} → first ≡ second → HasRoomForBits first bits meter → HasRoomForBits second bits meter
same_room {first} {second} {bits} {meter} e h = subst (λ more. HasRoomForBits more bits meter) e h

-- the digits of a word are as many as its width
pub word_added : (width value : ℕ) {sink fields sink1 fields1 : List Bool} {meter meter1 : ℕ} → AddsFields (word width value) width width sink fields sink1 fields1 meter meter1
    → AddsBits (word width value) sink fields sink1 fields1 meter meter1
word_added width value h = let n = length-word width value in record { bits = h.bits; len = omega (arith, n, h.len); steps = omega (arith, n, h.steps) }

-- and there is room for it
pub room_for_word : (width value : ℕ) {bits meter : ℕ} → HasRoomForBits (word width value) bits meter → HasRoomFor width width bits meter
room_for_word width value h = let n = length-word width value in record { room = omega (arith, n, h.room); steps = omega (arith, n, h.steps) }

-- those of a sequence are one more than its zeros
pub sequence_added : (m : ℕ) {sink fields sink1 fields1 : List Bool} {meter meter1 : ℕ}
    → AddsFields (fundamental_sequence m) (m + 1) (m + 1) sink fields sink1 fields1 meter meter1 → AddsBits (fundamental_sequence m) sink fields sink1 fields1 meter meter1
sequence_added m h = let n = length-fundamental_sequence m in record { bits = h.bits; len = omega (arith, n, h.len); steps = omega (arith, n, h.steps) }

-- and there is room for it
pub room_for_sequence : (m : ℕ) {bits meter : ℕ} → HasRoomForBits (fundamental_sequence m) bits meter → HasRoomFor (m + 1) (m + 1) bits meter
room_for_sequence m h = let n = length-fundamental_sequence m in record { room = omega (arith, n, h.room); steps = omega (arith, n, h.steps) }

-- a range of a list is its first part and the rest
slice_parts : (xs : List ℕ) (a m b : ℕ) → a ≤ m → m ≤ b → slice_range xs a b ≡ slice_range xs a m ++ slice_range xs m b
slice_parts xs a m b h k =
    let count : b - a ≡ (m - a) + (b - m) = omega (arith, h, k) in
    let place : a + (m - a) ≡ m = omega (arith, h) in
    ap (λ n. take n (drop a xs)) count
    ∙ (take-add (m - a) (b - m) (drop a xs) ∙ ap (λ v. take (m - a) (drop a xs) ++ take (b - m) v) (drop-drop (m - a) a xs ∙ ap (λ n. drop n xs) place))

-- so are the bits of its numbers
pub bits_of_parts : (f : ℕ → List Bool) (xs : List ℕ) (a m b : ℕ) → a ≤ m → m ≤ b → flat_map f (slice_range xs a b) ≡ flat_map f (slice_range xs a m) ++ flat_map f (slice_range xs m b)
bits_of_parts f xs a m b h k = ap (flat_map f) (slice_parts xs a m b h k) ∙ flat_map-append f (slice_range xs a m) (slice_range xs m b)

-- a range of one number
pub bits_of_one : (f : ℕ → List Bool) (xs : List ℕ) (i : ℕ) → i < length xs → flat_map f (slice_range xs i (i + 1)) ≡ f (get_or xs i 0)
bits_of_one f xs i lt =
    let count : i + 1 - i ≡ 1 = omega arith in
    let len = length-drop i xs in
    let place : i + 0 ≡ i = omega arith in
    let one : take 1 (drop i xs) ≡ get_or xs i 0 ∷ [] = take-suc (drop i xs) 0 0 (omega (arith, len, lt)) ∙ ap (λ d. d ∷ []) (get_or-drop i xs 0 0 ∙ ap (λ n. get_or xs n 0) place) in
    ap (λ n. flat_map f (take n (drop i xs))) count ∙ (ap (flat_map f) one ∙ append-nil (f (get_or xs i 0)))

-- a range of none
pub bits_of_none : (f : ℕ → List Bool) (xs : List ℕ) (a : ℕ) → flat_map f (slice_range xs a a) ≡ []
bits_of_none f xs a = let count : a - a ≡ 0 = omega arith in ap (λ n. flat_map f (take n (drop a xs))) count

-- a range to the end
pub slice_to_end : (xs : List ℕ) (a n : ℕ) → length xs ≡ n → slice_range xs a n ≡ drop a xs
slice_to_end xs a n len = ap (λ m. take (m - a) (drop a xs)) (sym len) ∙ take_rest xs a

-- a range from the front
pub head_slice : (xs : List ℕ) (a n : ℕ) → a ≤ n → drop a (take n xs) ≡ slice_range xs a n
head_slice xs a n le =
    let parts : n ≡ a + (n - a) = omega (arith, le) in
    ap (λ m. drop a (take m xs)) parts ∙ drop-take a (n - a) xs

-- there is room for all numbers from one on, as a range
pub room_to_end : (f : ℕ → List Bool) (xs : List ℕ) (a n : ℕ) {bits meter : ℕ} → length xs ≡ n → HasRoomForBits (flat_map f (drop a xs)) bits meter
    → HasRoomForBits (flat_map f (slice_range xs a n)) bits meter
room_to_end f xs a n len h = same_room (ap (flat_map f) (sym (slice_to_end xs a n len))) h

-- and all are added
pub added_to_end : (f : ℕ → List Bool) (xs : List ℕ) (a m : ℕ) {sink fields sink1 fields1 : List Bool} {meter meter1 : ℕ} → m ≡ length xs
    → AddsBits (flat_map f (slice_range xs a m)) sink fields sink1 fields1 meter meter1 → AddsBits (flat_map f (drop a xs)) sink fields sink1 fields1 meter meter1
added_to_end f xs a m last h = same_added (ap (flat_map f) (slice_to_end xs a m (sym last))) h

-- or those up to a place
pub added_up_to : (f : ℕ → List Bool) (xs : List ℕ) (a m n : ℕ) {sink fields sink1 fields1 : List Bool} {meter meter1 : ℕ} → m ≡ n
    → AddsBits (flat_map f (slice_range xs a m)) sink fields sink1 fields1 meter meter1 → AddsBits (flat_map f (slice_range xs a n)) sink fields sink1 fields1 meter meter1
added_up_to f xs a m n e h = same_added (ap (λ i. flat_map f (slice_range xs a i)) e) h

-- the numbers up to a range are added, and then those of the range
pub range_added : (f : ℕ → List Bool) (xs : List ℕ) (a m b : ℕ) {more : List Bool} {sink fields sink1 fields1 sink2 fields2 : List Bool} {meter meter1 meter2 : ℕ} → a ≤ m → m ≤ b
    → more ≡ flat_map f (slice_range xs m b) → AddsBits (flat_map f (slice_range xs a m)) sink fields sink1 fields1 meter meter1 → AddsBits more sink1 fields1 sink2 fields2 meter1 meter2
    → AddsBits (flat_map f (slice_range xs a b)) sink fields sink2 fields2 meter meter2
range_added f xs a m b {more} {sink} {fields} {sink1} {fields1} {sink2} {fields2} {meter} {meter1} {meter2} h k same done next =
    let all = bits_of_parts f xs a m b h k ∙ ap (λ v. flat_map f (slice_range xs a m) ++ v) (sym same) in
    let both = both_added (flat_map f (slice_range xs a m)) more done next in
    let len = ap length all in
    record { bits = both.bits ∙ ap (λ v. sink ++ fields ++ v) (sym all); len = omega (arith, len, both.len); steps = omega (arith, len, both.steps) }

-- before they are, there is room
pub room_for_range : (f : ℕ → List Bool) (xs : List ℕ) (a m n b : ℕ) {more : List Bool} {sink fields sink1 fields1 : List Bool} {meter meter1 : ℕ} → a ≤ m → m ≤ n → n ≤ b
    → more ≡ flat_map f (slice_range xs m n) → HasRoomForBits (flat_map f (slice_range xs a b)) (length sink + length fields) (meter + length fields)
    → AddsBits (flat_map f (slice_range xs a m)) sink fields sink1 fields1 meter meter1 → HasRoomForBits more (length sink1 + length fields1) (meter1 + length fields1)
room_for_range f xs a m n b {more} h k l same room done =
    let whole = ap length (bits_of_parts f xs a m b h (omega (arith, k, l))) ∙ length-append (flat_map f (slice_range xs a m)) (flat_map f (slice_range xs m b)) in
    let rest = ap length (bits_of_parts f xs m n b k l) ∙ length-append (flat_map f (slice_range xs m n)) (flat_map f (slice_range xs n b)) in
    let len = ap length same in
    record { room = omega (arith, whole, rest, len, room.room, done.len); steps = omega (arith, whole, rest, len, room.steps, done.steps) }
