-- Words of 8, 16 or 32 digits, and the 64 digits that some of them have.
use Rattle.std.proofs.Common.{◌≡◌, ℕ, zero, suc, ◌+◌, ◌-◌, ◌*◌, ◌/◌, ◌%◌, ◌^◌, ◌<◌, ◌≤◌, Bool, false, List, [], ◌∷◌, ◌++◌, length, take, drop, map, get_or, replicate, refl, sym, ◌∙◌, ap}
use Rattle.std.proofs.lemmas.{Nat.and_mask, Nat.be_bytes_8, Nat.div-mul-add, Nat.le_bytes_8, Nat.mod-pow-add, Nat.mod_below, Nat.one_shl, Nat.or_shifted, Nat.pow_pos, Nat.shr_below, Simd.pick_l_whole}
use Rattle.std.proofs.lemmas.{List.drop_more, List.length-drop, List.length-map, List.length-take-le, List.take_all, Grind.common_steps, Grind.flat_map-append}
use Rattle.std.proofs.{Common.arith, Common.append_assoc, Common.append-nil, Common.length-append, Common.bit_and, Common.bit_or, lemmas.List.Elements.All-cons, lemmas.List.Elements.All-nil}
use Rattle.std.specs.{Int.from_le_bytes, Int.swap_bytes, Int.to_be_bytes, Int.to_le_bytes, Int.w8, Int.w64, Simd.Lanes.Each1, Simd.Lanes.number_l, Simd.Lanes.zip2, Prelude.All, Prelude.flat_map}
use Rattle.std.{proofs.Math.Nat.mul-mod_left, proofs.Math.Seq.take-add, specs.List.slice_index}
use Rattle.rice_bits.proofs.lemmas.bits.{WordsAndNumbers.join_below, WordsAndNumbers.shift_fits, WordsAndNumbers.word-cat, WordsAndNumbers.word-split, JoinedBits.join-more, JoinedBits.pair_word}
use Rattle.rice_bits.proofs.lemmas.bits.{SinkBytes.gathered-put, SinkBytes.joined_below, SinkBytes.last_zeros, EightBytes.bits_of-eight, EightBytes.eight-fit, EightBytes.word-mod}
use Rattle.rice_bits.{specs.Bits.IsWholeWidth, specs.Bits.JoinsAllBut, proofs.lemmas.bits.BytesAndBits.each_byte, specs.Bits.Joins, specs.Bits.bits_of, specs.Bits.word}
use mir.Val.{Fits}

-- the first four of the words from a place on
first_four : (ws : List ℕ) (at : ℕ) → at + 4 ≤ length ws
    → drop at ws ≡ get_or ws at 0 ∷ get_or ws (at + 1) 0 ∷ get_or ws (at + 2) 0 ∷ get_or ws (at + 3) 0 ∷ drop (at + 3 + 1) ws
first_four ws at room = grind (arith, common_steps, get_or, drop_more)

-- two words of 32 digits
pub two_words : (ws : List ℕ) (at v : ℕ) → at + 2 ≤ length ws → get_or ws (at + 1) 0 < 2 ^ 32 → v ≡ get_or ws at 0 * 2 ^ 32 + get_or ws (at + 1) 0
    → word 64 v ≡ flat_map (word 32) (take (at + 2 - at) (drop at ws))
two_words ws at v room fit e =
    let count : at + 2 - at ≡ 2 = omega arith in
    let next : at + 1 + 1 ≡ at + 2 = omega arith in
    let a = get_or ws at 0 in
    let b = get_or ws (at + 1) 0 in
    let two : drop at ws ≡ a ∷ b ∷ drop (at + 1 + 1) ws = drop_more ws at 0 (omega (arith, room)) ∙ ap (λ d. a ∷ d) (drop_more ws (at + 1) 0 (omega (arith, room))) in
    ap (word 64) e ∙ (word-cat 32 32 a b fit ∙ (ap (λ d. word 32 a ++ d) (sym (append-nil (word 32 b))) ∙ sym (rw (count, two) refl)))

-- the lowest digits of a number, which fit
pub record LowDigits (width number digits : ℕ) : Type 0 where
  pub value : digits ≡ number % 2 ^ width
  pub fit : digits < 2 ^ width

-- four numbers of 16 bits, joined by two
pub record JoinedTwice (a b c d first last v : ℕ) : Type 0 where
  pub first_pair : first ≡ a * 2 ^ 16 + b
  pub last_pair : last ≡ c * 2 ^ 16 + d
  pub all : v ≡ first * 2 ^ 32 + last

-- four words of 16 digits
pub four_words : (ws : List ℕ) (at : ℕ) {a b c d first last v : ℕ} → at + 4 ≤ length ws
    → LowDigits 16 (get_or ws at 0) a → LowDigits 16 (get_or ws (at + 1) 0) b → LowDigits 16 (get_or ws (at + 2) 0) c → LowDigits 16 (get_or ws (at + 3) 0) d
    → JoinedTwice a b c d first last v → word 64 v ≡ flat_map (word 16) (take (at + 4 - at) (drop at ws))
four_words ws at {a} {b} {c} {d} {first} {last} room a_low b_low c_low d_low joins =
    let count : at + 4 - at ≡ 4 = omega arith in
    let x = get_or ws at 0 in
    let y = get_or ws (at + 1) 0 in
    let z = get_or ws (at + 2) 0 in
    let u = get_or ws (at + 3) 0 in
    let four = first_four ws at room in
    let front : word 32 first ≡ word 16 x ++ word 16 y = pair_word 16 x y a_low.value b_low.value b_low.fit joins.first_pair in
    let back : word 32 last ≡ word 16 z ++ word 16 u = pair_word 16 z u c_low.value d_low.value d_low.fit joins.last_pair in
    ap (word 64) joins.all ∙ (word-cat 32 32 first last (omega (arith, joins.last_pair, c_low.fit, d_low.fit)) ∙ ((λ i. front i ++ back i)
    ∙ (append_assoc (word 16 x) (word 16 y) (word 16 z ++ word 16 u) ∙ (ap (λ d. word 16 x ++ (word 16 y ++ (word 16 z ++ d))) (sym (append-nil (word 16 u))) ∙ sym (rw (count, four) refl)))))

-- the lowest bytes of numbers in lanes
pub lowest_bytes_by_mask : (ws : List ℕ) (n : ℕ) → length ws ≡ n → zip2 bit_and ws (replicate n 255) ≡ map (λ d. d % 2 ^ 8) ws
lowest_bytes_by_mask [] n h = refl
lowest_bytes_by_mask (w ∷ ws) zero h = absurd (omega (arith, h))
lowest_bytes_by_mask (w ∷ ws) (suc n) h = λ i. and_mask w 8 i ∷ lowest_bytes_by_mask ws n (omega (arith, h)) i

-- the number of eight bytes
number_of_eight : (bytes : List ℕ) → length bytes ≡ 8 → ((i : ℕ) → get_or bytes i 0 < 256) → number_l 256 bytes % 18446744073709551616 ≡ from_le_bytes w64 bytes
number_of_eight bytes h fit =
    rw (← pick_l_whole 0 bytes 8 h) (omega (arith, fit 0, fit 1, fit 2, fit 3, fit 4, fit 5, fit 6, fit 7))

low_words : (xs : List ℕ) → flat_map (word 8) (map (λ d. d % 2 ^ 8) xs) ≡ flat_map (word 8) xs
low_words [] = refl
low_words (x ∷ xs) = λ i. word-mod 8 8 x (omega arith) i ++ low_words xs i

low_bytes : (xs : List ℕ) → All (λ b. b < 256) (map (λ d. d % 2 ^ 8) xs)
low_bytes [] = All-nil (λ b. b < 256)
low_bytes (x ∷ xs) = All-cons (λ b. b < 256) (x % 2 ^ 8) (map (λ d. d % 2 ^ 8) xs) (omega arith) (low_bytes xs)

-- the number of the lowest bytes of eight numbers, with its bytes swapped, spells these
eight_spelled : (xs bytes : List ℕ) (n r : ℕ) → length xs ≡ 8 → bytes ≡ map (λ d. d % 2 ^ 8) xs → n ≡ number_l 256 bytes % 18446744073709551616 → r ≡ swap_bytes w64 n
    → word 64 r ≡ flat_map (word 8) xs
unfolding bits_of
eight_spelled xs bytes n r h e f g =
    let size : length bytes ≡ 8 = ap length e ∙ (length-map xs (λ d. d % 2 ^ 8) ∙ h) in
    let fit : (i : ℕ) → get_or bytes i 0 < 256 = each_byte bytes (rw e (low_bytes xs)) in
    let bytes_are : to_be_bytes w64 r ≡ bytes = be_bytes_8 (to_le_bytes w64 n) r refl (each_byte (to_le_bytes w64 n) (eight-fit n)) g ∙ le_bytes_8 bytes n size fit
    (f ∙ number_of_eight bytes size fit) in
    sym (bits_of-eight r) ∙ (ap (flat_map (word 8)) (bytes_are ∙ e) ∙ low_words xs)

-- eight words of 8 digits: the number of their lowest bytes, with its bytes swapped, spells them
pub eight_words : (ws : List ℕ) (at : ℕ) (bytes : List ℕ) (n r : ℕ) → at + 8 ≤ length ws → bytes ≡ map (λ d. d % 2 ^ 8) (take 8 (drop at ws))
    → n ≡ number_l 256 bytes % 18446744073709551616 → r ≡ swap_bytes w64 n → word 64 r ≡ flat_map (word 8) (take (at + 8 - at) (drop at ws))
eight_words ws at bytes n r room e f g = grind (arith, common_steps, length-take-le, length-drop, eight_spelled)

-- the lowest bytes fit bytes
pub lowest_fit : (ws : List ℕ) → Each1 (Fits w8) (map (λ d. d % 2 ^ 8) ws)
lowest_fit [] = tt
lowest_fit (w ∷ ws) = (record { fits = mod_below w (2 ^ 8) (omega arith) }, lowest_fit ws)

-- the lowest digits of a number, moved up
moved_low : (a b v : ℕ) → v * 2 ^ b % 2 ^ (a + b) ≡ v % 2 ^ a * 2 ^ b
moved_low a b v =
    let none : v * 2 ^ b + 0 ≡ v * 2 ^ b = omega arith in
    let q : v * 2 ^ b / 2 ^ b ≡ v = ap (λ n. n / 2 ^ b) (sym none) ∙ div-mul-add v (2 ^ b) 0 (pow_pos b) in
    mod-pow-add (v * 2 ^ b) a b ∙ (rw (q, mul-mod_left v (2 ^ b)) (omega arith))

-- digits of the end of a number, and of the front of the next
pub seam_spelled : (last next left r : ℕ) → 1 ≤ left → left < 64 → next < 2 ^ 64 → r ≡ bit_or (last * 2 ^ (64 - left) % 2 ^ 64) (next / 2 ^ left)
    → word 64 r ≡ word left last ++ word (64 - left) (next / 2 ^ left)
seam_spelled last next left r some few fit e =
    let size : left + (64 - left) ≡ 64 = omega arith in
    let back : 64 - left + left ≡ 64 = omega arith in
    let low : next / 2 ^ left < 2 ^ (64 - left) = shr_below next (64 - left) left (rw back fit) in
    let high : last * 2 ^ (64 - left) % 2 ^ 64 ≡ last % 2 ^ left * 2 ^ (64 - left) = ap (λ k. last * 2 ^ (64 - left) % 2 ^ k) (sym size) ∙ moved_low left (64 - left) last in
    grind (arith, common_steps, bit_or, or_shifted, word-cat, word-mod)

-- the first digits of a number fit as many
pub front_fits : (left next : ℕ) → next < 2 ^ 64 → left ≤ 64 → next / 2 ^ left < 2 ^ (64 - left)
front_fits left next fit few = let back : 64 - left + left ≡ 64 = omega arith in shr_below next (64 - left) left (rw back fit)

-- the first digits of a number, and the last
pub first_and_last : (left next : ℕ) → left ≤ 64 → word 64 next ≡ word (64 - left) (next / 2 ^ left) ++ word left next
first_and_last left next most = grind (arith, common_steps, word-split, word-mod)

-- 64 digits that are stored after whole bytes
pub whole-put : (old : List ℕ) {new : List ℕ} (n value : ℕ) → n % 8 ≡ 0 → n + 64 ≤ 8 * length old → value < 2 ^ 64 → slice_index old (n / 8) < 256
    → drop n (bits_of old) ≡ replicate (8 * length old - n) false → new ≡ take (n / 8) old ++ (to_be_bytes w64 value ++ drop (n / 8 + 8) old)
    → (take (n + 64) (bits_of new) ≡ take n (bits_of old) ++ word 64 value) × (drop (n + 64) (bits_of new) ≡ replicate (8 * length old - (n + 64)) false)
whole-put old {new} n value whole room fit byte zeros e =
    let b = slice_index old (n / 8) in
    let low : b % 2 ^ (8 - 0) ≡ 0 = ap (λ g. b % 2 ^ (8 - g)) (sym whole) ∙ last_zeros old n (omega arith) zeros in
    let none : b ≡ 0 = omega (arith, low, byte) in
    let shift : 64 - (n % 8 + 64) ≡ 0 = omega arith in
    let value_is : b * 2 ^ 56 + value * 2 ^ (64 - (n % 8 + 64)) ≡ value = rw (none, shift) (omega arith) in
    let all = take (n / 8) old ++ (to_be_bytes w64 value ++ drop (n / 8 + 8) old) in
    let size : length all ≡ length old = grind (arith, common_steps, length-append, length-take-le, length-drop) in
    gathered-put old n 64 value room (omega arith) fit zeros
    (e ∙ (sym (take_all (length old) all (omega (arith, size))) ∙ ap (λ v. take (length old) (take (n / 8) old ++ (to_be_bytes w64 v ++ drop (n / 8 + 8) old))) (sym value_is)))

-- a value in front of the first digits of a number
pub value_fits : (g count value : ℕ) → g < 8 → 1 ≤ count → count ≤ 48 → value < 2 ^ count → value * 2 ^ (64 - (g + count)) < 18446744073709551616
value_fits g count value short some few below = shift_fits count (64 - (g + count)) value below (omega arith)

-- a number of digits that are put first: some, and few enough for a word that begins with them in the midst of a byte
pub record FirstDigits (count value : ℕ) : Type 0 where
  pub some : 1 ≤ count
  pub few : count ≤ 48
  pub fit : value < 2 ^ count

-- and with the digits of a byte in front of it
pub first_below : {b g count : ℕ} (value first : ℕ) {all : ℕ} → b < 256 → b % 2 ^ (8 - g) ≡ 0 → g < 8 → FirstDigits count value → first < 2 ^ 64
    → all ≡ value * 2 ^ (64 - (g + count)) + first / 2 ^ (g + count) → b * 72057594037927936 + all < 18446744073709551616
first_below {b} {g} {count} value first {all} byte zeros short digits fit e =
    let size : count + (64 - (g + count)) ≡ 64 - g = omega arith in
    let shift : 64 - (g + (64 - g)) ≡ 0 = omega arith in
    let small : all < 2 ^ (64 - g) = rw (e, ← size) (join_below count (64 - (g + count)) value (first / 2 ^ (g + count)) digits.fit (front_fits (g + count) first fit (omega arith))) in
    let h : b * 2 ^ 56 + all * 2 ^ (64 - (g + (64 - g))) < 2 ^ 64 = joined_below b g (64 - g) all byte zeros short (omega arith) small in
    grind (arith, common_steps)

-- the digits of a value, and then the first of a number, up to a whole byte
pub first-put : (old : List ℕ) {new : List ℕ} (n : ℕ) {count value : ℕ} (first : ℕ) {all : ℕ} → FirstDigits count value → first < 2 ^ 64 → n + (count + 64) ≤ 8 * length old
    → drop n (bits_of old) ≡ replicate (8 * length old - n) false → all ≡ value * 2 ^ (64 - (n % 8 + count)) + first / 2 ^ (n % 8 + count)
    → new ≡ take (length old) (take (n / 8) old ++ (to_be_bytes w64 (slice_index old (n / 8) * 2 ^ 56 + all) ++ drop (n / 8 + 8) old))
    → (take (n + (64 - n % 8)) (bits_of new) ≡ take n (bits_of old) ++ (word count value ++ word (64 - (n % 8 + count)) (first / 2 ^ (n % 8 + count))))
    × (drop (n + (64 - n % 8)) (bits_of new) ≡ replicate (8 * length old - (n + (64 - n % 8))) false)
first-put old {new} n {count} {value} first {all} digits fit room zeros e f =
    let left = n % 8 + count in
    let rest = 64 - left in
    let size : count + rest ≡ 64 - n % 8 = omega arith in
    let low = front_fits left first fit (omega arith) in
    let shift : 64 - (n % 8 + (64 - n % 8)) ≡ 0 = omega arith in
    let moved : all ≡ all * 2 ^ (64 - (n % 8 + (64 - n % 8))) = rw shift (omega arith) in
    let small : all < 2 ^ (64 - n % 8) = rw (e, ← size) (join_below count rest value (first / 2 ^ left) digits.fit low) in
    let spelled : word (64 - n % 8) all ≡ word count value ++ word rest (first / 2 ^ left) = grind (arith, common_steps, word-cat) in
    let put = gathered-put old n (64 - n % 8) all (omega arith) (omega arith) small zeros
    (f ∙ ap (λ v. take (length old) (take (n / 8) old ++ (to_be_bytes w64 (slice_index old (n / 8) * 2 ^ 56 + v) ++ drop (n / 8 + 8) old))) moved) in
    (put.0 ∙ ap (λ d. take n (bits_of old) ++ d) spelled, put.1)

-- one more of the numbers that words spell
next-joins : {left last : ℕ} (next sew : ℕ) {count bits all now : ℕ} {more : List Bool} {old mid new : List ℕ} → left ≤ count → left ≤ 64
    → JoinsAllBut left last more count bits all old mid → Joins (word 64 sew) 64 all now mid new
    → word 64 sew ≡ word left last ++ word (64 - left) (next / 2 ^ left) → now % 8 ≡ 0
    → JoinsAllBut left next (more ++ word 64 next) (count + 64) bits now old new
next-joins {left} {last} next sew least most f g e whole = grind (arith, common_steps, first_and_last, join-more, append_assoc)

-- a few digits after bits of a byte that is not whole
pub record AfterBits (g count : ℕ) : Type 0 where
  pub inside : g < 8
  pub few : count ≤ 48

-- the first of the numbers that words spell, after a value
pub value-joins : {g count : ℕ} (value : ℕ) {first : ℕ} (width per : ℕ) {bits all : ℕ} (words : List ℕ) {old new : List ℕ} → AfterBits g count → width * per ≡ 64 → all % 8 ≡ 0
    → word 64 first ≡ flat_map (word width) (take (0 + per - 0) (drop 0 words))
    → Joins (word count value ++ word (64 - (g + count)) (first / 2 ^ (g + count))) (64 - g) bits all old new
    → JoinsAllBut (g + count) first (word count value ++ flat_map (word width) (take (per * 1) words)) (count + width * (per * 1)) bits all old new
value-joins {g} {count} value {first} width per words stands sixty whole e f = grind (arith, common_steps, first_and_last, append_assoc)

product_of_three : (w p i : ℕ) → w * (p * i) ≡ w * p * i
product_of_three w p i = omega arith

-- a word is joined that is sewn of what was left of one and of the front of the next
pub record JoinsSewn (left last next sew all now : ℕ) (mid new : List ℕ) : Type 0 where
  pub joined : Joins (word 64 sew) 64 all now mid new
  pub sewn : word 64 sew ≡ word left last ++ word (64 - left) (next / 2 ^ left)
  pub whole : now % 8 ≡ 0

-- a word is the next ones of those of `width` digits, `per` of them
pub record NextWords (next width per i : ℕ) (words : List ℕ) : Type 0 where
  pub whole : width * per ≡ 64
  pub word : word 64 next ≡ flat_map (word width) (take (per * i + per - per * i) (drop (per * i) words))

-- and one more of them
pub words-joins : {left last next sew : ℕ} (count value : ℕ) {width per i bits all now : ℕ} (words : List ℕ) {old mid new : List ℕ} → 1 ≤ i → left ≤ 64 → NextWords next width per i words
    → JoinsAllBut left last (word count value ++ flat_map (word width) (take (per * i) words)) (count + width * (per * i)) bits all old mid
    → JoinsSewn left last next sew all now mid new
    → JoinsAllBut left next (word count value ++ flat_map (word width) (take (per * (i + 1)) words)) (count + width * (per * (i + 1))) bits now old new
words-joins {left} {last} {next} {sew} count value {width} {per} {i} {bits} {all} {now} words {old} {mid} {new} some most following f sewing =
    let at = per * i in
    let far : per * (i + 1) ≡ at + per = omega arith in
    let plain : at + per - at ≡ per = omega arith in
    let before : width * at ≡ 64 * i = product_of_three width per i ∙ ap (λ k. k * i) following.whole in
    let after : width * (per * (i + 1)) ≡ width * at + 64 = product_of_three width per (i + 1) ∙ (ap (λ k. k * (i + 1)) following.whole ∙ omega (arith, before)) in
    let count_is : count + width * at + 64 ≡ count + width * (per * (i + 1)) = omega (arith, after) in
    let more : word count value ++ flat_map (word width) (take (per * (i + 1)) words) ≡ (word count value ++ flat_map (word width) (take at words)) ++ word 64 next =
    ap (λ k. word count value ++ flat_map (word width) (take k words)) far
    ∙ (ap (λ xs. word count value ++ flat_map (word width) xs) (take-add at per words)
    ∙ (ap (λ d. word count value ++ d) (flat_map-append (word width) (take at words) (take per (drop at words)))
    ∙ (ap (λ d. word count value ++ (flat_map (word width) (take at words) ++ d)) (ap (λ k. flat_map (word width) (take k (drop at words))) (sym plain) ∙ sym following.word)
    ∙ sym (append_assoc (word count value) (flat_map (word width) (take at words)) (word 64 next))))) in
    rw (more, ← count_is) (next-joins next sew (omega (arith, before, most, some)) most f sewing.joined sewing.sewn sewing.whole)

-- and the last digits
pub last-joins : {left last : ℕ} (count width : ℕ) {n bits all now : ℕ} {more : List Bool} {old mid new : List ℕ} → IsWholeWidth width → 8 ≤ n → left ≤ 7 + count
    → left < 64 → JoinsAllBut left last more (count + width * n) bits all old mid → Joins (word left (last % (1 * 2 ^ left % 18446744073709551616))) left all now mid new
    → Joins more (count + width * n) bits now old new
last-joins {left} {last} count width {n} whole some few short f g = grind (arith, common_steps, one_shl, join-more, word-mod)
