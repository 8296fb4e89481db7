-- The bits that were given and not yet taken.
use Rattle.std.proofs.Common.{◌≡◌, ℕ, zero, suc, inl, inr, ◌+◌, ◌-◌, ◌*◌, ◌/◌, ◌%◌, ◌^◌, ◌<◌, ◌≤◌, ◌≢◌, Bool, true, false, List, [], ◌∷◌, ◌++◌, length, take, drop, replicate, length-append, refl, sym}
use Rattle.std.proofs.Common.{◌∙◌, ap, arith, take-take, append_assoc}
use Rattle.std.specs.Prelude.{flat_map, slice_range, ◌==◌, ◌&&◌}
use Rattle.std.proofs.lemmas.List.{drop-drop, drop-take, length-drop, length-replicate, length-take-le, replicate-append-replicate, take-append-drop, take-append-le, take-replicate}
use Rattle.std.proofs.{Math.Seq.drop-append_seam, Math.Seq.take-add, Math.Seq.take-append_seam, lemmas.Bool.Decides.nat_tests, lemmas.Grind.common_steps, lemmas.Bool.cases_lt}
use Rattle.std.specs.Int.{to_be_bytes, w64}
use Rattle.rice_bits.proofs.lemmas.bits.{FrontsOfWords.front_below, FrontsOfWords.take-front, FrontsOfWords.word-moved, FrontsOfWords.word-parts, EightBytes.bits_of-eight}
use Rattle.rice_bits.proofs.lemmas.bits.{BytesAndBits.bits_of-append, BytesAndBits.bits_of-zeros, BytesAndBits.length-bits_of, WordsAndNumbers.length-word, WordsAndNumbers.word-split}
use Rattle.rice_bits.specs.{Window.IsWindow, Window.Passes, Window.bits_ahead, Window.buffer_len, Window.most_buffered, Window.bits_near, Window.window_bits, Window.window_passed}
use Rattle.rice_bits.specs.{Bits.fundamental_sequence, Bits.word, Bits.bits_of}
use Rattle.rice_bits.{proofs.lemmas.read.BlankBits.blank-append, proofs.lemmas.read.BlankBits.blank-word, specs.declared.read.window.Window.Window, specs.Window.AreBitsFrom}
use Rattle.rice_bits.specs.Reader.{is_blank}

-- a part of a list is its two parts
between-join : {A : Type 0} (xs : List A) (a s e : ℕ) → a ≤ s → s ≤ e → slice_range xs a s ++ slice_range xs s e ≡ slice_range xs a e
between-join xs a s e p q =
    let n : (s - a) + (e - s) ≡ e - a = omega arith in
    let m : a + (s - a) ≡ s = omega arith in
    grind (arith, common_steps, drop-drop, take-add)

-- what stands after the first part of a list is the second
pub drop-seam : {A : Type 0} (xs ys : List A) (n : ℕ) → length xs ≡ n → drop n (xs ++ ys) ≡ ys
drop-seam xs ys n e = ap (λ k. drop k (xs ++ ys)) (sym e) ∙ drop-append_seam xs ys

-- the bits of the first bytes are the first bits of all bytes
pub take-bits_of : (n : ℕ) (xs : List ℕ) → n ≤ length xs → take (8 * n) (bits_of xs) ≡ bits_of (take n xs)
take-bits_of n xs h =
    let front = bits_of (take n xs) in
    let len : length front ≡ 8 * n = length-bits_of (take n xs) ∙ ap (λ k. 8 * k) (length-take-le n xs h) in
    let both : bits_of xs ≡ front ++ bits_of (drop n xs) = ap bits_of (sym (take-append-drop n xs)) ∙ bits_of-append (take n xs) (drop n xs) in
    ap (take (8 * n)) both ∙ (ap (λ k. take k (front ++ bits_of (drop n xs))) (sym len) ∙ take-append_seam front (bits_of (drop n xs)))

-- and the bits after those of the first bytes are those of the others
pub drop-bits_of : (n : ℕ) (xs : List ℕ) → n ≤ length xs → drop (8 * n) (bits_of xs) ≡ bits_of (drop n xs)
drop-bits_of n xs h =
    let front = bits_of (take n xs) in
    let len : length front ≡ 8 * n = length-bits_of (take n xs) ∙ ap (λ k. 8 * k) (length-take-le n xs h) in
    let both : bits_of xs ≡ front ++ bits_of (drop n xs) = ap bits_of (sym (take-append-drop n xs)) ∙ bits_of-append (take n xs) (drop n xs) in
    ap (drop (8 * n)) both ∙ drop-seam front (bits_of (drop n xs)) (8 * n) len

-- no bits are buffered where the window is at its end
pub window_empty : (w : Window) → w.at ≡ w.end → window_bits w ≡ []
unfolding window_bits
window_empty w e = grind (arith, common_steps)

-- in a window from the start of its buffer to the end of the first bytes the bits of these bytes are buffered
pub window_filled : (w : Window) (n : ℕ) → w.at ≡ 0 → w.end ≡ 8 * n → n ≤ length w.buffer → window_bits w ≡ bits_of (take n w.buffer)
unfolding window_bits
window_filled w n a e h = grind (arith, common_steps, take-bits_of)

-- bytes with zeros written after them
pub zeros-after : (old new : List ℕ) (n k : ℕ) → n ≤ length old → take (n + k) new ≡ take n old ++ replicate k 0
    → (take n new ≡ take n old) × (take k (drop n new) ≡ replicate k 0)
zeros-after old new n k h e =
    let len : length (take n old) ≡ n = length-take-le n old h in (
      sym (take-take n (n + k) new (omega arith)) ∙ (ap (take n) e ∙ (ap (λ m. take m (take n old ++ replicate k 0)) (sym len) ∙ take-append_seam (take n old) (replicate k 0))),
      sym (drop-take n k new) ∙ (ap (drop n) e ∙ drop-seam (take n old) (replicate k 0) n len),
    )

-- as many bits are buffered as there are from the window's place to its end
pub length-window : (w : Window) → IsWindow w → length (window_bits w) ≡ w.end - w.at
unfolding window_bits
length-window w h =
    length-take-le (w.end - w.at) (drop w.at (bits_of w.buffer)) (omega (arith, length-drop w.at (bits_of w.buffer), length-bits_of w.buffer, h.size, h.fits))

-- a window of which bits were taken
pub window-moved : (w : Window) (at : ℕ) → IsWindow w → w.at ≤ at → at ≤ w.end → IsWindow (record w { at = at })
window-moved w at h from to = grind (arith, common_steps)

-- no bits were passed where the mark is at the window's place
pub passed_none : (w : Window) → w.marked ≡ w.at → window_passed w ≡ []
unfolding window_passed
passed_none w e = grind (arith, common_steps)

-- the same bits are buffered wherever the mark is
pub marked-bits : (w : Window) (marked : ℕ) → window_bits (record w { marked = marked }) ≡ window_bits w
unfolding window_bits
marked-bits w marked = refl

-- bits are taken from the front of a window
pub window-passes : (w : Window) (at n : ℕ) (xs : List Bool) → IsWindow w → at ≡ w.at + n → at ≤ w.end
    → xs ≡ take n (drop w.at (bits_of w.buffer)) → Passes w (record w { at = at }) xs
unfolding window_bits window_passed
window-passes w at n xs h place there e =
    let bits = bits_of w.buffer in
    let size : at - w.at ≡ n = omega arith in
    grind (arith, common_steps, length-take-le, length-drop, length-bits_of, between-join)

-- the bits of eight bytes
bits-loaded : (bytes : List ℕ) (q v : ℕ) → q + 8 ≤ length bytes → to_be_bytes w64 v ≡ take 8 (drop q bytes) → word 64 v ≡ take 64 (drop (8 * q) (bits_of bytes))
bits-loaded bytes q v h eight =
    sym (bits_of-eight v) ∙ (ap bits_of eight ∙ (sym (take-bits_of 8 (drop q bytes) (omega (arith, h, length-drop q bytes))) ∙ ap (take 64) (sym (drop-bits_of q bytes (omega arith)))))

-- the bits from a place on, as a number inside eight bytes
pub number-inside : (bytes : List ℕ) (at v width : ℕ) → width ≤ 32 → at / 8 + 8 ≤ length bytes → to_be_bytes w64 v ≡ take 8 (drop (at / 8) bytes)
    → word width (v / 2 ^ (64 - (at % 8 + width)) % 2 ^ width) ≡ take width (drop at (bits_of bytes))
number-inside bytes at v width few h eight =
    let q = at / 8 in
    let s = at % 8 in
    let x = v / 2 ^ (64 - (s + width)) in
    let after = drop (8 * q) (bits_of bytes) in
    let place : 8 * q + s ≡ at = omega arith in
    let front : word (s + width) x ≡ take (s + width) after =
    sym (take-front 64 (s + width) v (omega (arith, few))) ∙ (ap (take (s + width)) (bits-loaded bytes q v h eight) ∙ take-take (s + width) 64 after (omega (arith, few))) in
    sym (drop-seam (word s (x / 2 ^ width)) (word width (x % 2 ^ width)) s (length-word s (x / 2 ^ width)))
    ∙ (ap (drop s) (sym (word-split s width x) ∙ front)
    ∙ (drop-take s width after ∙ ap (take width) (drop-drop s (8 * q) (bits_of bytes) ∙ ap (λ k. drop k (bits_of bytes)) place)))

-- the bits from a place on, in eight bytes that are moved up
pub bits-ahead : (bytes : List ℕ) (at v : ℕ) → at / 8 + 8 ≤ length bytes → to_be_bytes w64 v ≡ take 8 (drop (at / 8) bytes)
    → word 64 (v * 2 ^ (at % 8) % 2 ^ 64) ≡ take (64 - at % 8) (drop at (bits_of bytes)) ++ replicate (at % 8) false
bits-ahead bytes at v h eight =
    let q = at / 8 in
    let s = at % 8 in
    let front = word s (v / 2 ^ (64 - s)) in
    let after = drop (8 * q) (bits_of bytes) in
    let all = bits-loaded bytes q v h eight in
    let size : s + (64 - s) ≡ 64 = omega arith in
    let place : 8 * q + s ≡ at = omega arith in
    let rest : word (64 - s) v ≡ take (64 - s) (drop at (bits_of bytes)) =
    sym (drop-seam front (word (64 - s) v) s (length-word s (v / 2 ^ (64 - s)))) ∙ (ap (drop s) (sym (word-parts 64 s v (omega arith)) ∙ all)
    ∙ (ap (λ k. drop s (take k after)) (sym size) ∙ (drop-take s (64 - s) after ∙ ap (take (64 - s)) (drop-drop s (8 * q) (bits_of bytes) ∙ ap (λ k. drop k (bits_of bytes)) place)))) in
    word-moved 64 s v (omega arith) ∙ ap (λ z. z ++ replicate s false) rest

-- the first of the bits at the front of a word, with zeros after them
pub front-ahead : (bits : List Bool) (n m k r : ℕ) → n ≤ m → m + k ≡ 64 → word 64 r ≡ take m bits ++ replicate k false → take n (word 64 r) ≡ take n bits
front-ahead bits n m k r h all e = grind (arith, common_steps, length-word, length-append, length-replicate, take-append-le, take-take)

-- the same, of the number that the first spell
pub first-ahead : (bits : List Bool) (n m k r : ℕ) → n ≤ m → m + k ≡ 64 → word 64 r ≡ take m bits ++ replicate k false → word n (r / 2 ^ (64 - n)) ≡ take n bits
first-ahead bits n m k r h all e = sym (take-front 64 n r (omega (arith, h, all))) ∙ front-ahead bits n m k r h all e

-- all bits that are buffered, and zeros after them
pub near-ahead : (w : Window) (r : ℕ) → IsWindow w → word 64 r ≡ take (64 - w.at % 8) (drop w.at (bits_of w.buffer)) ++ replicate (w.at % 8) false
    → word 64 r ≡ take (bits_near w) (window_bits w) ++ replicate (64 - bits_near w) false
unfolding window_bits
near-ahead w r h e =
    let s = w.at % 8 in
    let bits = bits_of w.buffer in
    let ahead = drop w.at bits in
    let len = w.end - w.at in
    let buffered = length-window w h in
    let q = w.end / 8 in
    let bytes : 8 * q ≡ w.end = omega (arith, h.whole) in
    let room : q + 8 ≤ length w.buffer = omega (arith, h.size, h.fits) in
    let zeros : take 64 (drop w.end bits) ≡ replicate 64 false =
    ap (λ k. take 64 (drop k bits)) (sym bytes) ∙ (ap (take 64) (drop-bits_of q w.buffer (omega (arith, room)))
    ∙ (take-bits_of 8 (drop q w.buffer) (omega (arith, room, length-drop q w.buffer)) ∙ (ap bits_of h.after ∙ bits_of-zeros 8))) in
    elim (cases_lt len (64 - s)) [
      | inl short ↦
          let d = 64 - s - len in
          let near : bits_near w ≡ len = omega (arith, buffered, short) in
          let both : len + d ≡ 64 - s = omega (arith, short) in
          let gap : d + s ≡ 64 - len = omega (arith, short) in
          let past : w.at + len ≡ w.end = omega (arith, h.ordered) in
          let after : take d (drop len ahead) ≡ replicate d false =
          ap (take d) (drop-drop len w.at bits ∙ ap (λ k. drop k bits) past) ∙ (sym (take-take d 64 (drop w.end bits) (omega arith)) ∙ (ap (take d) zeros ∙ take-replicate d 64 false (omega arith))) in
          e ∙ (ap (λ k. take k ahead ++ replicate s false) (sym both) ∙ (ap (λ z. z ++ replicate s false) (take-add len d ahead ∙ ap (λ z. take len ahead ++ z) after)
          ∙ (append_assoc (take len ahead) (replicate d false) (replicate s false) ∙ (ap (λ z. take len ahead ++ z) (replicate-append-replicate d s false ∙ ap (λ k. replicate k false) gap)
          ∙ rw near (ap (λ z. z ++ replicate (64 - len) false) (sym (take-take len len ahead (omega arith))))))))
      | inr long ↦ grind (arith, common_steps, take-take)
    ]

-- the digits of words are as many as the width, for each of them
pub length-words : (width : ℕ) (xs : List ℕ) → length (flat_map (word width) xs) ≡ length xs * width
length-words width [] = omega arith
length-words width (x ∷ xs) = omega (arith, length-append (word width x) (flat_map (word width) xs), length-word width x, length-words width xs)

-- the first bits that are buffered
pub front-buffered : (w : Window) (n : ℕ) → n ≤ w.end - w.at → take n (window_bits w) ≡ take n (drop w.at (bits_of w.buffer))
unfolding window_bits
front-buffered w n h = take-take n (w.end - w.at) (drop w.at (bits_of w.buffer)) h

-- bits that are buffered after others
part-buffered : (w : Window) (skip n : ℕ) → IsWindow w → skip + n ≤ length (window_bits w) → take n (drop skip (window_bits w)) ≡ take n (drop (w.at + skip) (bits_of w.buffer))
unfolding window_bits
part-buffered w skip n h there =
    let bits = bits_of w.buffer in
    let all = w.end - w.at in
    let len : length (take all (drop w.at bits)) ≡ all = length-window w h in
    let room : skip + (all - skip) ≡ all = omega (arith, there, len) in
    grind (arith, common_steps, drop-take, take-take, drop-drop)

-- how many bits are looked at
pub length-ahead : (bytes : List ℕ) (at : ℕ) → (length bytes ≡ buffer_len) × (at ≤ most_buffered) → length (bits_ahead bytes at) ≡ 8 * length bytes - 64 - at
unfolding bits_ahead
length-ahead bytes at h =
    length-take-le (8 * length bytes - 64 - at) (drop at (bits_of bytes)) (omega (arith, length-drop at (bits_of bytes), length-bits_of bytes))

-- the bits that are looked at begin with the buffered bits
pub ahead_begins : {w : Window} {buffered : List Bool} → IsWindow w → window_bits w ≡ buffered → take (length buffered) (bits_ahead w.buffer w.at) ≡ buffered
unfolding window_bits bits_ahead
ahead_begins {w} {buffered} h e =
    let n = w.end - w.at in
    let all : length buffered ≡ n = ap length (sym e) ∙ length-window w h in
    ap (λ n. take n (bits_ahead w.buffer w.at)) all
    ∙ (take-take n (8 * length w.buffer - 64 - w.at) (drop w.at (bits_of w.buffer)) (omega (arith, h.fits, h.size, h.ordered)) ∙ e)

-- the bytes have the bits that are looked at
pub ahead_from : (bytes : List ℕ) (at skip : ℕ) → (length bytes ≡ buffer_len) × (at ≤ most_buffered) → skip ≤ length (bits_ahead bytes at)
    → AreBitsFrom bytes (at + skip) (drop skip (bits_ahead bytes at))
unfolding bits_ahead
ahead_from bytes at skip h there =
    let all = bits_of bytes in
    let bits = drop skip (bits_ahead bytes at) in
    let m = 8 * length bytes - 64 - at in
    let len = length-ahead bytes at h in
    let n : length bits ≡ m - skip = length-drop skip (bits_ahead bytes at) ∙ ap (λ n. n - skip) len in
    let split : m ≡ skip + (m - skip) = omega (arith, len, there) in
    let is : bits ≡ take (m - skip) (drop (at + skip) all) = ap (λ n. drop skip (take n (drop at all))) split
    ∙ (drop-take skip (m - skip) (drop at all) ∙ ap (take (m - skip)) (drop-drop skip at all)) in
    record {
      begin = ap (λ n. take n (drop (at + skip) all)) n ∙ sym is;
      room = omega (arith, n, len, there, h);
      small = omega (arith, len, there, h);
    }

-- a part of bits has no 1 where neither of its two parts has
blank-parts : (bits : List Bool) (a s e : ℕ) → a ≤ s → s ≤ e
    → is_blank (slice_range bits a e) ≡ (is_blank (slice_range bits a s) && is_blank (slice_range bits s e))
blank-parts bits a s e p q = ap is_blank (sym (between-join bits a s e p q)) ∙ blank-append (slice_range bits a s) (slice_range bits s e)

-- bits that stand at the front of a word have no 1 where they spell 0
blank-ahead : (bits : List Bool) (s n r v : ℕ) → n ≤ 57 → r < 2 ^ 64 → word 64 r ≡ take (64 - s % 8) (drop s bits) ++ replicate (s % 8) false
    → v ≡ r / 2 ^ (64 - n) → is_blank (slice_range bits s (s + n)) ≡ (v == 0)
blank-ahead bits s n r v few fits ahead e =
    let size : s + n - s ≡ n = omega arith in
    let digits : word n v ≡ slice_range bits s (s + n) = grind (arith, common_steps, first-ahead) in
    ap is_blank (sym digits) ∙ blank-word n v (rw e (front_below 64 n r (omega (arith, few)) fits))

-- a stretch without a 1 and the next n bits, where these spell 0, are a stretch without a 1
pub blank-more : (bits : List Bool) {a s n : ℕ} (r : ℕ) {v : ℕ} → a ≤ s → n ≤ 57 → r < 2 ^ 64 → word 64 r ≡ take (64 - s % 8) (drop s bits) ++ replicate (s % 8) false
    → v ≡ r / 2 ^ (64 - n) → is_blank (slice_range bits a s) ≡ true → v ≡ 0 → is_blank (slice_range bits a (s + n)) ≡ true
blank-more bits {a} {s} {n} r {v} from few fits ahead e before none =
    blank-parts bits a s (s + n) from (omega arith)
    ∙ ((λ j. before j && blank-ahead bits s n r v few fits ahead e j) ∙ ap (λ k. k == 0) none)

-- the first n bits of the word that stands at a place, as a number
pub record FrontOfWord (bits : List Bool) (s n r v : ℕ) : Type 0 where
  pub few : n ≤ 57
  pub fits : r < 2 ^ 64
  pub word : word 64 r ≡ take (64 - s % 8) (drop s bits) ++ replicate (s % 8) false
  pub front : v ≡ r / 2 ^ (64 - n)

-- and where the next n do not spell 0, there is a 1 before any end that is not inside them
pub blank-not : (bits : List Bool) {a s n : ℕ} (r : ℕ) {v : ℕ} (end : ℕ) → a ≤ s → FrontOfWord bits s n r v → is_blank (slice_range bits a s) ≡ true → v ≢ 0 → s + n ≤ end
    → is_blank (slice_range bits a end) ≡ false
blank-not bits {a} {s} {n} r {v} end from looked before some within =
    let one : (v == 0) ≡ false = grind (arith, nat_tests) in
    blank-parts bits a s end from (omega (arith, within))
    ∙ ((λ j. before j && blank-parts bits s (s + n) end (omega arith) within j)
    ∙ ap (λ b. b && is_blank (slice_range bits (s + n) end)) (blank-ahead bits s n r v looked.few looked.fits looked.word looked.front ∙ one))

-- a sequence at the front of bits with zeros after them is one of those bits
pub run-within : (m k : ℕ) (rest xs : List Bool) → fundamental_sequence m ++ rest ≡ xs ++ replicate k false → m + 1 ≤ length xs
run-within m k rest [] e = absurd (no-run m k rest e)
  where
    no-run : (m k : ℕ) (rest : List Bool) → fundamental_sequence m ++ rest ≡ replicate k false → ⊥
    no-run zero zero rest e = absurd cc
    no-run zero (suc k) rest e = absurd cc
    no-run (suc m) zero rest e = absurd cc
    no-run (suc m) (suc k) rest e = (let t : fundamental_sequence m ++ rest ≡ replicate k false = cc in no-run m k rest t)
run-within zero k rest (x ∷ xs) e = omega arith
run-within (suc m) k rest (x ∷ xs) e =
    let t : fundamental_sequence m ++ rest ≡ xs ++ replicate k false = cc in
    omega (arith, run-within m k rest xs t)

-- bits that are near are there
pub near-there : (w : Window) (xs : List Bool) → IsWindow w → length xs ≤ length (take (bits_near w) (window_bits w)) → w.at + length xs ≤ w.end
near-there w xs h short =
    omega (arith, short, length-take-le (bits_near w) (window_bits w) (omega arith), length-window w h, h.ordered)

-- the first bits of a window, which stand at the front of a word
pub window-front : {w : Window} (at r : ℕ) (xs rest : List Bool) → IsWindow w → word 64 r ≡ take (bits_near w) (window_bits w) ++ replicate (64 - bits_near w) false
    → word 64 r ≡ xs ++ rest → length xs ≤ length (take (bits_near w) (window_bits w)) → at ≡ w.at + length xs → Passes w (record w { at = at }) xs
window-front {w} at r xs rest h near e short place =
    let n = length xs in
    let there = near-there w xs h short in
    let few : n ≤ bits_near w = omega (arith, short, length-take-le (bits_near w) (window_bits w) (omega arith)) in
    let front : xs ≡ take n (window_bits w) =
    sym (take-append_seam xs rest) ∙ (ap (take n) (sym e ∙ near) ∙ (take-append-le n (take (bits_near w) (window_bits w)) _ short ∙ take-take n (bits_near w) (window_bits w) few)) in
    window-passes w at n xs h place (omega (arith, there)) (front ∙ front-buffered w n (omega (arith, there)))
