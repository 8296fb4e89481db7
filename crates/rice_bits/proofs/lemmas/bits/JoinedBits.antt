-- Bits that are joined to bits, one after the other.
use Rattle.std.proofs.Common.{◌≡◌, ℕ, ◌+◌, ◌-◌, ◌*◌, ◌%◌, ◌^◌, ◌<◌, Bool, List, ◌++◌, length, take, drop, ◌∙◌, ap, arith, append_assoc, length-append}
use Rattle.std.proofs.lemmas.{List.length-drop, List.take_all, Grind.common_steps}
use Rattle.rice_bits.{proofs.lemmas.bits.WordsAndNumbers.word-cat, proofs.lemmas.bits.EightBytes.word-mod, specs.Bits.Joins, specs.Bits.Puts, specs.Bits.bits_of, specs.Bits.word}

-- bits, and more bits
pub join-more : {a b both : List Bool} {k l m n p q : ℕ} {old mid new : List ℕ} → Joins a k n p old mid → Joins b l p q mid new → both ≡ a ++ b → m ≡ k + l → Joins both m n q old new
join-more {a} {b} {n} {old} f g e s = grind (arith, common_steps, append_assoc)

-- the lowest digits of a number
pub low_word : (w d l : ℕ) → l ≡ d % 2 ^ w → word w l ≡ word w d
low_word w d l e = ap (word w) e ∙ word-mod w w d (omega arith)

-- two numbers in one word are two words
pub pair_word : (w c d : ℕ) {h l all : ℕ} → h ≡ c % 2 ^ w → l ≡ d % 2 ^ w → l < 2 ^ w → all ≡ h * 2 ^ w + l → word (2 * w) all ≡ word w c ++ word w d
pair_word w c d {h} {l} {all} f g q e =
    let size : 2 * w ≡ w + w = omega arith in
    ap (λ n. word n all) size ∙ (ap (word (w + w)) e ∙ (word-cat w w h l q ∙ (λ i. low_word w c h f i ++ low_word w d l g i)))

-- a slice up to the end
pub up_to_end : (first : ℕ) (xs : List ℕ) → take (length xs - first) (drop first xs) ≡ drop first xs
up_to_end first xs = take_all (length xs - first) (drop first xs) (omega (arith, length-drop first xs))

-- bits that are joined are put
pub joined-puts : {count n all before after : ℕ} {more bits : List Bool} {old new : List ℕ} → take n (bits_of old) ≡ bits → Joins more count n all old new
    → length more ≡ count → after ≡ before + count → Puts more count count bits (take all (bits_of new)) before after
joined-puts {all} {more} {bits} {new} view h size steps = grind (arith, common_steps, length-append)
