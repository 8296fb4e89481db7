-- The cost is the length of the text.
use Rattle.std.proofs.lemmas.Grind.{common_steps}
use Rattle.std.proofs.Common.{◌≡◌, ℕ, ◌+◌, ◌-◌, ◌*◌, ◌/◌, ◌^◌, ◌≤◌, Bool, true, false, List, [], ◌∷◌, ◌++◌, length, refl, arith, sym, ◌∙◌, Option, Some, None, length-append}
use Rattle.rice_code.proofs.Words.{flat_map, sum_by, sum_by-cons, length-word, length-fundamental_sequence, Parameters, id_len, pair_codes, word, fundamental_sequence, CodedDataSet, NoCompression}
use Rattle.rice_code.proofs.Words.{SecondExtension, Split, ZeroBlocks, RemainderOfSegment, bits_of_set, cost, sent_residuals, sent_from, reference_bits, reference_len, run_number, IsForm}

-- the length of pieces, each as long as f says
pub length_pieces : {X : Type 0} (piece : X → List Bool) (f : X → ℕ) → ((x : X) → length (piece x) ≡ f x) → (xs : List X) → length (flat_map piece xs) ≡ sum_by f xs
length_pieces piece f each [] = refl
length_pieces piece f each (x ∷ xs) = length-append (piece x) (flat_map piece xs) ∙ ((λ i. each x i + length_pieces piece f each xs i) ∙ sym (sum_by-cons f x xs))

-- words have as many bits each as the width
pub length_words : (w : ℕ) (xs : List ℕ) → length (flat_map (word w) xs) ≡ length xs * w
length_words w [] = omega arith
length_words w (x ∷ xs) = let e = length-append (word w x) (flat_map (word w) xs) in let f = length-word w x in let g = length_words w xs in omega arith

-- the fundamental sequences of high parts have a one for each, and as many zeros as the sum of the high parts
pub length_sequences : (k : ℕ) (xs : List ℕ) → length (flat_map (λ d. fundamental_sequence (d / 2 ^ k)) xs) ≡ length xs + sum_by (λ d. d / 2 ^ k) xs
length_sequences k [] = omega arith
length_sequences k (x ∷ xs) = grind (arith, common_steps, length-append, length-fundamental_sequence, sum_by-cons, length_sequences k xs)

-- a reference has as many bits as it costs
pub length_reference : (s : Parameters) (r : Option ℕ) → length (reference_bits s r) ≡ reference_len s r
length_reference s None = refl
length_reference s (Some v) = length-word s.bits v

-- the residuals and the reference are J words
pub coded_and_reference : (s : Parameters) (r : Option ℕ) (ds : List ℕ) → 1 ≤ length ds → reference_len s r + length (sent_from r ds) * s.bits ≡ length ds * s.bits
coded_and_reference s None ds h = omega arith
coded_and_reference s (Some v) [] h = absurd (omega arith)
coded_and_reference s (Some v) (d ∷ ds) h = omega arith

low_entropy : (s : Parameters) (flag : Bool) (r : Option ℕ) (body : List Bool) → length (word (id_len s) 0 ++ flag ∷ (reference_bits s r ++ body)) ≡ id_len s + 1 + reference_len s r + length body
low_entropy s flag r body = grind (arith, common_steps, length-append, length-word, length_reference)

-- the texts of runs are as long as they cost
pub numbered_run_len : (s : Parameters) (r : Option ℕ) (z : ℕ) → length (bits_of_set s (ZeroBlocks r z)) ≡ cost s (ZeroBlocks r z)
numbered_run_len s r z = low_entropy s false r (fundamental_sequence (run_number z)) ∙ (let p = length-fundamental_sequence (run_number z) in omega arith)

-- and so is that of the remainder of a segment
pub remainder_len : (s : Parameters) (r : Option ℕ) → length (bits_of_set s (RemainderOfSegment r)) ≡ cost s (RemainderOfSegment r)
remainder_len s r = low_entropy s false r (fundamental_sequence 4)

-- The text of each form is as long as it costs.
pub cost_is_length : (s : Parameters) (b : ℕ) (d : CodedDataSet) → 1 ≤ s.block → IsForm s b d → length (bits_of_set s d) ≡ cost s d
cost_is_length s b (NoCompression c) j h = grind (arith, common_steps, length-append, length-word, length_reference, length_words, coded_and_reference)
cost_is_length s b (SecondExtension c) j h = grind (arith, common_steps, low_entropy, length_pieces, length-fundamental_sequence)
cost_is_length s b (Split k c) j h = grind (arith, common_steps, length-append, length-word, length_reference, length_sequences, length_words)
cost_is_length s b (ZeroBlocks r z) j h = numbered_run_len s r z
cost_is_length s b (RemainderOfSegment r) j h = remainder_len s r
