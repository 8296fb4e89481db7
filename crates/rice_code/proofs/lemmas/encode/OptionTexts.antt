-- The texts of blocks, piece by piece. `split_is_joined` says what joins the parts of a split block.
use Rattle.std.proofs.Common.{◌≡◌, ℕ, zero, suc, ◌+◌, ◌-◌, ◌*◌, ◌/◌, ◌^◌, ◌<◌, Bool, true, false, nat_le, List, [], ◌∷◌, ◌++◌, length, drop, get_or, refl, ap, arith, sym, ◌∙◌, append_assoc, Option}
use Rattle.rice_code.proofs.Words.{flat_map, sum_by, length-drop, Parameters, id_len, pair_code, pair_codes, word-fs, word-zero, word-cat, word-nil, BlockData, bits_of_set, cost, common_steps}
use Rattle.rice_code.proofs.Words.{reference_bits, reference_len, sent_residuals, Split, run_of_blocks, zeros_of_run, word, fundamental_sequence}
use Rattle.rice_code.proofs.lemmas.cost.CostIsLength.{numbered_run_len, remainder_len}

-- What joins a split block: identifier and reference sample, the fundamental sequences of the high parts, and then the words of the low
-- parts, put into a sink one after the other, are the text of its coded data set.
pub split_is_joined : (s : Parameters) (k : ℕ) (block : BlockData) (sink : List Bool) → sink ++ word (id_len s) (k + 1) ++ reference_bits s block.reference
    ++ flat_map (λ d. fundamental_sequence (d / 2 ^ k)) (sent_residuals block) ++ flat_map (word k) (sent_residuals block)
    ≡ sink ++ bits_of_set s (Split k block)
split_is_joined s k block sink = grind (arith, common_steps, append_assoc)

-- zeros and a one
pub word_flag : (n : ℕ) → word (n + 1) 1 ≡ word n 0 ++ true ∷ []
word_flag n = word-fs n ∙ ap (λ z. z ++ true ∷ []) (sym (word-zero n))

-- and one zero more
pub word_flag_zero : (n : ℕ) → word (n + 1) 0 ≡ word n 0 ++ false ∷ []
word_flag_zero n = word-cat n 1 0 0 (omega arith) ∙ ap (λ z. word n 0 ++ z) (word-zero 1)

-- no digits
pub no_digits : (xs : List ℕ) → flat_map (word 0) xs ≡ []
no_digits [] = refl
no_digits (x ∷ xs) = rw word-nil (no_digits xs)

-- an identifier with a flag, a reference and a body, put into a sink one after the other, or joined first
pub append_flagged : (sink head ref body : List Bool) (b : Bool) → sink ++ (head ++ b ∷ []) ++ ref ++ body ≡ sink ++ (head ++ b ∷ (ref ++ body))
append_flagged sink head ref body b =
    append_assoc (sink ++ (head ++ b ∷ [])) ref body ∙ (append_assoc sink (head ++ b ∷ []) (ref ++ body) ∙ ap (λ z. sink ++ z) (append_assoc head (b ∷ []) (ref ++ body)))

-- The residuals rs that are sent from number `from` on, in numbers: how many, their digits, and the parts above these.
pub record SentResiduals (sent rs : List ℕ) (from w k : ℕ) : Type 0 where
  pub count : length sent ≡ length rs - from
  pub digits : length sent * w ≡ (length rs - from) * w
  pub parts : sum_by (λ d. d / 2 ^ k) sent ≡ sum_by (λ d. d / 2 ^ k) (drop from rs)
  pub bits : (f : ℕ → List Bool) → flat_map f (drop from rs) ≡ flat_map f sent

-- what is sent of residuals, in numbers, where it is all from number `from` on
pub sent_are : (sent ds rs : List ℕ) (from w k : ℕ) → sent ≡ drop from ds → rs ≡ ds → SentResiduals sent rs from w k
sent_are sent ds rs from w k coded same = grind (arith, common_steps, length-drop)

-- the text of a run, and its length
pub run_text : (s : Parameters) (to_end : Bool) (r : Option ℕ) (z : ℕ)
    → bits_of_set s (run_of_blocks to_end r z) ≡ word (id_len s) 0 ++ false ∷ (reference_bits s r ++ fundamental_sequence (zeros_of_run to_end z))
run_text s to_end r z = grind (arith, common_steps, nat_le)

-- the cost of a run: its identifier, the flag, its reference, and its zeros with a one
pub run_cost : (s : Parameters) (to_end : Bool) (r : Option ℕ) (z : ℕ) → cost s (run_of_blocks to_end r z) ≡ id_len s + 1 + reference_len s r + zeros_of_run to_end z + 1
run_cost s to_end r z = grind (arith, common_steps, nat_le)

-- and the text of a run is as long as its cost
pub run_text_len : (s : Parameters) (to_end : Bool) (r : Option ℕ) (z : ℕ) → length (bits_of_set s (run_of_blocks to_end r z)) ≡ cost s (run_of_blocks to_end r z)
run_text_len s to_end r z = grind (arith, common_steps, nat_le, remainder_len, numbered_run_len)

-- the codewords of the pairs from number i on
pub pairs_left : (i : ℕ) (xs : List ℕ) → 2 * i + 1 < length xs →
    pair_codes (drop (2 * i) xs) ≡ pair_code (get_or xs (2 * i) 0) (get_or xs (2 * i + 1) 0) ∷ pair_codes (drop (2 * (i + 1)) xs)
pairs_left zero (a ∷ b ∷ xs) h = refl
pairs_left (suc i) (a ∷ b ∷ xs) h =
    let ih = pairs_left i xs (omega arith) in
    let e : 2 * (suc i + 1) ≡ suc (suc (2 * (i + 1))) = omega arith in
    let k : 2 * suc i ≡ suc (suc (2 * i)) = omega arith in
    grind (arith, common_steps, get_or)
pairs_left i _ h = absurd (omega arith)
