-- Of a block only its place in its interval matters.
use Rattle.std.proofs.Common.{◌≡◌, ℕ, zero, suc, ◌+◌, ◌-◌, ◌*◌, ◌/◌, ◌%◌, ◌≤◌, ◌==◌, min, Bool, false, cond, ◌&&◌, nat_le, List, [], ◌∷◌, ◌++◌, length, take, drop, replicate, refl, ap, arith, sym}
use Rattle.std.proofs.Common.{◌∙◌, Option, ℤ}
use Rattle.rice_code.proofs.Words.{suc-mod, mul-add-div, mul-add-mod_self_left, bits_to_byte, Parameters, IsLegal, place, is_reference, is_reference_sample, blocks_left, rank, pattern, residuals}
use Rattle.rice_code.proofs.Words.{last_of, cases_lt, BlockData, block_data, blocks_from, is_zero_block, CodedDataSet, NoCompression, SecondExtension, Split, ZeroBlocks, RemainderOfSegment}
use Rattle.rice_code.proofs.Words.{bits_of_set, blocks_in, zero_blocks, block_after, layout, data_sets, code_from, zero_run, common_steps}
use Rattle.rice_code.proofs.lemmas.code.Layouts.{sent_first}

-- two blocks at the same place of their intervals: the next ones are at the same place, too,
pub place_step : (s : Parameters) (b c : ℕ) → place s b ≡ place s c → place s (b + 1) ≡ place s (c + 1)
place_step s b c e =
    let r = s.interval in
    let f : b + 1 ≡ suc b = omega arith in
    let g : suc c ≡ c + 1 = omega arith in
    ap (λ n. n % r) f ∙ (suc-mod b r ∙ (ap (λ n. suc n % r) e ∙ (sym (suc-mod c r) ∙ ap (λ n. n % r) g)))

-- and so are those that are n blocks on
pub place_on : (s : Parameters) (b c n : ℕ) → place s b ≡ place s c → place s (b + n) ≡ place s (c + n)
place_on s b c zero e = let f : b + 0 ≡ b = omega arith in let g : c ≡ c + 0 = omega arith in ap (λ n. place s n) f ∙ (e ∙ ap (λ n. place s n) g)
place_on s b c (suc n) e =
    let f : b + suc n ≡ b + 1 + n = omega arith in
    let g : c + 1 + n ≡ c + suc n = omega arith in
    ap (λ n. place s n) f ∙ (place_on s (b + 1) (c + 1) n (place_step s b c e) ∙ ap (λ n. place s n) g)

-- of two such blocks both have a reference sample, or neither has
pub same_reference : (s : Parameters) (b c : ℕ) → place s b ≡ place s c → is_reference s b ≡ is_reference s c
same_reference s b c e = ap (λ v. s.preprocess && v == 0) e

-- as many blocks are left of the segments of both
pub same_left : (s : Parameters) (b c : ℕ) → place s b ≡ place s c → blocks_left s b ≡ blocks_left s c
same_left s b c e = ap (λ v. 64 * (v / 64) + min 64 (s.interval - 64 * (v / 64)) - v) e

same_reference_at : (s : Parameters) (b c t : ℕ) → 1 ≤ s.block → place s b ≡ place s c → is_reference_sample s (s.block * b + t) ≡ is_reference_sample s (s.block * c + t)
same_reference_at s b c t h e = grind (arith, common_steps, mul-add-div, mul-add-mod_self_left, same_reference, place_on)

same_residuals : (s : Parameters) (b c t : ℕ) (p : ℤ) (xs : List ℤ) → 1 ≤ s.block → place s b ≡ place s c → residuals s (s.block * b + t) p xs ≡ residuals s (s.block * c + t) p xs
same_residuals s b c t p [] h e = refl
same_residuals s b c t p (x ∷ xs) h e =
    let first = ap (λ v. cond s.preprocess (cond v 0 (rank s p x)) (pattern s x)) (same_reference_at s b c t h e) in
    let f : s.block * b + t + 1 ≡ s.block * b + (t + 1) = omega arith in
    let g : s.block * c + (t + 1) ≡ s.block * c + t + 1 = omega arith in
    let rest = ap (λ n. residuals s n x xs) f ∙ (same_residuals s b c (t + 1) x xs h e ∙ ap (λ n. residuals s n x xs) g) in
    λ i. first i ∷ rest i

-- the same samples make the same block at both,
pub same_contents : (s : Parameters) (b c : ℕ) (p : ℤ) (xs : List ℤ) → 1 ≤ s.block → place s b ≡ place s c → block_data s b p xs ≡ block_data s c p xs
same_contents s b c p xs h e =
    let f : s.block * b ≡ s.block * b + 0 = omega arith in
    let g : s.block * c + 0 ≡ s.block * c = omega arith in
    grind (arith, common_steps, same_residuals, same_reference)

-- and the same blocks from both on
pub same_blocks : (s : Parameters) (b c : ℕ) (p : ℤ) (n : ℕ) (xs : List ℤ) → 1 ≤ s.block → place s b ≡ place s c → blocks_from s b p n xs ≡ blocks_from s c p n xs
same_blocks s b c p zero xs h e = refl
same_blocks s b c p (suc n) xs h e = grind (arith, common_steps, same_contents, place_step, same_blocks s (b + 1) (c + 1) (last_of p (take s.block xs)) n (drop s.block xs) h (place_step s b c e))

same_run : (s : Parameters) (b c : ℕ) (r : Option ℕ) (cs : List BlockData) → place s b ≡ place s c → zero_run s b r cs ≡ zero_run s c r cs
same_run s b c r cs e = grind (arith, common_steps, nat_le, same_left)

-- and the same blocks are sent by the same coded data sets from both on
pub same_data_sets : (s : Parameters) (b c : ℕ) (after : Bool) (cs : List BlockData) → place s b ≡ place s c → data_sets s b after cs ≡ data_sets s c after cs
same_data_sets s b c after [] e = refl
same_data_sets s b c after (d ∷ ds) e = grind (arith, common_steps, same_run, place_step, same_data_sets s (b + 1) (c + 1) (is_zero_block d) ds (place_step s b c e))

-- a coded data set stands for the same blocks at both
pub same_blocks_in : (s : Parameters) (b c : ℕ) (d : CodedDataSet) → place s b ≡ place s c → blocks_in s b d ≡ blocks_in s c d
same_blocks_in s b c (NoCompression v) e = refl
same_blocks_in s b c (SecondExtension v) e = refl
same_blocks_in s b c (Split k v) e = refl
same_blocks_in s b c (ZeroBlocks r z) e = refl
same_blocks_in s b c (RemainderOfSegment r) e = ap (λ z. zero_blocks s r z) (same_left s b c e)

-- two stretches of blocks that begin and end at the same places of their intervals
record SamePlaces (s : Parameters) (end stop b c : ℕ) : Type 0 where
  begins : place s b ≡ place s c
  ends : place s end ≡ place s stop
  apart : end + c ≡ stop + b

same_laid : (s : Parameters) (end stop b c m : ℕ) (ds : List CodedDataSet) → SamePlaces s end stop b c → layout s end b m ds ≡ layout s stop c m ds
same_laid s end stop b c m [] same = refl
same_laid s end stop b c m (d ∷ ds) same =
    let n = ap length (same_blocks_in s b c d same.begins) in
    let next : place s (block_after s b d) ≡ place s (block_after s c d) = place_on s b c (length (blocks_in s b d)) same.begins ∙ ap (λ k. place s (c + k)) n in
    let at : place s (min end (block_after s b d)) ≡ place s (min stop (block_after s c d)) = grind (arith, common_steps, cases_lt) in
    let first : sent_first s end b m d ≡ sent_first s stop c m d = ap (λ v. bits_of_set s d ++ replicate (cond (s.pad && v == 0) (bits_to_byte (m + length (bits_of_set s d))) 0) false) at in
    let k = length (sent_first s end b m d) in
    let rest = same_laid s end stop (block_after s b d) (block_after s c d) (m + k) ds (record { begins = next; ends = same.ends; apart = omega arith }) in
    (λ i. sent_first s end b m d ++ rest i) ∙ (λ i. first i ++ layout s stop (block_after s c d) (m + length (first i)) ds)

-- So code depends on the block where it begins by the place in its interval alone.
pub code_stands_in_intervals : (s : Parameters) → IsLegal s → (b c position : ℕ) (p : ℤ) (xs : List ℤ) → place s b ≡ place s c → code_from s b position p xs ≡ code_from s c position p xs
code_stands_in_intervals s legal b c position p xs e = grind (arith, common_steps, same_blocks, same_data_sets, same_laid, place_on)
