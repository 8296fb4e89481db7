-- What samples add to the code of whole segments is bounded, and so is what is sent at once.
use Rattle.std.proofs.Common.{◌≡◌, ℕ, suc, ◌+◌, ◌≤◌, Bool, true, false, not, ◌&&◌, List, [], ◌∷◌, length, length-append, ap, arith, sym, ◌∙◌, inl, inr, subst, Option, pos}
use Rattle.rice_code.proofs.Words.{AllByRecursion, nat_tests, All-from_recursion, recursion_from_All, Parameters, IsLegal, IsSample, begins_segment, last_of, cut_is_start, zero_is_sample, set_bound}
use Rattle.rice_code.proofs.Words.{AddedCodeIsBounded, SetsAreBounded, BlockData, is_zero_block, data_sets, CodedDataSet, bits_of_set, run_number, IsReference, zero_run, run_len, AreSoundBlocks}
use Rattle.rice_code.proofs.lemmas.meaning.CoveredBlocks.{bool_cases, skipped, data_sets_plain, data_sets_start, data_sets_inside, zero_run_is, run_cons}
use Rattle.rice_code.proofs.lemmas.{code.SoundBlocks.blocks_sound_after, code.SoundBlocks.code_is_bounded, code.SoundBlocks.last_legal, cost.PaddingBounds.padding_after_is_bounded}
use Rattle.rice_code.proofs.lemmas.{meaning.SentSetsAreTaken.zero_run_is_sound, cost.CostIsLength.cost_is_length, cost.BlockBounds.shortest_bound, code.CodeGoesOn.code_goes_on}
use Rattle.rice_code.proofs.Words.{common_steps}

-- After whole segments other samples add at most so many bits, all padding included.
pub added_code_is_bounded : AddedCodeIsBounded
added_code_is_bounded s legal xs ys h k whole =
    let start = cut_is_start s legal (length xs) in
    let b = start.0 in
    let here : 0 + b ≡ b = omega arith in
    let zero = zero_is_sample s legal.bits_from in
    let goes = code_goes_on legal 0 0 b (pos 0) xs ys (record {
      before = zero;
      samples = h;
      len = sym whole ∙ start.1;
      segment = ap (λ i. begins_segment s i) here ∙ start.2;
    }) in
    let p = last_of (pos 0) xs in
    let sample = last_legal s (pos 0) xs zero (recursion_from_All (IsSample s) xs h) in
    grind (arith, common_steps, length-append, padding_after_is_bounded, code_is_bounded)

-- the number of a run's codeword is at most that of its blocks
few_zeros : (z : ℕ) → run_number z ≤ z
few_zeros z = grind (arith, nat_tests)

run_fits : (s : Parameters) (b w : ℕ) (r : Option ℕ) (cs : List BlockData) → IsLegal s → IsReference s b r → run_len s b cs ≡ suc w → length (bits_of_set s (zero_run s b r cs)) ≤ set_bound s
run_fits s b w r cs legal h e =
    let d = zero_run s b r cs in
    let sound = zero_run_is_sound s b w r cs legal.interval_from h e in
    let len = cost_is_length s b d (omega (arith, legal.block)) sound.0 in
    grind (arith, common_steps, zero_run_is, few_zeros)

sets_fit : (s : Parameters) (b : ℕ) (after : Bool) (cs : List BlockData) → IsLegal s → AreSoundBlocks s b cs → AllByRecursion (λ d. length (bits_of_set s d) ≤ set_bound s) (data_sets s b after cs)
sets_fit s b after [] legal k = tt
sets_fit s b after (c ∷ cs) legal k =
    let P : List CodedDataSet → Type 0 = AllByRecursion (λ d. length (bits_of_set s d) ≤ set_bound s) in
    elim (bool_cases (is_zero_block c)) [
      | inr z ↦
          let one = shortest_bound s b c (omega (arith, legal.block)) k.0 in
          subst P (sym (data_sets_plain s b after c cs z)) (omega (arith, one), sets_fit s (b + 1) false cs legal k.1)
      | inl z ↦
          let rest = sets_fit s (b + 1) true cs legal k.1 in
          elim (bool_cases (after && not (begins_segment s b))) [
            | inl go ↦ subst P (sym (data_sets_inside s b after c cs z go)) rest
            | inr stop ↦
                let one = run_fits s b (skipped s (b + 1) true cs) c.reference (c ∷ cs) legal k.0.block.reference (run_cons s b c cs legal.interval_from z) in
                subst P (sym (data_sets_start s b after c cs z stop)) (one, rest)
          ]
    ]

-- Each coded data set of the coder's is at most as long as a block without compression, or as a run of 63 blocks with a reference.
pub sets_are_bounded : SetsAreBounded
sets_are_bounded s legal xs k = grind (arith, common_steps, blocks_sound_after, zero_is_sample, recursion_from_All, All-from_recursion, sets_fit)
