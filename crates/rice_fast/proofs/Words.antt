-- The words and lemmas of std, of the crates below and of the specs of this crate that proofs cite.
pub use Rattle.rice_bits.proofs.lemmas.bits.FrontsOfWords.{front_below, take-front, word-moved, word-parts}
pub use Rattle.rice_bits.proofs.lemmas.bits.WordsAndNumbers.{join_below, length-fundamental_sequence, length-word, number_of-lt, number_of-word, word-cat, word-fs, word-nil, word-number_of}
pub use Rattle.rice_bits.proofs.lemmas.bits.WordsAndNumbers.{word-split}
pub use Rattle.rice_bits.proofs.lemmas.read.WindowLemmas.{drop-bits_of, drop-seam, first-ahead, front-ahead, length-words, take-bits_of}
pub use Rattle.rice_bits.proofs.lemmas.{bits.EightBytes.bits_of-eight, bits.EightBytes.bits_of-high_first, bits.EightBytes.pow_bytes, bits.EightBytes.word-mod, bits.JoinedBits.low_word}
pub use Rattle.rice_bits.specs.{Bits.bits_to_byte, Bits.fundamental_sequence, Window.AreBitsFrom, Bits.joined_parts, Reader.Reader, Reader.Takes}
pub use Rattle.rice_code.proofs.lemmas.encode.ChoiceLemmas.{all_sent, best_split_is, few_bits, small_sum, takes_no_compression, takes_second_extension, takes_split}
pub use Rattle.rice_code.proofs.lemmas.encode.OpenSegments.{codes_held, next_is_open, next_of_whole, segment_room}
pub use Rattle.rice_code.proofs.lemmas.encode.OptionTexts.{append_flagged, pairs_left, sent_are, split_is_joined, word_flag}
pub use Rattle.rice_code.proofs.lemmas.encode.PendingRuns.{held_len, run_ends, run_then_block, zero_block_joins_run, zeros_are_zero}
pub use Rattle.rice_code.proofs.lemmas.encode.PushedCode.{filled_sound, finish_adds, none_taken, open_between, short_of, steps_of_segment}
pub use Rattle.rice_code.proofs.lemmas.encode.PushedSamples.{HoldsMore, is_coder_after, open_pushes, several_stay_open, whole_is_sound, whole_pushes}
pub use Rattle.rice_code.proofs.lemmas.encode.SegmentBlocksInTurn.{left_inside, looks_other, looks_zero, most_of_all, shortest_len, sound_of, steps_least}
pub use Rattle.rice_code.proofs.lemmas.encode.SeveralSamplesHeld.{later_patterns, later_ranks, length-later, length-state_after_all, state_after_all-cons, state_after_all-first, state_after_all-none}
pub use Rattle.rice_code.proofs.lemmas.encode.SeveralSamplesHeld.{state_after_all-snoc, state_with_later}
pub use Rattle.rice_code.proofs.lemmas.meaning.CoveredBlocks.{and-split, bool_cases, zero_block_is}
pub use Rattle.rice_code.proofs.lemmas.{code.RepeatedSamples.last_replicate, code.RepeatedSamples.same_rank, code.SoundBlocks.all_append, code.SoundBlocks.all_take}
pub use Rattle.rice_code.proofs.lemmas.{cost.BlockBounds.blocks_are_bounded, cost.CostIsLength.coded_and_reference, cost.CostIsLength.length_words, cost.PairsAreLonger.pairs_are_longer}
pub use Rattle.rice_code.proofs.lemmas.{cost.SplitSavings.coded_sum, cost.SplitSavings.sum_stop_is_best, decode.DecoderLemmas.answers_block, decode.DecoderLemmas.samples_by_bits}
pub use Rattle.rice_code.proofs.lemmas.{decode.JoinedResiduals.high_pieces, decode.JoinedResiduals.low_pieces, decode.OptionsRead.coded-placed, decode.OptionsRead.zero-placed}
pub use Rattle.rice_code.proofs.lemmas.{decode.RestoredBlocks.contents_of_patterns, decode.RestoredBlocks.contents_restored, decode.RowsOfFields.pair_codes-push, decode.RowsOfFields.sum-push2}
pub use Rattle.rice_code.proofs.lemmas.{decode.RowsOfFields.two_more, decode.SetsRead.one_bit, encode.ChosenSets.puts_chosen, encode.ChosenSets.where_set, encode.ChosenSets.where_unset}
pub use Rattle.rice_code.specs.code.Blocks.{BlockData, block_data, fill_count, is_zero_block}
pub use Rattle.rice_code.specs.code.CodedDataSets.{CodedDataSet, NoCompression, RemainderOfSegment, SecondExtension, Split, ZeroBlocks, bits_of_set, bits_of_sets, cost, no_compression_tail}
pub use Rattle.rice_code.specs.code.CodedDataSets.{reference_bits, reference_len, run_number, run_tail, second_extension_tail, sent_from, sent_residuals, split_tail}
pub use Rattle.rice_code.specs.encode.BitBuffer.{AddsBits, AddsFields, HasRoomFor, HasRoomForBits, IsShort, PutsSet}
pub use Rattle.rice_code.specs.encode.HeldBlocks.{EndsRun, JoinsRun, PutsBlocks, PutsShortest, code_of_blocks, held_blocks, pending_bits, pending_run, pending_zeros, reference_at}
pub use Rattle.rice_code.specs.encode.OpenSegment.{CoderState, CodesHeld, HoldsSoundBlocks, IsOpen, IsWhole, bits_held, blocks_held, contents_held, is_empty, is_first, later_residuals}
pub use Rattle.rice_code.specs.encode.OpenSegment.{next_reference, next_residual, next_start, state_after, state_after_all, state_after_segment, state_between, state_with_fill}
pub use Rattle.rice_code.specs.{Bounds.block_bound, CoderSteps.coding_steps, CoderSteps.least_looks, CoderSteps.most_looks, CoderSteps.segment_steps, code.Choice.IsBestSplit, code.Choice.best_split}
pub use Rattle.rice_code.specs.{code.Choice.shortest, code.Code.complete_samples, code.Code.data_sets, code.Forms.AllFit, code.Forms.IsBlock, code.Forms.IsReference, code.Forms.IsZeroAtReference}
pub use Rattle.rice_code.specs.code.{Layout.padding, Code.zero_run, SoundBlocks.AreSoundBlocks, SoundBlocks.IsSoundBlock, SoundBlocks.IsSoundData, SoundBlocks.block_with}
pub use Rattle.rice_code.specs.{declared.encode.choice.Choice.Choice, Decoder.GivesBlock, Decoder.Skips, Decoder.TakesSet, Decoder.with_mark}
pub use Rattle.rice_code.specs.{Decoder.DecoderState, Decoder.place_after, ReadSets.reference_place, encode.Coder.AddsCode, encode.Coder.CompletesNone}
pub use Rattle.rice_code.specs.{encode.Coder.HasTaken, encode.Coder.IsCoder, encode.Coder.PushesSamples, encode.BitBuffer.AddsSequences, encode.BitBuffer.pairs_len, encode.SetOfChoice.chosen_set}
pub use Rattle.rice_fast.specs.BlocksAhead.{IsCopied, WordsAhead, copied_bits}
pub use Rattle.rice_fast.specs.FieldsAhead.{AreFields, HeadAhead, HighsAhead, LowsAhead, PairsAhead}
pub use Rattle.rice_fast.specs.OpenBlocks.{GoesOn, HasRoomForBlock, HoldsOpen, IsAhead, IsBefore, PushesOpen, StandsAfter, StandsFor, StandsWith, coder_between, coder_with, is_at_first}
pub use Rattle.rice_fast.specs.OpenBlocks.{to_follow, whole_part, with_block}
pub use Rattle.rice_fast.specs.OpenBlocks.{HasResidualsOf, HasRoomAt, Standing, TakesSpelled}
pub use Rattle.rice_fast.specs.{BlocksAhead.BlockAhead, BlocksAhead.GivesBytes, BlocksAhead.HasBits, BlocksAhead.SpelledAhead, LevelsOfParts.AreLevelsOfParts, LevelsOfParts.HaveParts}
pub use Rattle.rice_fast.specs.{LevelsOfParts.residuals_at, FieldsAhead.RowsAhead, FieldsAhead.SpellsParts, LevelsOfParts.running_sums, ahead.in_lanes, ahead.places_after}
pub use Rattle.rice_fast.specs.{ahead.row_of_place, ahead.ends_after, ahead.gaps, ahead.BeginWithSequences, declared.ahead.ends.TheConstants.SLIDE}
pub use Rattle.rice_fast.specs.{declared.ahead.sequences.Sequences.Sequences, declared.ahead.tables_of_ends.TheConstants.ROWS, declared.ahead.words.TheConstants.FACTORS}
pub use Rattle.rice_fast.specs.{declared.ahead.words.TheConstants.PLACES, declared.encode.coder.BlockCoder.BlockCoder, declared.encode.sequences_by_products.TheConstants.WEIGHTS}
pub use Rattle.rice_fast.specs.{declared.fields.Fields.Fields, declared.pairs.TheConstants.FIRSTS, declared.pairs.TheConstants.SECONDS, Parts.with_zeros, Parts.joined_in_pairs}
pub use Rattle.rice_fast.specs.Parts.{low_digits_of_each, HasDigits, joined_values, joined_weights, IsFirstStop}
pub use Rattle.rice_samples.proofs.lemmas.blocks.EightsInLanes.{lanes_added, lanes_below_digits, no_digits, sum_added, sum_map, sums_below, total_below, whole_sum}
pub use Rattle.rice_samples.proofs.lemmas.bytes.SpellingLemmas.{level_from_pattern, level_spelled, mod_once, wider_value}
pub use Rattle.rice_samples.proofs.lemmas.bytes.SpellingLengths.{length-spelling, length-spellings, some_width, spellings-append}
pub use Rattle.rice_samples.proofs.lemmas.setting.LevelsOfSamples.{half_pow, pattern_fits, same_level, zero_is_sample}
pub use Rattle.rice_samples.proofs.lemmas.setting.ValuesAtLevels.{last_at, last_value, legal_values, length-values, level_of_value, ranks_of_values, value_at_last, value_of_level}
pub use Rattle.rice_samples.proofs.lemmas.{blocks.CodesOfPairsInTurn.pairs_more, blocks.FallingSums.cut_sum, blocks.FallingSums.sum_halves, bytes.BytesOfWords.bytes_are_digits}
pub use Rattle.rice_samples.proofs.lemmas.{bytes.BytesOfWords.in_order-twice, bytes.LevelPatterns.level_of_pattern, bytes.LevelPatterns.word_in_lane, predict.DistinctPatternsAndResiduals.same_pattern}
pub use Rattle.rice_samples.proofs.lemmas.{predict.InverseRanksAndPatterns.has_pattern, predict.Ranks.rank_fits, predict.Ways.way_lane, setting.BitsOfLanes.byte_id, setting.BitsOfLanes.half_id}
pub use Rattle.rice_samples.proofs.lemmas.{setting.BitsOfLanes.word_id, setting.PlaceLemmas.some_left, setting.ValuesAboveLeast.gap_above, setting.ValuesAboveLeast.sample_at}
pub use Rattle.rice_samples.specs.Parameters.{IsBlockSize, IsLegal, IsSample, Parameters, id_len, k_max, least, level, value_at, value_count, values_at, width}
pub use Rattle.rice_samples.specs.Spelling.{IsNoSpelling, Reads, ordered_bytes, spelling, spellings}
pub use Rattle.rice_samples.specs.NearNumbers.{bound, near_numbers, reach, way}
pub use Rattle.rice_samples.specs.Residuals.{last_number, last_of, pattern, rank, rank_below, ranks_below, twos_complement}
pub use Rattle.rice_samples.specs.{Places.begins_segment, Places.blocks_left, Places.is_reference, Places.place, Pairs.pair_code, Pairs.pair_codes, PatternLanes.OrdersWords}
pub use Rattle.rice_samples.specs.{PatternLanes.in_order, PatternLanes.words_in_order, Parameters.IsValue, Parameters.offset}
pub use Rattle.std.proofs.Common.{Bool, Fits, FitsSigned, List, None, Option, SFits, Some, [], ap, append-nil, append_assoc, arith, cond, drop, eq-eqb, false, get_or, if◌then◌else◌, inl, inr, length}
pub use Rattle.std.proofs.Common.{length-append, length-set, map, map-id, max, min, nat_eq, nat_lt, neg_ℤ, negsuc, not, pos, refl, replicate, reverse, rules, set, subst, suc, sum, sum_by, sym, take}
pub use Rattle.std.proofs.Common.{take-take, true, w16, w32, w64, w8, zero, ℕ, ℤ, ◌%◌, ◌&&◌, ◌*◌, ◌++◌, ◌+ℤ◌, ◌+◌, ◌-◌, ◌/◌, ◌<◌, ◌==◌, ◌^◌, ◌||◌, ◌∙◌, ◌∷◌, ◌≡◌, ◌≢◌, ◌≤◌, ◌⊎◌}
pub use Rattle.std.proofs.Math.Nat.{add-mod-mod, add-mod_right, add-mul, div-add-mod, div-div-eq-div-mul, div-le_self, div-lt_iff_lt-mul, div-mul-le_self, mod-add-div, mod-add-mod, mod-eq_of_lt}
pub use Rattle.std.proofs.Math.Nat.{mod-lt, mod-mod, mod_self, mul-add, mul-add-mod_self_left, mul-div_cancel_left, mul-le-mul_left, mul-le-mul_right, mul-mod_right, pow-le-pow_right, pow-suc}
pub use Rattle.std.proofs.Math.Nat.{zero-div}
pub use Rattle.std.proofs.Math.Pow.{mod-mod-pow, pow_mono}
pub use Rattle.std.proofs.Math.Seq.{drop-append_seam, take-add, take-append-add, take-append_seam, take-length, take-suc}
pub use Rattle.std.proofs.lemmas.List.{drop-append-le, drop-drop, drop-map, drop-replicate, drop-take, drop_at, ext_get_or, get_or-append_right, get_or-drop, get_or-map, get_or-replicate, get_or-take}
pub use Rattle.std.proofs.lemmas.List.{get_or_append_left, length-drop, length-map, length-replicate, length-reverse, length-take-le, map-append, map-set, replicate-append-replicate, take-append-drop}
pub use Rattle.std.proofs.lemmas.List.{take-append-le, take-replicate, take_all, take_at, take_more, take_more_set, take_rest}
pub use Rattle.std.proofs.lemmas.List.Elements.{All-append, All-cons, All-drop, All-from_get_or, All-from_recursion, All-head, All-nil, All-push, All-replicate, All-tail, All-take, All-weaker}
pub use Rattle.std.proofs.lemmas.List.Elements.{recursion_from_All}
pub use Rattle.std.proofs.lemmas.Simd.{Each1-chunk, Each1-from_get_or, Each1-get_or, Each1-replicate, Each1-weaker, SwzOk, SwzOk-from_Each1, SwzOk-from_below, adds_fit, chunk-fits, fold-sum}
pub use Rattle.std.proofs.lemmas.Simd.{get_or-swz_l_below, get_or-zip2, length-put_chunk, length-zip2, pick_l-range_with_len, pick_l_whole, sum_fits, swz_l, take_more_put_chunk, tops_compared}
pub use Rattle.std.proofs.lemmas.Simd.{zip2_splat}
pub use Rattle.std.proofs.lemmas.{Bool.cases_lt, Bool.Decides.nat_tests, Grind.common_steps, Grind.flat_map-append, Int.ints, Int.to_z-of_z, List.Concat.length-flat_map, List.Folds.flat_map-map}
pub use Rattle.std.proofs.lemmas.{List.Folds.sum_by-replicate, List.FromFn.get_or-map-range_with_len, List.FromFn.get_or-range_with_len, List.Sorted.All-permutation, List.Sorted.IsPermutation-reverse}
pub use Rattle.std.proofs.lemmas.{List.Sums.sum_by-append, List.Sums.sum_by-cons, List.Sums.sum_by-le-sum_by, Nat.and_le_l, Nat.and_le_r, Nat.and_mask, Nat.div-mul-add, Nat.le_or_l, Nat.le_or_r}
pub use Rattle.std.proofs.lemmas.{Nat.leading_length, Nat.mod-mul-add, Nat.mod_below, Nat.one_shl, Nat.or_lt, Nat.or_shifted, Nat.pow-add, Nat.pow_pos, Nat.shr_below, Nat.shr_split}
pub use Rattle.std.specs.Prelude.{All, IfSome, bit_and, bit_or, flat_map, nat_le, slice_index, slice_index_or, slice_range, slice_set}
pub use Rattle.std.specs.Simd.Lanes.{Each1, Each2, Steps, digits_l, fold_l, number_l, pick_l, put_chunk, sel_l, sum_l, top, zip2}
pub use Rattle.std.specs.{Int.Width, Int.bytes_high_first, Int.Bits.bit_xor, Int.Bits.xor_add_and, Int.Count.ones, List.AllByRecursion, List.list_all, List.range_with_len}
pub use lib.Bits.{or_zero_l, or_zero_r}
pub use lib.Count.{count_leading_zeros, ones-le, ones-ones, ones_cat}
pub use lib.Dec.{T, leb, ltb}
pub use lib.LanesLaws.{map-replicate}
pub use mir.Val.{bits, hbits, zeroes}
unfoldable pub use Rattle.rice_bits.specs.Bits.{bits_of, number_of, word}
pub use Rattle.std.proofs.lemmas.List.{length_push, nil_from_length, replicate_more, take-map, take_more_set}
pub use Rattle.std.proofs.lemmas.{Nat.mul-le, Nat.shr-shr, List.Sums.sum_by_push}
pub use Rattle.rice_code.proofs.lemmas.{cost.CostIsLength.length_sequences, encode.SegmentBlocksInTurn.other_same}
