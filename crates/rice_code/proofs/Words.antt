-- The words and lemmas of std, of the crates below and of the specs of this crate that proofs cite.
pub use Rattle.std.proofs.Math.Nat.{suc-mod, zero-div, div-add-mod, div-eq_of_lt, div-lt_iff_lt-mul, div-mul-le_self, le-div_iff_mul-le, le_of_mul-le-mul_left, lt_of_mul-lt-mul_left, min-eq_left}
pub use Rattle.std.proofs.Math.Nat.{mod-eq_of_lt, mod-lt, mod_self, mul-add-div, mul-add-mod_self_left, mul-div_cancel_left, mul-le-mul, mul-le-mul_left, mul-le-mul_right, mul-mod_right, mul_comm}
pub use Rattle.std.proofs.lemmas.List.{append-nil, drop-append-le, drop-drop, drop-replicate, drop-set-lt, drop_all, drop_at, drop_more, get_or-append-add, get_or-drop, get_or_append_left, map-id}
pub use Rattle.std.proofs.lemmas.List.{length-drop, length-map, length-replicate, length-set, length-take, length-take-le, replicate-append-replicate, take-append-drop, take-append-le, take-replicate}
pub use Rattle.std.proofs.lemmas.List.Elements.{All-append, All-cons, All-contains, All-from_recursion, All-head, All-nil, All-push, All-replicate, All-tail, All-take, Contains-append_left}
pub use Rattle.std.specs.Prelude.{All, Contains, Err, IfNone, IfSome, IsSomeAnd, None, Ok, OnSome, Option, Result, Some, cond, flat_map, if◌then◌else◌, is_some, nat_lt, slice_index, slice_index_or}
pub use Rattle.rice_bits.proofs.lemmas.bits.WordsAndNumbers.{word-zero, followed_by, high-followed_by, length-fundamental_sequence, length-word, word-cat, word-followed_by, word-fs, word-low}
pub use Rattle.rice_code.specs.Laws.{AddedCodeIsBounded, AreIntervals, BeginsInterval, CodesDiffer, DamageStaysInItsInterval, DecodingBeginsAfresh, IntervalsAreDecodedAlone, IntervalsAreJoined}
pub use Rattle.rice_code.specs.Laws.{IntervalsBeginAfresh, IsOutputOf, MakeBlocks, NoCodeIsShorter, NoOutputIsShorter, NoSetsAreShorter, OwnBytesAreRecognised, PaddedIntervalsAreJoined}
pub use Rattle.rice_code.specs.code.CodedDataSets.{CodedDataSet, NoCompression, RemainderOfSegment, SecondExtension, Split, ZeroBlocks, bits_of_set, bits_of_sets, cost, no_compression_tail}
pub use Rattle.rice_code.specs.encode.OpenSegment.{state_with_fill, CoderState, CodesHeld, HasRoomForSegment, HoldsSoundBlocks, IsOpen, IsWhole, bits_held, blocks_held, code_held}
pub use Rattle.rice_code.specs.encode.OpenSegment.{contents_held, is_empty, next_reference, next_residual, next_start, sets_held, state_after, state_after_all, state_after_segment}
pub use Rattle.std.proofs.Math.{Seq.drop-append_seam, Seq.take-append-add, Seq.take-append_seam, Seq.take-length, Seq.take-suc, Seq.take-nil, Bool.and-false, Bool.and-true, Bool.and-false}
pub use Rattle.std.proofs.lemmas.{Bool.cases_lt, Bool.iff_false, Bool.leb-false, Bool.leb-true, Bool.true_from_ne_false, Bool.eqb-true, Bool.ltb-true, Int.ints, Int.to_z-of_z, List.Folds.flat_map-map}
pub use Rattle.std.proofs.lemmas.{Grind.common_steps, Grind.div_ceil_times, Grind.flat_map-append, Grind.get_or_default_zero, Grind.get_or_head, List.Concat.length-flat_map, Bool.Decides.nat_tests}
pub use Rattle.std.proofs.lemmas.List.{take_all, take_at, take_more, take_more_set, nil_from_length, Elements.Contains-append_right, Elements.Contains-push, Elements.recursion_from_All}
pub use Rattle.std.proofs.lemmas.{Nat.div-mul-add, Nat.le-div, Nat.mod-mul-add, Nat.pow-add, Nat.pow_pos, List.FromFn.get_or-map-range_with_len, List.FromFn.length-range_with_len}
pub use Rattle.std.proofs.lemmas.{List.Sums.prefix_len-le-length, List.Sums.sum_by-append, List.Sums.sum_by-cons, Result.IfErr-weaker, Result.IfOk-weaker, Result.err_from_is_err_and}
pub use Rattle.std.proofs.Math.{Dec.eqb-suc-zero, Dec.leb, Nat.pow-le-pow_right, Pow.pow_mono}
pub use Rattle.std.specs.Prelude.{slice_range, sum_by, ◌&&◌, ◌==◌, ◌≢◌}
pub use Rattle.std.specs.{List.AllByRecursion, List.AllZip, List.best_of, List.list_all, List.prefix_len, List.range_with_len, Int.div_ceil, Int.next_multiple_of}
pub use Rattle.rice_bits.proofs.lemmas.bits.FieldsAtFront.{NoPiece, Piece, Search, bits_piece, search_pieces, sequence_piece, two_pieces, word_piece}
pub use Rattle.rice_bits.proofs.lemmas.bits.WordsReadInOneWay.{bits_read, digit_split, pieces_read, sequence_reads, word_reads}
pub use Rattle.rice_bits.proofs.lemmas.{bits.BytesAndBits.bits_of-append, bits.BytesAndBits.bits_of-padded, bits.BytesAndBits.length-bits_of, read.JoinedPartsLemmas.length-joined}
pub use Rattle.rice_bits.proofs.lemmas.read.{ReaderLemmas.stops-append, ReaderLemmas.takes-append, ReaderLemmas.takes-none, BlankBits.blank-append, BlankBits.blank-word_positive}
pub use Rattle.rice_bits.proofs.lemmas.{read.WindowLemmas.length-words, bits.JoinedBits.low_word, bits.WordsAndNumbers.word-nil}
pub use Rattle.rice_bits.specs.{Bits.bits_to_byte, Bits.fundamental_sequence, Bits.padded_bits, Reader.Reader, Reader.Stops, Reader.Takes, Reader.is_blank}
pub use Rattle.rice_bits.specs.{Bits.joined_parts, declared.read.fault.BitFault.BitFault}
unfoldable pub use Rattle.rice_bits.specs.Bits.{bits_of, whole_bytes, word}
pub use Rattle.rice_samples.proofs.lemmas.blocks.PairNumbers.{codes_of_unpaired, count_pairs, length-pair_codes, length-unpaired, same_pairs, unpaired}
pub use Rattle.rice_samples.proofs.lemmas.predict.DistinctPatternsAndResiduals.{inside_block, no_reference_at, same_pattern, same_residual, same_residuals}
pub use Rattle.rice_samples.proofs.lemmas.setting.PlaceLemmas.{last_of_segment, next_place, one_less_left, reference_begins, some_left}
pub use Rattle.rice_samples.proofs.lemmas.predict.{ResidualLemmas.length-residuals, ResidualLemmas.residuals_fit, ResidualLemmas.zero_at_reference, Ranks.rank_injective}
pub use Rattle.rice_samples.proofs.lemmas.{setting.LevelsOfSamples.pattern_fits, setting.LevelsOfSamples.same_level, setting.LevelsOfSamples.zero_is_sample, bytes.SamplesInTurn.flat_map-push}
pub use Rattle.rice_samples.proofs.lemmas.{predict.InverseRanksAndPatterns.has_pattern, predict.InverseRanksAndPatterns.has_rank, blocks.FallingSums.cut_sum, blocks.FallingSums.sum_halves}
pub use Rattle.rice_samples.proofs.lemmas.setting.CutLemmas.{cut_is_start}
pub use Rattle.rice_samples.specs.Places.{begins_segment, block_count, blocks_left, cut, interval_count, is_padded, is_reference, is_reference_sample, place, segment_start}
pub use Rattle.rice_samples.specs.Residuals.{filled_samples, last_of, pattern, rank, rank_below, ranks, residual, residuals}
pub use Rattle.rice_samples.specs.Parameters.{IsBlockSize, IsLegal, IsSample, Parameters, id_len, k_max, level, value_count}
pub use Rattle.rice_samples.specs.Pairs.{pair_code, pair_codes}
pub use Rattle.rice_code.specs.ReadSets.{BlockCut, BlockRead, PartsCut, PartsRead, SetCut, SetRead, reference_place, set_tail}
pub use Rattle.rice_code.specs.code.CodedDataSets.{reference_bits, reference_len, run_number, run_tail, run_with_zeros, second_extension_tail, sent_from, sent_residuals, split_tail, turns}
pub use Rattle.rice_code.specs.code.Forms.{AllFit, IsBlock, IsForm, IsReference, IsZeroAtReference, ResidualsAreSound, RunIsSound, blocks_in, blocks_in_all, zero_blocks}
pub use Rattle.rice_code.specs.encode.HeldBlocks.{PutsBlocks, PutsShortest, code_of_blocks, held_blocks, pending_bits, pending_run, pending_zeros, reference_at, zeros_of_run}
pub use Rattle.rice_code.specs.code.Decoded.{AreTaken, BeginsUnsound, CutOff, Decoded, DecodedFrom, Ended, Ending, EndsWith, IsWanted, Large, Past, Reached, cut_to}
pub use Rattle.rice_code.specs.code.Code.{bits_from, code, code_bits, code_from, complete_samples, data_set_at, data_sets, output, sets_from, sets_of}
pub use Rattle.rice_code.specs.Decoder.{Answers, GivesFromRun, GivesSet, RepeatsBlocks, SetEnds, Skips, StopsBy, TakesSet, answer_to, with_mark}
pub use Rattle.rice_code.specs.code.Blocks.{BlockData, block_data, blocks_from, blocks_of, fill_count, is_zero_block, zero_block}
pub use Rattle.rice_code.specs.CoderSteps.{coding_steps, least_looks, least_looks_at, most_looks, most_looks_at, most_steps, segment_steps}
pub use Rattle.rice_code.specs.Decoder.{DecoderState, IsDecoderState, place_after, residual_at}
pub use Rattle.rice_code.specs.Laws.{RefusedBytesAreNoOutput, RunIsNeverLonger, SetsAreBounded, SplitIsPaid, count_after}
pub use Rattle.rice_code.specs.Bounds.{amortised_step_bound, bit_bound, block_bound, padding_bound, set_bound, step_bound}
pub use Rattle.rice_code.specs.encode.{Coder.AddsCode, Coder.HasCodedBefore, Coder.HasTaken, Coder.IsCoder, Coder.PushesSamples, Coder.reference_in, OpenSegment.state_between, SetOfChoice.chosen_set}
pub use Rattle.rice_code.specs.code.{Layout.Lies, Layout.bits_with_padding, Layout.block_after, Layout.layout, Layout.padding, Code.run_len, Code.run_of_blocks, Code.zero_run}
pub use Rattle.rice_code.specs.code.SoundBlocks.{AreSoundBlocks, IsSoundBlock, IsSoundData, block_with}
pub use Rattle.rice_code.specs.code.Choice.{IsBestSplit, best_split, other_options, shortest}
pub use Rattle.rice_code.specs.ReadSets.{CountRow, PairRow, Row, WordRow, ones}
pub use Rattle.rice_code.specs.encode.{BitBuffer.HasRoomFor, BitBuffer.PutsSet, BitBuffer.sink_bits, BitBuffer.pairs_len}
pub use Rattle.rice_code.specs.declared.decode.options.{SetSummary.TheVariants.Residuals, SetSummary.TheVariants.Zeros, BlockSummary.BlockSummary}
pub use Rattle.rice_code.specs.declared.decode.call_results.{Step.TheVariants.Block, Step.TheVariants.Done, CodeFault.CodeFault, Step.Step}
