-- The words and lemmas of std, of the crates below and of the specs of this crate that proofs cite.
pub use Rattle.rice_bits.proofs.lemmas.bits.BytesAndBits.{bits_of-append, bits_of-nil, bits_of-padded, bits_of-whole_bytes, length-bits_of, whole_short}
pub use Rattle.rice_bits.proofs.lemmas.bits.WordsAndNumbers.{length-word, word-nil, word-split}
pub use Rattle.rice_bits.proofs.lemmas.device.OutletLemmas.{Appends-kept, Appends-nil, Appends-trans}
pub use Rattle.rice_bits.specs.Reader.{Reader, Refills, Stops, Takes, is_blank, new_reader}
pub use Rattle.rice_bits.specs.{Bits.bits_in_bytes, Bits.bits_to_byte, Bits.padded_bits, Bits.word, Limits.most_at_once, declared.device.slice.SliceIn.SliceIn, declared.read.fault.BitFault.BitFault}
pub use Rattle.rice_bits.specs.{OutletRoom.Appends, OutletRoom.Room, Window.most_buffered}
pub use Rattle.rice_code.proofs.lemmas.code.BlocksByPlaceAlone.{place_step, same_blocks_in, same_contents}
pub use Rattle.rice_code.proofs.lemmas.encode.PushedCode.{between_all, complete_are_coded, holds_nothing, none_taken, segment_steps_few}
pub use Rattle.rice_code.proofs.lemmas.meaning.DecodingByPlacesAlone.{end_there, ends_there, form_there, next_place, run_there}
pub use Rattle.rice_code.proofs.lemmas.{code.Layouts.ends_inside, code.RepeatedSamples.blocks_append, code.RepeatedSamples.last_append, code.RepeatedSamples.last_replicate}
pub use Rattle.rice_code.proofs.lemmas.{code.SoundBlocks.code_is_bounded, code.SoundBlocks.filled_len, code.SoundBlocks.last_legal, code.WholeBytes.whole-append}
pub use Rattle.rice_code.proofs.lemmas.{cost.BestSplitsPaid.all_steps_are_bounded, cost.PaddingBounds.padding_is_bounded, decode.DecoderLemmas.place_moves, encode.HeldSamples.all_first}
pub use Rattle.rice_code.proofs.lemmas.{encode.PushedSamples.last_part, meaning.AllBytesAreDecoded.blocks_are_sound, meaning.AllBytesAreDecoded.blocks_have_samples}
pub use Rattle.rice_code.proofs.lemmas.{meaning.DecodedInOneWay.decoded_is_one, meaning.DecodingBeginsAfresh.decoding_begins_afresh, meaning.DecodingGoesOn.cut_parts}
pub use Rattle.rice_code.proofs.lemmas.{meaning.DecodingGoesOn.decoding_goes_on, meaning.IntervalsStandAlone.intervals_are_decoded_alone, meaning.IntervalsStandAlone.intervals_are_joined}
pub use Rattle.rice_code.specs.CoderSteps.{least_looks, least_looks_at, least_steps, most_looks, most_looks_at, most_steps, segment_steps}
pub use Rattle.rice_code.specs.code.Decoded.{AreTaken, BeginsUnsound, CutOff, Decoded, DecodedFrom, Ended, Ending, EndsWith, IsWanted, Large, Past, Reached, cut_to}
pub use Rattle.rice_code.specs.Decoder.{GivesBlock, GivesFromRun, GivesSet, RepeatsBlocks, SetEnds, SetRefused, StopsBy, with_mark}
pub use Rattle.rice_code.specs.encode.Coder.{AddsCode, CompletesNone, HasTaken, IsAlignedWith, PushesSamples, complete_code}
pub use Rattle.rice_code.specs.{Bounds.amortised_step_bound, Bounds.bit_bound, Bounds.block_bound, Bounds.step_bound, Laws.AreIntervals, code.Blocks.BlockData, code.Blocks.block_data}
pub use Rattle.rice_code.specs.{code.Blocks.blocks_from, code.Blocks.fill_count, code.Blocks.zero_block, code.Code.code, code.Code.code_bits, code.Code.complete_samples, code.Code.data_sets}
pub use Rattle.rice_code.specs.{code.Code.early_output, code.Code.output, code.CodedDataSets.CodedDataSet, code.CodedDataSets.bits_of_set, code.CodedDataSets.turns, code.Forms.IsForm}
pub use Rattle.rice_code.specs.{code.Forms.ResidualsAreSound, code.Forms.RunIsSound, code.Forms.blocks_in, code.Forms.blocks_in_all, code.Layout.Lies, code.Layout.block_after, code.Layout.layout}
pub use Rattle.rice_code.specs.{code.Layout.padding, code.SoundBlocks.AreSoundBlocks, declared.decode.call_results.CodeFault.CodeFault, declared.decode.call_results.Step.TheVariants.Block}
pub use Rattle.rice_code.specs.{declared.decode.call_results.Step.TheVariants.Done, Decoder.DecoderState, Decoder.IsDecoderState, Decoder.place_after as block_place_after}
pub use Rattle.rice_code.specs.{Decoder.state_after_block, ReadSets.SetCut, ReadSets.AreCounted, encode.OpenSegment.CoderState, encode.OpenSegment.state_between}
pub use Rattle.rice_fast.proofs.lemmas.{encode.StandingCoders.setting_of, encode.StandingCoders.stands_between, encode.TakenBytes.one_sample}
pub use Rattle.rice_fast.specs.{declared.encode.coder.BlockCoder.BlockCoder, OpenBlocks.HasRoomAt, OpenBlocks.StandsFor, OpenBlocks.Standing}
pub use Rattle.rice_samples.proofs.lemmas.bytes.SpellingLengths.{length-spelling, length-spellings, narrow_width, some_width, spellings-append}
pub use Rattle.rice_samples.proofs.lemmas.setting.CutLemmas.{cut_is_greatest, cut_is_start}
pub use Rattle.rice_samples.proofs.lemmas.{bytes.ReadSamples.reads_before, bytes.ReadSamples.reads_then, setting.LevelsOfSamples.zero_is_sample}
pub use Rattle.rice_samples.specs.Parameters.{IsLegal, IsSample, Parameters, id_len, k_max, width}
pub use Rattle.rice_samples.specs.Spelling.{AtEnd, EndsSpelling, IsNoSpelling, NoSpelling, Reads, Spells, TooFew, spelling, spellings}
pub use Rattle.rice_samples.specs.{Places.block_count, Places.cut, Places.interval_count, Places.place, Residuals.filled_samples, Residuals.last_of}
pub use Rattle.rice_stream.specs.Decodes.{CountsSteps, DecodesBetween, DecodesBytes, DecodesWithin, EndsDecoding, EndsInTurns, Reports, RunsOut, at_most, ended_fault, refusal_fault, wanted_of}
pub use Rattle.rice_stream.proofs.Progress.{DecodingProgress, EncodingProgress, Gains, HasRead, HoldsCode, TakesAll, TakesSamples}
pub use Rattle.rice_stream.specs.DecodingState.{Advances, AnswersBytes, AreOfRun, DecodedSoFar, FailsInRun, HasSets, HasSteps, WritesRun, repeated}
pub use Rattle.rice_stream.specs.DevicesInCalls.{Call, Fails, IsWithinLimit, PassesLimit, StopsBetween, TakesPart}
pub use Rattle.rice_stream.specs.Encodes.{EncodesBetween, EncodesWithin, EndsEncoding, LeavesEarly, ReportsAll, ReportsTaken, SpellsSoFar}
pub use Rattle.rice_stream.specs.EncodingState.{Beginning, CountsSamples, EncodingValue, FailsAt, Follows, FollowsBetween, IsEncodingOf, MeetsFailure, PushFails, Pushes}
pub use Rattle.rice_stream.specs.EncodingState.{Sees, WritesRest, afresh, whole_part}
pub use Rattle.rice_stream.specs.Feeding.{AreAll, EncodesMore, EncodesRest, IsSeam, TakesPiece, after, bytes_in_all, encoding_at, samples_to_take}
pub use Rattle.rice_stream.specs.Laws.{AreFed, ArePulled, EndsCode, EnoughAfterIsDecoding, EnoughIsDecoding, FeedingIsEncoding, FrontIsPlace, GiveInParts, IsPlace, IsPulled, Piece, Pull}
pub use Rattle.rice_stream.specs.Laws.{PullsAreDecoding, ReturnsBytes, ReturnsBytesAndFill, SeamsTellPlaces, SeekingIsDecoding, StandsTellPlaces, TakeInParts, last_seam, last_stand, place_after}
pub use Rattle.rice_stream.specs.Pulling.{DecodesMore, GivesMore, GivesNext, GoesOnAt, HasRoomForBlock, IsReadFrom, IsStand, Origin, PausesAt, TakesNext, WritesBlocksAt, ahead, bits_ahead}
pub use Rattle.rice_stream.specs.Pulling.{bytes_reported, pause_for, stand_at, state_of}
pub use Rattle.rice_stream.specs.declared.outcome.Fault.TheVariants.{CodeEnds, Read, ResidualTooLarge, RunPastSegment, SampleCut, SampleOutOfRange, TooLong, Write}
pub use Rattle.rice_stream.specs.{BufferedBytes.with_last, EncodingState.ShowsCode, EncodingState.TakesSpelled, EncodingState.standing_between, declared.outcome.Fault.Fault}
pub use Rattle.rice_stream.specs.{declared.outcome.Report.Report, declared.seam.Seam.Seam, declared.stand.Pause.Pause, declared.stand.Stand.Stand, declared.takes.Taken.Taken}
pub use Rattle.std.proofs.Common.{Bool, FitsSigned, List, None, Option, Some, [], ap, append-nil, append_assoc, arith, cond, drop, false, inl, inr, length, length-append, length-drop, pos, refl}
pub use Rattle.std.proofs.Common.{replicate, rules, subst, suc, sym, take, true, w64, zero, ℕ, ℤ, ◌&&◌, ◌*◌, ◌++◌, ◌+◌, ◌-◌, ◌/◌, ◌<◌, ◌==◌, ◌∙◌, ◌∷◌, ◌≡◌, ◌≢◌, ◌≤◌, ◌⊎◌}
pub use Rattle.std.proofs.KnownBytes.{Consumes-nil, Consumes-trans}
pub use Rattle.std.proofs.Math.Nat.{div-add-mod, lt_of_mul-lt-mul_left, mod-eq_of_lt, mod-lt, mod_self, mul-div_cancel_left, mul-le-mul_left, mul-le-mul_right, mul-mod_right, mul-pos, mul_assoc}
pub use Rattle.std.proofs.Math.Nat.{mul_comm}
pub use Rattle.std.proofs.Math.Seq.{drop-append-add, drop-append_seam, drop-nil, paste, take-add, take-append-add, take-append_seam, take-length, take-nil}
pub use Rattle.std.proofs.lemmas.List.{drop-drop, drop-take, drop_at, length-replicate, length-take, length-take-le, nil_from_length, replicate-append-replicate, take-append-drop, take-append-le}
pub use Rattle.std.proofs.lemmas.List.{take_all, take_at, take_rest}
pub use Rattle.std.proofs.lemmas.List.Elements.{All-append, All-cons, All-from_recursion, All-head, All-nil, All-tail, recursion_from_All}
pub use Rattle.std.proofs.lemmas.{Bool.cases_lt, Bool.Decides.nat_tests, Grind.common_steps, Grind.div_ceil_times, Int.to_z-of_z, List.Edits.take-paste, List.Sums.sum_by_push, Nat.mod-mul-add}
pub use Rattle.std.proofs.lemmas.{Nat.shr_below, Result.err_from_is_err_and, Slice.drop-append-drop}
pub use Rattle.std.specs.Prelude.{All, Contains, Err, IfOk, IfSome, IsSome, Ok, sum_by, ⊤, ◌%◌, ◌^◌}
pub use Rattle.std.specs.{Int.div_ceil, Int.next_multiple_of, Io.KnownBytes.Consumes, Io.KnownBytes.IsAtEnd, List.AllByRecursion, List.copy_within}
unfoldable pub use Rattle.rice_bits.specs.Bits.{bits_of, whole_bytes}
