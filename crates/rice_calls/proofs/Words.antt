-- The words and lemmas of std, of the crates below and of the specs of this crate that proofs cite.
pub use Rattle.rice_bits.proofs.lemmas.bits.BytesAndBits.{bits_of-append, bits_of-whole_bytes, length-bits_of}
pub use Rattle.rice_bits.specs.Bits.{bits_in_bytes, bits_of, bits_to_byte, padded_bits, whole_bytes}
pub use Rattle.rice_bits.specs.{OutletRoom.Fills, OutletRoom.Room, OutletRoom.begun, Devices.slice_left, Devices.slice_state}
pub use Rattle.rice_calls.specs.Calls.{DecodesInto, EncodesInto, ReportsCall, StandsInFront, TakesInput, WritesFront}
pub use Rattle.rice_calls.specs.Laws.{AreFed, ArePulled, DrainsTellPlaces, EndsAll, EnoughIsDecoding, FeedsTellPlaces, IsPulled, Pull, PullsAreDecoding, Push, PushRoomSuffices, ReturnsBytes}
pub use Rattle.rice_calls.specs.Laws.{ReturnsBytesAndFill, RoomSuffices, WriteInParts, last_drain, last_feed, place_all, written_by}
pub use Rattle.rice_calls.specs.Statuses.{fault_place, fault_status, pause_place, pause_status, status_number}
pub use Rattle.rice_calls.specs.{AsAsked.Asked, AsAsked.DecodesAsAsked, AsAsked.EncodesAsAsked, AsAsked.FinishesAsAsked, AsAsked.PushesAsAsked, Feeding.FinishesInto, Feeding.fault_of, Feeding.fed}
pub use Rattle.rice_calls.specs.{Reports.report_of, SufficientRoom.code_room, SufficientRoom.push_room, declared.feeding.RiceFeed.RiceFeed, declared.pulling.RiceDrain.RiceDrain}
pub use Rattle.rice_calls.specs.{declared.report.RiceReport.RiceReport, declared.status.Status.Status, declared.status.Status.TheVariants.Done, declared.status.Status.TheVariants.NoRoom}
pub use Rattle.rice_code.proofs.lemmas.cost.AddedCodeBound.{added_code_is_bounded}
pub use Rattle.rice_code.proofs.lemmas.{code.SoundBlocks.code_is_bounded, cost.PaddingBounds.padding_is_bounded, encode.PushedCode.between_all, meaning.DecodedInOneWay.decoded_is_one}
pub use Rattle.rice_code.specs.code.Decoded.{CutOff, Decoded, Ended, Ending, Large, Past, Reached}
pub use Rattle.rice_code.specs.{Bounds.added_bound, Bounds.bit_bound, Bounds.block_bound, Bounds.padded_bound, Bounds.padding_bound, code.Code.code, code.Code.early_output, code.Code.output}
pub use Rattle.rice_samples.proofs.lemmas.{bytes.SpellingLengths.length-spellings, bytes.SpellingLengths.narrow_width, bytes.SpellingLengths.spellings-append, setting.LevelsOfSamples.zero_is_sample}
pub use Rattle.rice_samples.specs.Spelling.{AtEnd, NoSpelling, Spells, spellings}
pub use Rattle.rice_samples.specs.{Limits.most_input, Parameters.IsLegal, Parameters.IsSample, Parameters.Parameters, Parameters.width, Places.block_count, Places.cut, Places.interval_count}
pub use Rattle.rice_stream.proofs.lemmas.{CallsDecodeAsDefined.FaultOf, CallsDecodeAsDefined.decodes_as, CallsDecodeAsDefined.never_reached, FedPieces.code_of_seam, FedPieces.nothing_early}
pub use Rattle.rice_stream.proofs.lemmas.{FedPieces.place_of_seam, PulledPieces.seek_all, PulledPieces.seek_enough, PulledPieces.stands_tell_places, ReturnedBytes.decoded_before, Seams.cut_grows}
pub use Rattle.rice_stream.specs.Feeding.{AreAll, EncodesMore, EncodesRest, IsSeam, MeetsEnd, WantsRoom, after}
pub use Rattle.rice_stream.specs.declared.outcome.Fault.TheVariants.{CodeEnds, Read, ResidualTooLarge, RunPastSegment, SampleCut, SampleOutOfRange, TooLong, Write}
pub use Rattle.rice_stream.specs.{Decodes.Decodes, Decodes.DecodesWithin, Decodes.EndsDecoding, DevicesInCalls.Call, DevicesInCalls.Fails, DevicesInCalls.Happens, DevicesInCalls.StopsBetween}
pub use Rattle.rice_stream.specs.{Encodes.Encodes, Encodes.EncodesWithin, Encodes.FailsAfter, Encodes.FailsAtEnd, Encodes.ReportsTaken, EncodingState.Follows, EncodingState.FollowsBetween}
pub use Rattle.rice_stream.specs.{EncodingState.PushFails, Laws.EndsCode, Laws.IsPlace, Laws.place_at, Pulling.DecodesMore, Pulling.IsStand, Pulling.Origin, Pulling.PausesAt}
pub use Rattle.rice_stream.specs.{declared.outcome.Fault.Fault, declared.outcome.Report.Report, declared.seam.Seam.Seam, declared.stand.Pause.Pause, declared.stand.Stand.Stand}
pub use Rattle.std.proofs.Common.{Bool, Err, IfOk, List, None, Ok, Option, Result, Some, [], ap, append-nil, append_assoc, arith, cond, drop, false, inl, inr, length, length-append, pos, refl}
pub use Rattle.std.proofs.Common.{replicate, rules, subst, sym, take, take-append-drop, take-take, true, ℕ, ℤ, ◌*◌, ◌++◌, ◌+◌, ◌-◌, ◌/◌, ◌<◌, ◌==◌, ◌∙◌, ◌∷◌, ◌≡◌, ◌≢◌, ◌≤◌, ◌⊎◌}
pub use Rattle.std.proofs.Math.Nat.{div-add-mod, mod-lt, mul-div_cancel_left, mul-le-mul_left, mul-le-mul_right}
pub use Rattle.std.proofs.Math.Seq.{take-append-add, take-append_seam}
pub use Rattle.std.proofs.lemmas.List.{drop_at, length-replicate, length-take, length-take-le, take_at}
pub use Rattle.std.proofs.lemmas.{Bool.cases_lt, Bool.Decides.nat_tests, Grind.div_ceil_times, List.Elements.All-from_recursion, List.Elements.All-take, List.Sums.sum_by-cons}
pub use Rattle.std.specs.{Int.div_ceil, Io.KnownBytes.Consumes, Io.KnownBytes.IsAtEnd, Prelude.All}
