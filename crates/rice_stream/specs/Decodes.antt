-- What decoding does: each way in which it ends.
use Rattle.std.specs.Io.KnownBytes.{IsAtEnd}
use Rattle.std.specs.Prelude.{◌≡◌, ◌≢◌, ℕ, ◌+◌, ◌-◌, ◌*◌, ◌/◌, ◌≤◌, ◌⊎◌, Bool, List, [], ◌++◌, length, sum_by, take, min, Option, Some, None, IfSome, IsSome, ℤ}
use Rattle.rice_bits.specs.{Limits.most_bits_read, Limits.most_bytes_read, Limits.most_at_once, OutletRoom.Room, Reader.Reader, Window.most_buffered, Bits.bits_of}
use Rattle.rice_code.specs.code.Decoded.{Decoded, AreTaken, BeginsUnsound, EndsWith, Ending, Reached, Ended, CutOff, Past, Large}
use Rattle.rice_code.specs.{Bounds.most_samples_of_bit, code.CodedDataSets.CodedDataSet, code.CodedDataSets.turns, code.Forms.RunIsSound, code.Forms.ResidualsAreSound}
use Rattle.rice_code.specs.{code.Forms.blocks_in_all, code.Layout.Lies, declared.decode.call_results.CodeFault.CodeFault}
use Rattle.rice_samples.specs.{Parameters.Parameters, Spelling.spellings}
use Rattle.rice_stream.specs.DevicesInCalls.{Call, Happens, WritesAndReports, StopsBetween, PassesLimit}
use Rattle.rice_stream.specs.declared.outcome.Fault.TheVariants.{Read, Write, TooLong, CodeEnds, RunPastSegment, ResidualTooLarge}
use Rattle.rice_stream.specs.{declared.outcome.Report.Report, declared.outcome.Fault.Fault}
use Rattle.rice_code.specs.declared.decode.call_results.CodeFault.TheVariants as codes

-- the bytes decode so, and these samples and bits are what the call left
abbrev pub DecodesBytes : Parameters → Option ℕ → Call → Report → List ℕ → List ℤ → Ending → Type 0
DecodesBytes s asked c r bytes ys ending = (used : ℕ) × Decoded s (bits_of bytes) asked ys ending used × WritesAndReports c r (spellings s ys) (length ys) used

-- no whole coded data set is left
abbrev pub RunsOut : Ending → Type 0
RunsOut ending = (ending ≡ Ended) ⊎ (ending ≡ CutOff)

-- the samples asked for, if they are fewer
abbrev pub at_most : Option ℕ → ℕ → ℕ
at_most None n = n
at_most (Some m) n = min m n

-- The outlet failed in the block after the first `r.samples` samples: all before it is written, and not all of it. The bits are those of the coded data sets up to the one that holds the block.
pub record FailsInBlock (s : Parameters) (asked : Option ℕ) (c : Call) (r : Report) (ys : List ℤ) : Type 0 where
  pub block : ℕ
  pub samples : r.samples ≡ s.block * block
  pub count : length ys ≡ at_most asked (r.samples + s.block)
  pub decoded : Decoded s (bits_of c.given) (Some (length ys)) ys Reached r.bits
  pub stops : StopsBetween (spellings s (take r.samples ys)) (spellings s ys) c.written

-- The samples, and how decoding ends. A coded data set that is refused begins with the block after these samples.
abbrev pub EndsDecoding : Parameters → Option ℕ → Option Fault → Call → Report → List ℤ → Ending → Type 0
EndsDecoding s asked None c r ys ending = DecodesBytes s asked c r c.given ys ending × ((ending ≡ Reached) ⊎ ((ending ≡ Ended) × (asked ≡ None) × IsAtEnd c.left))
EndsDecoding s asked (Some (CodeEnds samples)) c r ys ending =
    DecodesBytes s asked c r c.given ys ending × ((ending ≡ CutOff) ⊎ ((ending ≡ Ended) × IsSome asked)) × IsAtEnd c.left × (samples ≡ length ys)
EndsDecoding s asked (Some (RunPastSegment block)) c r ys ending = DecodesBytes s asked c r c.given ys ending × (ending ≡ Past) × (length ys ≡ s.block * block)
EndsDecoding s asked (Some (ResidualTooLarge block)) c r ys ending = DecodesBytes s asked c r c.given ys ending × (ending ≡ Large) × (length ys ≡ s.block * block)
EndsDecoding s asked (Some Read) c r ys ending = DecodesBytes s asked c r c.given ys ending × RunsOut ending
EndsDecoding s asked (Some TooLong) c r ys ending = ((front : List ℕ) × PassesLimit most_bytes_read c.given front × DecodesBytes s asked c r front ys ending) × RunsOut ending
EndsDecoding s asked (Some Write) c r ys ending = FailsInBlock s asked c r ys × (ending ≡ Reached)
EndsDecoding s asked (Some _) c r ys ending = ⊥

-- At block b decoding ends so, by these bits, and a search for pairs takes so many turns in them: none in zeros, and those of a
-- coded data set that is refused. In one that is cut off they are at most its bits.
abbrev pub EndsInTurns : Parameters → ℕ → List Bool → Ending → ℕ → Type 0
EndsInTurns s b last Reached count = (last ≡ []) × (count ≡ 0)
EndsInTurns s b last Ended count = EndsWith s None b last Ended (length last) × (count ≡ 0)
EndsInTurns s b last CutOff count = EndsWith s None b last CutOff (length last) × (count ≤ length last)
EndsInTurns s b last Past count = (unsound : BeginsUnsound s b last (length last) (RunIsSound s b)) × (count ≡ turns unsound.refused)
EndsInTurns s b last Large count = (unsound : BeginsUnsound s b last (length last) (ResidualsAreSound s)) × (count ≡ turns unsound.refused)

-- The bits that were taken are sound coded data sets with their padding, and then `last`, by which decoding ends so.
-- Each bit, each sample and each turn of a search for pairs is a step, and nothing else is.
pub record CountsSteps (s : Parameters) (bits : List Bool) (r : Report) (ending : Ending) : Type 0 where
  pub sets : List CodedDataSet
  pub front : List Bool
  pub last : List Bool
  pub rest : List Bool
  pub parts : bits ≡ (front ++ last) ++ rest
  pub lie : Lies s 0 0 sets front
  pub sound : AreTaken s None 0 sets
  pub turns_in_last : ℕ
  pub ends : EndsInTurns s (length (blocks_in_all s 0 sets)) last ending turns_in_last
  pub bits_taken : r.bits ≡ length (front ++ last)
  pub steps : r.steps ≡ r.bits + r.samples + sum_by turns sets + turns_in_last

-- what the call did, for each outcome
pub record Decodes (s : Parameters) (asked : Option ℕ) (c : Call) (r : Report) (fault : Option Fault) : Type 0 where
  pub samples : List ℤ
  pub ending : Ending
  pub ends : EndsDecoding s asked fault c r samples ending
  pub ahead : length c.given ≤ r.bits / 8 + most_at_once
  -- only the outcome `TooLong` is of more bytes
  pub limit : fault ≢ Some TooLong → length c.given ≤ most_bytes_read
  pub steps : CountsSteps s (bits_of c.given) r ending

-- The call of which the devices tell decodes so: what the intake has left before and after, and what the outlet took.
abbrev pub DecodesBetween : Parameters → Option ℕ → (left left_new : Option (List ℕ)) → (taken taken_new : Option Room) → Report → Option Fault → Type 0
DecodesBetween s asked left left_new taken taken_new r fault = (c : Call) × Happens left left_new taken taken_new c × Decodes s asked c r fault

-- the report's bounds, at every exit
pub record DecodesWithin (asked : Option ℕ) (r : Report) : Type 0 where
  pub asked_for : IfSome asked (λ n. r.samples ≤ n)
  -- a bit brings at most 456 samples
  pub by_bits : r.samples ≤ most_samples_of_bit * r.bits
  pub at_least : r.bits + r.samples ≤ r.steps
  -- a step is a bit taken, a turn of the search for the sum of a pair, or a sample written
  pub at_most : r.steps ≤ 2 * r.bits + r.samples

-- What is reported where decoding ends with this reader: its bits, and what its intake tells.
pub record Reports {I : Type 0} (r : Report) (f : Option Fault) (left : Option (List ℕ)) (failed : ℕ) (reader : Reader I) (samples steps : ℕ) (fault : Option Fault) : Type 0 where
  pub samples_are : r.samples ≡ samples
  pub bits_are : r.bits ≡ reader.taken
  pub steps_are : r.steps ≡ steps
  pub fault_is : f ≡ fault
  pub left_is : left ≡ reader.left
  pub failed_is : failed ≡ reader.failed
  pub ahead : length reader.buffered ≤ most_buffered
  pub limit : reader.taken + length reader.buffered ≤ most_bits_read

-- how many samples of a block are wanted after the first `written`
abbrev pub wanted_of : Option ℕ → ℕ → ℕ → ℕ
wanted_of None written block = block
wanted_of (Some n) written block = min (n - written) block

-- the fault where no 1 is left
abbrev pub ended_fault : Option ℕ → ℕ → Option Fault
ended_fault None samples = None
ended_fault (Some n) samples = Some (CodeEnds samples)

-- the fault where the decoder refuses
abbrev pub refusal_fault : CodeFault → ℕ → ℕ → Fault
refusal_fault codes.CodeEnds samples block = CodeEnds samples
refusal_fault codes.RunPastSegment samples block = RunPastSegment (samples / block)
refusal_fault codes.ResidualTooLarge samples block = ResidualTooLarge (samples / block)
refusal_fault codes.Read samples block = Read
refusal_fault codes.TooLong samples block = TooLong
