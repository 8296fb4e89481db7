-- How far encoding and decoding have come: what the invariants of their loops say.
use Rattle.std.specs.Io.KnownBytes.{Consumes}
use Rattle.std.specs.Prelude.{◌≡◌, ℕ, ◌+◌, ◌*◌, ◌<◌, ◌≤◌, Bool, List, ◌++◌, length, sum_by, take, Option, None, Some, IfSome, ℤ, pos}
use Rattle.rice_bits.specs.{Limits.most_bits_read, OutletRoom.Room, OutletRoom.Appends, Reader.Reader, Reader.Refills, Bits.bits_of}
use Rattle.rice_samples.specs.{Parameters.Parameters, Parameters.width, Places.place, Spelling.Reads, Spelling.spellings, Residuals.last_of}
use Rattle.rice_code.specs.{code.CodedDataSets.CodedDataSet, code.CodedDataSets.turns, code.Code.complete_samples, code.Decoded.IsWanted, code.Decoded.cut_to}
use Rattle.rice_code.specs.{Decoder.DecoderState, encode.Coder.complete_code}
use Rattle.rice_stream.specs.{BufferedBytes.BufferedBytes, DecodingState.DecodedSoFar, DecodingState.HasSets, DecodingState.HasSteps}
use Rattle.rice_stream.specs.EncodingState.{Beginning, CountsSamples, EncodingValue, IsEncodingOf, TakesUpTo, afresh, whole_part}

-- The decoder goes on at this block, after these samples.
pub record IsAtBlock (s : Parameters) (p : DecoderState) (blocks : ℕ) (given : List ℤ) : Type 0 where
  pub setting : p.setting ≡ s
  pub here : place s blocks ≡ p.block
  pub previous : p.before ≡ last_of (pos 0) given
  pub going : p.stopped ≡ None

-- These bits were taken of the bytes that the intake has given since it had `start` left, and these bits are buffered.
pub record HasRead (start left : Option (List ℕ)) (buffered : List Bool) (taken : ℕ) (front : List Bool) : Type 0 where
  pub bytes : List ℕ
  pub gave : Consumes start left bytes
  pub bits : bits_of bytes ≡ front ++ buffered
  pub count : taken ≡ length front

-- Of the blocks that were given, `written` samples are written: those that were asked for.
pub record HasWritten (s : Parameters) (asked : Option ℕ) (out_old out : Option Room) (blocks : ℕ) (given : List ℤ) (written : ℕ) : Type 0 where
  pub wanted : (i : ℕ) → i < blocks → IsWanted s asked i
  pub count : written ≡ length (cut_to s asked 0 given)
  pub asked_for : IfSome asked (λ n. written ≤ n)
  pub put : Appends out_old out (spellings s (cut_to s asked 0 given))

-- One block more was given, for which these bits were taken.
pub record Gains {I : Type 0} (s : Parameters) (old new : Reader I) (steps steps_new : ℕ) (front : List Bool) (sets : List CodedDataSet) (blocks run : ℕ) (given samples : List ℤ) : Type 0 where
  pub bits : List Bool
  pub refills : Refills old.left new.left old.buffered new.buffered bits
  pub taken : new.taken ≡ old.taken + length bits
  pub going : new.refusal ≡ None
  pub failures : new.failed ≡ old.failed
  pub len : length samples ≡ s.block
  pub begun : ℕ
  pub before : begun ≤ blocks + 1
  pub decoded : DecodedSoFar s (front ++ bits) begun (blocks + 1) run (given ++ samples)
  pub more_sets : List CodedDataSet
  pub has_sets : HasSets s more_sets (front ++ bits) (blocks + 1 + run)
  pub counted : steps_new + old.taken + sum_by turns sets ≡ steps + new.taken + sum_by turns more_sets

-- Blocks were given so far, and their samples are written, cut to those that were asked for.
pub record DecodingProgress {I : Type 0} (s : Parameters) (asked : Option ℕ) (start : Reader I) (out_old out : Option Room) (p : DecoderState) (r : Reader I) (steps written : ℕ) : Type 0 where
  pub blocks : ℕ
  pub front : List Bool
  pub given : List ℤ
  pub sets : List CodedDataSet
  pub begun : ℕ
  pub at_block : IsAtBlock s p blocks given
  pub going : r.refusal ≡ None
  pub reads : r.failed ≡ start.failed
  pub idle : asked ≡ Some 0 → r ≡ start
  pub limit : r.taken ≤ most_bits_read
  pub has_read : HasRead start.left r.left r.buffered r.taken front
  pub has_sets : HasSets s sets front (blocks + p.run)
  pub before : begun ≤ blocks
  pub decoded : DecodedSoFar s front begun blocks p.run given
  pub has_written : HasWritten s asked out_old out blocks given written
  pub has_steps : HasSteps steps r.taken written (p.run * s.block) (sum_by turns sets)

-- An encoding has taken the samples ys. Its sink holds their code from the byte on that the code of xs, which is written, leaves unfinished.
pub record HoldsCode (s : Parameters) (e : EncodingValue) (xs ys : List ℤ) : Type 0 where
  pub counts : CountsSamples s e ys
  pub code_is : complete_code s ys ≡ whole_part (complete_code s xs) ++ e.sink

-- It has taken these samples too, and their code goes on from that of those before. Only the last of them can have made a segment whole.
pub record TakesSamples (s : Parameters) (e : EncodingValue) (xs ys more : List ℤ) : Type 0 where
  pub counts : CountsSamples s e (ys ++ more)
  pub code_is : complete_code s (ys ++ more) ≡ whole_part (complete_code s xs) ++ e.sink
  pub bits : List Bool
  pub goes_on : complete_code s (ys ++ more) ≡ complete_code s ys ++ bits
  pub before_last : (m : ℕ) → m < length more → complete_samples s (ys ++ take m more) ≡ complete_samples s ys

-- Bytes were given so far: those of samples, whose code is written as far as it is whole, and those that are buffered.
pub record EncodingProgress (s : Parameters) (left_old left : Option (List ℕ)) (taken_old taken : Option Room) (v : EncodingValue) (r : BufferedBytes) : Type 0 where
  pub bytes : List ℕ
  pub samples : List ℤ
  pub reads : Reads s bytes samples r.buffered
  pub count : r.given ≡ length bytes
  pub gave : Consumes left_old left bytes
  pub holds : IsEncodingOf s (afresh taken_old) taken v samples

-- an encoding that held xs takes all samples that the bytes spell
abbrev pub TakesAll : Parameters → Beginning → Option Room → EncodingValue → List ℤ → List ℕ → Type 0
TakesAll s = TakesUpTo (λ rest. length rest < width s) s
