-- Decoding piece by piece: where decoding stands between two calls, and what each call gives.
use Rattle.std.specs.Prelude.{◌≡◌, ◌≢◌, ℕ, ◌+◌, ◌*◌, ◌%◌, ◌<◌, ◌≤◌, Bool, true, List, [], ◌++◌, length, drop, take, sum_by, Option, Some, None, IfOk, IfSome, IsSome, Result, Ok, Err, ℤ, pos}
use Rattle.rice_bits.specs.{Limits.most_bits_read, Reader.Reader, Bits.bits_of}
use Rattle.rice_code.specs.{code.CodedDataSets.CodedDataSet, code.CodedDataSets.turns, code.Decoded.Ended, code.Decoded.CutOff, code.Decoded.Past, code.Decoded.Large, code.Decoded.EndsWith}
use Rattle.rice_code.specs.{Decoder.DecoderState, Decoder.IsDecoderState, declared.decode.call_results.CodeFault.CodeFault}
use Rattle.rice_samples.specs.{Limits.most_samples_counted, Parameters.Parameters, Parameters.width, Places.place, Spelling.spellings, Residuals.last_of}
use Rattle.rice_stream.specs.{declared.stand.Pause.Pause, declared.stand.Stand.Stand, DecodingState.DecodedSoFar, DecodingState.HasSets, DecodingState.HasSteps}
use Rattle.rice_code.specs.declared.decode.call_results.CodeFault.TheVariants as faults
use Rattle.rice_stream.specs.declared.stand.Pause.TheVariants as pauses

-- Where decoding began: after so many bits of a code, and so many samples.
pub record Origin : Type 0 where
  pub bits : ℕ
  pub samples : ℕ

-- the beginning of a code
abbrev pub at_front : Origin
at_front = record { bits = 0; samples = 0 }

-- These bits, from where decoding began, are whole coded data sets with their padding. Their samples are `given`, and `stand.run`
-- blocks of zeros that are still to come. The stand counts from the beginning of the code.
pub record IsStand (s : Parameters) (o : Origin) (stand : Stand) (front : List Bool) (given : List ℤ) : Type 0 where
  pub state : IsDecoderState s stand.block stand.previous stand.run None
  -- an interval can begin there: on a byte, where intervals are padded
  pub begins : s.pad ≡ true → o.bits % 8 ≡ 0
  pub early : o.samples ≤ most_samples_counted
  pub blocks : ℕ
  pub begun : ℕ
  pub before : begun ≤ blocks
  pub sets : List CodedDataSet
  pub has_sets : HasSets s sets front (blocks + stand.run)
  pub decoded : DecodedSoFar s front begun blocks stand.run given
  pub here : place s blocks ≡ stand.block
  pub previous : stand.previous ≡ last_of (pos 0) given
  pub samples : stand.samples ≡ o.samples + length given
  pub bits : stand.bits ≡ o.bits + length front
  pub steps : HasSteps stand.steps (length front) (length given) (stand.run * s.block) (sum_by turns sets)
  pub limit : stand.bits ≤ most_bits_read

-- decoding can stand there, after some samples
abbrev pub IsSomeStand : Parameters → Stand → Type 0
IsSomeStand s stand = (o : Origin) × (front : List Bool) × (given : List ℤ) × IsStand s o stand front given

-- the bits of a piece, which begins with the byte that has the stand's next bit
abbrev pub bits_ahead : Stand → List ℕ → List Bool
bits_ahead stand piece = drop (stand.bits % 8) (bits_of piece)

-- another block has room after so many samples
abbrev pub HasRoomForBlock : Parameters → ℕ → ℕ → Type 0
HasRoomForBlock s count room = width s * count + width s * s.block ≤ room

-- The piece is not taken: it passes the limit of a code.
pub record PieceIsRefused (old new : Stand) (piece : List ℕ) (count : ℕ) : Type 0 where
  pub passes : most_bits_read < old.bits + 8 * length piece
  pub stays : new ≡ old
  pub none : count ≡ 0

-- Where a call ends, and how: for want of room for another block, or as decoding of the bits that are left ends there. `count` samples were written to `room` bytes.
abbrev pub PausesAt : Parameters → Stand → List ℕ → ℕ → Stand → List Bool → ℕ → Pause → Type 0
PausesAt s old piece room new rest count pauses.Full = (width s * count ≤ room) × (room < width s * count + width s * s.block)
PausesAt s old piece room new rest count pauses.Blank = HasRoomForBlock s count room × (new.run ≡ 0) × EndsWith s None new.block rest Ended (length rest)
PausesAt s old piece room new rest count pauses.Cut = HasRoomForBlock s count room × (new.run ≡ 0) × EndsWith s None new.block rest CutOff (length rest)
PausesAt s old piece room new rest count pauses.RunPastSegment = HasRoomForBlock s count room × (new.run ≡ 0) × (used : ℕ) × EndsWith s None new.block rest Past used
PausesAt s old piece room new rest count pauses.ResidualTooLarge = HasRoomForBlock s count room × (new.run ≡ 0) × (used : ℕ) × EndsWith s None new.block rest Large used
PausesAt s old piece room new rest count pauses.TooLong = PieceIsRefused old new piece count

-- Whole blocks were given, and the stand is after the last coded data set that they take. The memory of the caller has their bytes in front.
pub record DecodesMore (s : Parameters) (o : Origin) (front : List Bool) (given : List ℤ) (piece : List ℕ) (old : Stand) (out_old out : List ℕ) (new : Stand) (pause : Pause) : Type 0 where
  pub bits : List Bool
  pub rest : List Bool
  pub samples : List ℤ
  pub parts : bits_ahead old piece ≡ bits ++ rest
  pub stands : IsStand s o new (front ++ bits) (given ++ samples)
  pub writes : out ≡ spellings s samples ++ drop (width s * length samples) out_old
  pub pauses_at : PausesAt s old piece (length out_old) new rest (length samples) pause
  pub limit : pause ≢ pauses.TooLong → old.bits + 8 * length piece ≤ most_bits_read

-- and so wherever decoding began, and whatever samples were given
abbrev pub DecodesOn : Parameters → Stand → List ℕ → List ℕ → List ℕ → Stand → Pause → Type 0
DecodesOn s old piece out_old out new pause = (o : Origin) (front : List Bool) (given : List ℤ) → IsStand s o old front given → DecodesMore s o front given piece old out_old out new pause

-- the state of a decoder that goes on there
abbrev pub state_of : Parameters → Stand → DecoderState
state_of s stand = record { setting = s; block = stand.block; before = stand.previous; run = stand.run; stopped = None }

-- the bytes, if they are reported
abbrev pub bytes_reported : Option (List ℕ) → List ℕ
bytes_reported None = []
bytes_reported (Some bytes) = bytes

-- the bits that are still to come, of a reader that tells its bytes
abbrev pub ahead : {I : Type 0} → Reader I → List Bool
ahead r = r.buffered ++ bits_of (bytes_reported r.left)

-- a reader of a piece that has come to where decoding stands
pub record IsReadFrom {I : Type 0} (stand : Stand) (r : Reader I) : Type 0 where
  pub going : r.refusal ≡ None
  pub failed : r.failed ≡ 0
  pub reported : IsSome r.left
  pub taken : r.taken ≤ stand.bits
  pub limit : stand.bits + length (ahead r) ≤ most_bits_read

-- Decoding stands there, and the decoder and the reader of the piece have come to it.
pub record HasComeTo {I : Type 0} (s : Parameters) (here : Stand) (p : DecoderState) (r : Reader I) : Type 0 where
  pub stand : IsSomeStand s here
  pub state : p ≡ state_of s here
  pub reads : IsReadFrom here r
  pub aligned : here.run ≡ 0 → r.taken % 8 ≡ here.bits % 8

-- blocks more were given
pub record GivesNext {I : Type 0} (s : Parameters) (o : Origin) (front : List Bool) (given : List ℤ) (next : Stand) (old new : Reader I) (samples : List ℤ) : Type 0 where
  pub bits : List Bool
  pub split : ahead old ≡ bits ++ ahead new
  pub stands : IsStand s o next (front ++ bits) (given ++ samples)

-- what becomes of the next block
abbrev pub TakesNext : {I : Type 0} → Parameters → Origin → List Bool → List ℤ → Stand → Reader I → Reader I → List ℤ → Result (Option Stand) CodeFault → Type 0
TakesNext s o front given stand old new samples (Ok (Some next)) = GivesNext s o front given next old new samples
TakesNext s o front given stand old new samples (Ok None) = (stand.run ≡ 0) × EndsWith s None stand.block (ahead old) Ended (length (ahead old))
TakesNext s o front given stand old new samples (Err faults.CodeEnds) = (stand.run ≡ 0) × EndsWith s None stand.block (ahead old) CutOff (length (ahead old))
TakesNext s o front given stand old new samples (Err faults.RunPastSegment) = (stand.run ≡ 0) × (used : ℕ) × EndsWith s None stand.block (ahead old) Past used
TakesNext s o front given stand old new samples (Err faults.ResidualTooLarge) = (stand.run ≡ 0) × (used : ℕ) × EndsWith s None stand.block (ahead old) Large used
TakesNext s o front given stand old new samples (Err faults.Read) = new.failed ≡ 1
TakesNext s o front given stand old new samples (Err faults.TooLong) = ⊥

-- and of a reader and a decoder that gave it
pub record GoesOnAt {I : Type 0} (s : Parameters) (stand next : Stand) (q : DecoderState) (old new : Reader I) : Type 0 where
  pub state : q ≡ state_of s next
  pub reads : IsReadFrom next new
  pub aligned : old.taken % 8 ≡ stand.bits % 8 → new.taken % 8 ≡ next.bits % 8

-- a stand by its numbers, and where the decoder is
abbrev pub stand_at : (samples bits steps : ℕ) → DecoderState → Stand
stand_at samples bits steps q = record { samples = samples; bits = bits; steps = steps; previous = q.before; block = q.block; run = q.run }

-- the decoder gave blocks with these samples, and decoding stands after them then
pub record GivesMore {I : Type 0} (s : Parameters) (stand next : Stand) (q : DecoderState) (old new : Reader I) (samples : List ℤ) : Type 0 where
  pub goes_on : GoesOnAt s stand next q old new
  pub gives : (o : Origin) (front : List Bool) (given : List ℤ) → IsStand s o stand front given → GivesNext s o front given next old new samples

-- It gave blocks, or none, and their `len` bytes were written at this place.
pub record WritesBlocksAt {I : Type 0} (s : Parameters) (stand next : Stand) (q : DecoderState) (old new : Reader I) (len at : ℕ) (out_old out : List ℕ) : Type 0 where
  pub samples : List ℤ
  pub more : GivesMore s stand next q old new samples
  pub len_is : len ≡ width s * length samples
  pub wrote : out ≡ take at out_old ++ (spellings s samples ++ drop (at + len) out_old)

-- What comes of the next block where decoding stands. If it is given, the bytes begin with the spellings of its samples.
pub record GivesAtStand {I : Type 0} (s : Parameters) (stand : Stand) (q : DecoderState) (old new : Reader I) (bytes : List ℕ) (answer : Result (Option Stand) CodeFault) : Type 0 where
  pub samples : List ℤ
  pub goes_on : IfOk answer (λ next. IfSome next (λ next. GoesOnAt s stand next q old new × (length samples ≡ s.block) × (take (width s * s.block) bytes ≡ spellings s samples)))
  pub takes : (o : Origin) (front : List Bool) (given : List ℤ) → IsStand s o stand front given → TakesNext s o front given stand old new samples answer

-- how decoding pauses where the decoder refuses
abbrev pub pause_for : CodeFault → Pause
pause_for faults.RunPastSegment = pauses.RunPastSegment
pause_for faults.ResidualTooLarge = pauses.ResidualTooLarge
pause_for _ = pauses.Cut
