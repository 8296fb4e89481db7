-- What joins encoding and decoding, and each with the same piece by piece.
use Rattle.std.specs.Io.KnownBytes.{Consumes}
use Rattle.std.specs.Prelude.{◌≡◌, ℕ, ◌+◌, ◌*◌, ◌/◌, ◌<◌, ◌≤◌, ◌⊎◌, List, [], ◌∷◌, ◌++◌, length, take, drop, Option, Some, None, Ok, ℤ, ⊤}
use Rattle.rice_bits.specs.{OutletRoom.Room, OutletRoom.Appends, Bits.bits_of}
use Rattle.rice_samples.specs.{Parameters.Parameters, Parameters.IsLegal, Parameters.width, Spelling.spellings}
use Rattle.rice_code.specs.code.Decoded.{Decoded, Ending, Reached, Ended, CutOff, Past, Large}
use Rattle.rice_code.specs.{Laws.BeginsInterval, code.Code.output}
use Rattle.rice_stream.specs.declared.outcome.Fault.TheVariants.{Read, Write}
use Rattle.rice_stream.specs.{DevicesInCalls.Call, Encodes.Encodes, Decodes.Decodes, declared.outcome.Report.Report, declared.outcome.Fault.Fault, declared.seam.Seam.Seam, declared.stand.Pause.Pause}
use Rattle.rice_stream.specs.{declared.stand.Stand.Stand, Feeding.IsSeam, Feeding.EncodesOn, Feeding.EncodesToEnd, Pulling.Origin, Pulling.IsStand, Pulling.DecodesOn, Pulling.at_front}
use Rattle.rice_stream.specs.declared.stand.Pause.TheVariants as pauses

-- A call that decodes is given what a call that encoded without a fault has written, and the number of its samples. Then it writes the bytes that were encoded, unless a device fails.
abbrev pub ReturnsBytes : Type 0
ReturnsBytes = (s : Parameters) → IsLegal s → (encoding decoding : Call) (encoded decoded : Report) (fault : Option Fault) →
    Encodes s encoding encoded None → Consumes (Some encoding.written) decoding.left decoding.given → Decodes s (Some encoded.samples) decoding decoded fault →
    ((fault ≡ None) × (decoding.written ≡ encoding.given)) ⊎ ((fault ≡ Some Read) ⊎ (fault ≡ Some Write))

-- Without the number it writes these bytes, and those of fewer than a segment of samples more.
abbrev pub ReturnsBytesAndFill : Type 0
ReturnsBytesAndFill = (s : Parameters) → IsLegal s → (encoding decoding : Call) (encoded decoded : Report) (fault : Option Fault) →
    Encodes s encoding encoded None → Consumes (Some encoding.written) decoding.left decoding.given → Decodes s None decoding decoded fault →
    ((fault ≡ None) × (fill : List ℤ) × (length fill < 64 * s.block) × (decoding.written ≡ encoding.given ++ spellings s fill)) ⊎ ((fault ≡ Some Read) ⊎ (fault ≡ Some Write))

-- A piece that was fed: its bytes, the seam where its call ended, and what its outlet had taken before and after.
pub record Piece : Type 0 where
  pub bytes : List ℕ
  pub seam : Seam
  pub old : Option Room
  pub new : Option Room

-- Pieces of an input were fed one after the other. Each begins after the samples that the seam before it counts, and ends anywhere.
abbrev pub AreFed : Parameters → List ℕ → Seam → List Piece → Type 0
AreFed s input seam [] = ⊤
AreFed s input seam (p ∷ ps) =
    ((after : List ℕ) × (drop (width s * seam.samples) input ≡ p.bytes ++ after)) ×
    EncodesOn s seam p.bytes p.old p.new (Ok p.seam) × AreFed s input p.seam ps

-- where the last of them ended
abbrev pub last_seam : Seam → List Piece → Seam
last_seam seam [] = seam
last_seam seam (p ∷ ps) = last_seam p.seam ps

-- the outlets took these bytes, a part in each call
abbrev pub TakeInParts : List Piece → List ℕ → Type 0
TakeInParts [] bytes = bytes ≡ []
TakeInParts (p ∷ ps) bytes = (part : List ℕ) × (rest : List ℕ) × (bytes ≡ part ++ rest) × Appends p.old p.new part × TakeInParts ps rest

-- Pieces were fed, and a last call was given the rest of the input. Then what a call that encodes the whole input writes was taken
-- by the outlets of all these calls, one after the other, and as many samples and bits are reported.
abbrev pub FeedingIsEncoding : Type 0
FeedingIsEncoding = (s : Parameters) → IsLegal s → (input : List ℕ) (seam : Seam) (pieces : List Piece) (old new : Option Room) (fed encoded : Report) (encoding : Call) →
    IsSeam s seam [] → AreFed s input seam pieces →
    EncodesToEnd s (last_seam seam pieces) (drop (width s * (last_seam seam pieces).samples) input) old new fed None →
    Encodes s encoding encoded None → encoding.given ≡ input →
    ((front : List ℕ) × (last : List ℕ) × (encoding.written ≡ front ++ last) × TakeInParts pieces front × Appends old new last) × (fed.samples ≡ encoded.samples) × (fed.bits ≡ encoded.bits)

-- A piece that was pulled: its bytes, where decoding stood then and why it ended there, and the caller's memory before and after.
pub record Pull : Type 0 where
  pub piece : List ℕ
  pub stand : Stand
  pub pause : Pause
  pub old : List ℕ
  pub new : List ℕ

-- What a call of `decode_more` says of a piece that begins with the byte of the code in which the stand's next bit is.
abbrev pub IsPulled : Parameters → List ℕ → Stand → Pull → List ℕ → Type 0
IsPulled s code stand p after = (drop (stand.bits / 8) code ≡ p.piece ++ after) × DecodesOn s stand p.piece p.old p.new p.stand p.pause

-- Pieces of a code were pulled one after the other. Each ends anywhere, and has any room.
abbrev pub ArePulled : Parameters → List ℕ → Stand → List Pull → Type 0
ArePulled s code stand [] = ⊤
ArePulled s code stand (p ∷ ps) = ((after : List ℕ) × IsPulled s code stand p after) × ArePulled s code p.stand ps

-- where the last of them ended
abbrev pub last_stand : Stand → List Pull → Stand
last_stand stand [] = stand
last_stand stand (p ∷ ps) = last_stand p.stand ps

-- The calls wrote the bytes of these samples to the front of the caller's memory, a part each, by which the stand's count has grown, and no byte after them.
abbrev pub GiveInParts : Parameters → Stand → List Pull → List ℤ → Type 0
GiveInParts s stand [] xs = xs ≡ []
GiveInParts s stand (p ∷ ps) xs =
    (part : List ℤ) × (rest : List ℤ) × (xs ≡ part ++ rest) × (p.stand.samples ≡ stand.samples + length part) × (p.new ≡ spellings s part ++ drop (width s * length part) p.old) ×
    GiveInParts s p.stand ps rest

-- how a code ends where the pull of a piece pauses that has these bytes after it
abbrev pub EndsCode : Pause → List ℕ → Ending → Type 0
EndsCode pauses.Blank after ending = (after ≡ []) × (ending ≡ Ended)
EndsCode pauses.Cut after ending = (after ≡ []) × (ending ≡ CutOff)
EndsCode pauses.RunPastSegment after ending = ending ≡ Past
EndsCode pauses.ResidualTooLarge after ending = ending ≡ Large
EndsCode _ after ending = ⊥

-- Pieces were pulled from the front of a code, and the last of them to where the code ends. Then the samples of all calls, one after the other, are those that the code decodes to, and it ends so.
abbrev pub PullsAreDecoding : Type 0
PullsAreDecoding = (s : Parameters) (code : List ℕ) (first : Stand) (pulls : List Pull) (last : Pull) (after : List ℕ) (ending : Ending) →
    IsStand s at_front first [] [] → ArePulled s code first pulls → IsPulled s code (last_stand first pulls) last after → EndsCode last.pause after ending →
    (xs : List ℤ) × (used : ℕ) × GiveInParts s first (pulls ++ last ∷ []) xs × Decoded s (bits_of code) None xs ending used

-- Pieces were pulled from the front of a code until there were n samples, and no block more. Then the first n are those that the code decodes to with the count n, which is reached.
abbrev pub EnoughIsDecoding : Type 0
EnoughIsDecoding = (s : Parameters) (code : List ℕ) (first : Stand) (pulls : List Pull) (n : ℕ) →
    IsStand s at_front first [] [] → ArePulled s code first pulls → n ≤ (last_stand first pulls).samples → (last_stand first pulls).samples < n + s.block →
    (xs : List ℤ) × GiveInParts s first pulls xs × Decoded s (bits_of code) (Some n) (take n xs) Reached (last_stand first pulls).bits

-- One of the intervals of a code begins there, after these samples.
pub record IsPlace (s : Parameters) (code : List ℕ) (o : Origin) (before : List ℤ) : Type 0 where
  pub count : o.samples ≡ length before
  pub begins : BeginsInterval s (bits_of code) before o.bits

-- The front of a code is such a place.
abbrev pub FrontIsPlace : Type 0
FrontIsPlace = (s : Parameters) (code : List ℕ) → IsPlace s code at_front []

-- Pieces were pulled from such a place, and the last of them to where the code ends. Then the samples of all calls are those that the
-- whole code decodes to after the samples before it, and it ends so.
abbrev pub SeekingIsDecoding : Type 0
SeekingIsDecoding = (s : Parameters) (code : List ℕ) (o : Origin) (before : List ℤ) (first : Stand) (pulls : List Pull) (last : Pull) (after : List ℕ) (ending : Ending) →
    IsPlace s code o before → IsStand s o first [] [] → ArePulled s code first pulls → IsPulled s code (last_stand first pulls) last after → EndsCode last.pause after ending →
    (xs : List ℤ) × (used : ℕ) × GiveInParts s first (pulls ++ last ∷ []) xs × Decoded s (bits_of code) None (before ++ xs) ending used

-- Pieces were pulled from there until there were n samples, and no block more. Then the first n are those that the whole code decodes to
-- after the samples before them, with the count of all these, which is reached.
abbrev pub EnoughAfterIsDecoding : Type 0
EnoughAfterIsDecoding = (s : Parameters) (code : List ℕ) (o : Origin) (before : List ℤ) (first : Stand) (pulls : List Pull) (n : ℕ) →
    IsPlace s code o before → IsStand s o first [] [] → ArePulled s code first pulls → o.samples + n ≤ (last_stand first pulls).samples → (last_stand first pulls).samples < o.samples + n + s.block →
    (xs : List ℤ) × GiveInParts s first pulls xs × Decoded s (bits_of code) (Some (o.samples + n)) (before ++ take n xs) Reached (last_stand first pulls).bits

-- the place that a stand tells
abbrev pub place_at : Stand → Origin
place_at stand = record { bits = stand.bits; samples = stand.samples }

-- Where pieces were pulled up to the end of an interval, the stand tells the place at which the next begins.
abbrev pub StandsTellPlaces : Type 0
StandsTellPlaces = (s : Parameters) (code : List ℕ) (o : Origin) (before : List ℤ) (first : Stand) (pulls : List Pull) →
    IsPlace s code o before → IsStand s o first [] [] → ArePulled s code first pulls → (last_stand first pulls).block ≡ 0 → (last_stand first pulls).run ≡ 0 →
    (xs : List ℤ) × GiveInParts s first pulls xs × IsPlace s code (place_at (last_stand first pulls)) (before ++ xs)

-- the place that a seam tells, where so many bytes were written
abbrev pub place_after : Seam → ℕ → Origin
place_after seam written = record { bits = 8 * written + seam.waiting_bits; samples = seam.samples }

-- Where pieces of an input were fed up to the end of an interval, the seam tells, with the number of bytes written so far, the place at which
-- the next begins in the code of all samples, whatever the others are.
abbrev pub SeamsTellPlaces : Type 0
SeamsTellPlaces = (s : Parameters) (input : List ℕ) (seam : Seam) (pieces : List Piece) →
    IsSeam s seam [] → AreFed s input seam pieces → (last_seam seam pieces).start ≡ 0 →
    (xs : List ℤ) × (bytes rest : List ℕ) × (input ≡ spellings s xs ++ rest) × TakeInParts pieces bytes ×
    ((ys : List ℤ) → IsPlace s (output s (xs ++ ys)) (place_after (last_seam seam pieces) (length bytes)) xs)
