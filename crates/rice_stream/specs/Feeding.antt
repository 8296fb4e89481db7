-- Encoding piece by piece: where the code stands between two calls, and what each call writes.
use Rattle.std.specs.Prelude.{◌≡◌, ℕ, ◌+◌, ◌*◌, ◌/◌, ◌^◌, ◌<◌, ◌≤◌, ◌⊎◌, Bool, List, [], ◌∷◌, ◌++◌, length, drop, All, Option, Some, None, Result, Ok, Err, ℤ}
use Rattle.rice_bits.specs.{Bits.bits_in_bytes, Bits.word, OutletRoom.Room}
use Rattle.rice_code.specs.{code.Code.output, code.Code.early_output, encode.Coder.complete_code, encode.OpenSegment.state_between}
use Rattle.rice_samples.specs.Spelling.{Reads, spellings, SpellingEnd, EndsSpelling, NoSpelling, TooFew}
use Rattle.rice_samples.specs.{Limits.most_input, Parameters.Parameters, Parameters.IsSample, Parameters.width, Places.cut}
use Rattle.rice_stream.specs.declared.outcome.Fault.TheVariants.{Write, TooLong, SampleOutOfRange, SampleCut}
use Rattle.rice_stream.specs.{declared.encoding.Encoding.Encoding, Encodes.ReportsTaken, Encodes.ReportsAll, declared.outcome.Fault.Fault, declared.outcome.Report.Report}
use Rattle.rice_stream.specs.declared.seam.Seam.{Seam}
use Rattle.rice_stream.specs.EncodingState.{standing_between, EncodingValue, CountsSamples, Beginning, Follows, FollowsBetween}
use Rattle.rice_fast.specs.OpenBlocks.{Standing}

-- the encoding that goes on at a seam
abbrev pub encoding_at : Parameters → Seam → EncodingValue
encoding_at s seam = record { coder = state_between s seam.start seam.previous; sink = word seam.waiting_bits seam.waiting; meter = seam.steps; samples = seam.samples; bits = seam.bits }

-- The samples make whole segments, and the seam stands after their code: it counts them, and holds the bits of the byte that is not whole.
pub record IsSeam (s : Parameters) (seam : Seam) (xs : List ℤ) : Type 0 where
  pub counts : CountsSamples s (encoding_at s seam) xs
  pub waiting : word seam.waiting_bits seam.waiting ≡ drop (bits_in_bytes (length (complete_code s xs))) (complete_code s xs)
  pub few : seam.waiting_bits < 8
  pub fits : seam.waiting < 2 ^ seam.waiting_bits
  pub limit : width s * length xs ≤ most_input

-- it is one, after some samples
abbrev pub IsSomeSeam : Parameters → Seam → Type 0
IsSomeSeam s seam = (xs : List ℤ) × IsSeam s seam xs

-- an encoding stands there, but for the bits that fill no byte
pub record StandsAt {C : Type 0} (stands : C → List Bool → ℕ → Standing → Type 0) (s : Parameters) (seam : Seam) (e : Encoding C) : Type 0 where
  pub coder : (bits : List Bool) (steps : ℕ) → stands e.coder bits steps (standing_between s seam.start seam.previous bits steps)
  pub sink : e.sink ≡ []
  pub steps : e.meter ≡ seam.steps
  pub samples : e.samples ≡ seam.samples
  pub bits : e.bits ≡ seam.bits

-- an outlet takes what follows the whole bytes of the code of these samples
abbrev pub after : Parameters → List ℤ → Option Room → Beginning
after s xs now = record { before = early_output s xs; state = now }

-- the bytes of these samples, and others after them
abbrev pub bytes_in_all : Parameters → List ℤ → List ℕ → ℕ
bytes_in_all s xs bytes = width s * length xs + length bytes

-- the samples of the segments that are whole with those of these bytes, by their number
abbrev pub samples_to_take : Parameters → List ℤ → List ℕ → ℕ
samples_to_take s xs bytes = cut s (length xs + length bytes / width s)

-- Unless a code is too long, the samples so far and these bytes are within its limit.
module _ (s : Parameters) (xs : List ℤ) (bytes : List ℕ) (old new : Option Room) where
  -- Of the samples that the bytes spell those of the complete segments are taken, and the whole bytes of their code are written.
  pub record TakesPiece (seam : Seam) : Type 0 where
    pub limit : bytes_in_all s xs bytes ≤ most_input
    pub more : List ℤ
    pub rest : List ℕ
    pub reads : Reads s bytes more rest
    pub all : length (xs ++ more) ≡ samples_to_take s xs bytes
    pub stands : IsSeam s seam (xs ++ more)
    pub writes : Follows (after s xs old) new (early_output s (xs ++ more))

  -- The bytes spell these samples, and then they end so. The code of the complete segments is written.
  pub record MeetsEnd (end : SpellingEnd) (more : List ℤ) (index : ℕ) : Type 0 where
    pub limit : bytes_in_all s xs bytes ≤ most_input
    pub rest : List ℕ
    pub reads : Reads s bytes more rest
    pub ends : EndsSpelling s rest end
    pub index_is : index ≡ length (xs ++ more)
    pub writes : Follows (after s xs old) new (early_output s (xs ++ more))

  -- the last of these samples completes a segment, and the outlet fails before all of its code is written
  pub record WantsRoom (more : List ℤ) (last : ℤ) : Type 0 where
    pub limit : bytes_in_all s xs bytes ≤ most_input
    pub rest : List ℕ
    pub reads : Reads s bytes (more ++ last ∷ []) rest
    pub writes : FollowsBetween (after s xs old) new (early_output s (xs ++ more)) (early_output s ((xs ++ more) ++ last ∷ []))

  -- the samples so far and these bytes pass the limit, and nothing is done
  pub record PassesAll : Type 0 where
    pub passes : most_input < bytes_in_all s xs bytes
    pub untouched : new ≡ old

  -- What becomes of a piece of the samples. None but those to take is looked at.
  abbrev pub EncodesMore : Result Seam Fault → Type 0
  EncodesMore (Ok seam) = TakesPiece seam
  EncodesMore (Err (SampleOutOfRange index)) = (more : List ℤ) × MeetsEnd NoSpelling more index × (index < samples_to_take s xs bytes)
  EncodesMore (Err Write) = (more : List ℤ) × (last : ℤ) × WantsRoom more last
  EncodesMore (Err TooLong) = PassesAll
  EncodesMore (Err _) = ⊥

  -- the bytes spell these samples and no others
  pub record AreAll (more : List ℤ) : Type 0 where
    pub limit : bytes_in_all s xs bytes ≤ most_input
    pub spelled : bytes ≡ spellings s more
    pub legal : All (IsSample s) more

  -- what becomes of the last piece
  abbrev pub EncodesRest : Report → Option Fault → Type 0
  EncodesRest r None = (more : List ℤ) × AreAll more × ReportsAll s r (xs ++ more) × Follows (after s xs old) new (output s (xs ++ more))
  EncodesRest r (Some (SampleOutOfRange index)) = (more : List ℤ) × MeetsEnd NoSpelling more index × ReportsTaken s r (xs ++ more)
  EncodesRest r (Some (SampleCut index)) = (more : List ℤ) × MeetsEnd TooFew more index × ReportsTaken s r (xs ++ more)
  EncodesRest r (Some Write) =
      ((more : List ℤ) × (last : ℤ) × WantsRoom more last × ReportsTaken s r ((xs ++ more) ++ last ∷ []))
      ⊎ ((more : List ℤ) × AreAll more × ReportsAll s r (xs ++ more) × FollowsBetween (after s xs old) new (early_output s (xs ++ more)) (output s (xs ++ more)))
  EncodesRest r (Some TooLong) = PassesAll × ReportsTaken s r xs
  EncodesRest r (Some _) = ⊥

-- whatever samples the seam is of, this becomes of a piece after them
abbrev pub EncodesOn : Parameters → Seam → List ℕ → (old new : Option Room) → Result Seam Fault → Type 0
EncodesOn s seam bytes old new result = (xs : List ℤ) → IsSeam s seam xs → EncodesMore s xs bytes old new result

-- and of the last piece
abbrev pub EncodesToEnd : Parameters → Seam → List ℕ → (old new : Option Room) → Report → Option Fault → Type 0
EncodesToEnd s seam bytes old new r fault = (xs : List ℤ) → IsSeam s seam xs → EncodesRest s xs bytes old new r fault
