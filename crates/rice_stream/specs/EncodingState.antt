-- A coder at work: what it does with the bytes of samples, which samples it has taken, and what is written of their code.
use Rattle.std.specs.Prelude.{◌≡◌, ℕ, ◌+◌, ◌*◌, ◌<◌, ◌≤◌, Bool, true, false, List, [], ◌∷◌, ◌++◌, length, take, drop, Option, Some, None, Result, Ok, Err, ℤ}
use Rattle.rice_bits.specs.{Bits.bits_in_bytes, OutletRoom.Room, OutletRoom.Appends}
use Rattle.rice_code.specs.{code.Code.code_bits, code.Code.output, code.Code.early_output, code.Code.complete_samples, CoderSteps.least_steps, CoderSteps.most_steps, encode.OpenSegment.CoderState}
use Rattle.rice_code.specs.{encode.OpenSegment.state_between, encode.Coder.CompletesNone, encode.Coder.HasTaken, encode.Coder.PushesSamples, encode.Coder.complete_code}
use Rattle.rice_samples.specs.{Limits.most_input, Parameters.Parameters, Parameters.width, Spelling.Reads, Spelling.EndsSpelling, Spelling.IsNoSpelling, Spelling.NoSpelling}
use Rattle.rice_fast.specs.OpenBlocks.{Standing}
use Rattle.rice_stream.specs.declared.outcome.Fault.TheVariants.{Write, SampleOutOfRange}
use Rattle.rice_stream.specs.{DevicesInCalls.StopsBetween, declared.encoding.Encoding.Encoding, declared.outcome.Fault.Fault, declared.takes.Taken.Taken}

-- a coder that goes on between two segments
abbrev pub standing_between : Parameters → ℕ → ℤ → List Bool → ℕ → Standing
standing_between s start previous bits steps = record { coder = state_between s start previous; sink = bits; meter = steps }

-- code may be put ahead, and no segment is made whole; or no code is put ahead
abbrev pub ShowsCode : (ahead : Bool) → Standing → Standing → List Bool → Type 0
ShowsCode true m m_new sink_new = m_new.sink ≡ m.sink
ShowsCode false m m_new sink_new = m_new.sink ≡ sink_new

-- The first samples that the bytes spell are taken, and none only where the first bytes spell none.
pub record TakesSpelled (m m_new : Standing) (bytes : List ℕ) (sink_new : List Bool) (taken : Taken) : Type 0 where
  pub samples : List ℤ
  pub reads : Reads m.coder.setting bytes samples (drop (width m.coder.setting * taken.samples) bytes)
  pub number : length samples ≡ taken.samples
  pub none : taken.samples ≡ 0 → IsNoSpelling m.coder.setting bytes
  pub pushes : PushesSamples m.coder m_new.coder samples m.sink m_new.sink taken.bits m.meter m_new.meter
  pub before_last : (n : ℕ) → n < taken.samples → CompletesNone m.coder (take n samples)
  pub shows : ShowsCode taken.ahead m m_new sink_new

-- An encoding whose coder puts the code of a segment only when it is whole.
pub record EncodingValue : Type 0 where
  pub samples : ℕ
  pub coder : CoderState
  pub sink : List Bool
  pub meter : ℕ
  pub bits : ℕ

-- what contracts see of an encoding: its coder, its sink and its meter stand for these
pub record Sees {C : Type 0} (stands : C → List Bool → ℕ → Standing → Type 0) (e : Encoding C) (v : EncodingValue) : Type 0 where
  pub standing : stands e.coder e.sink e.meter (record { coder = v.coder; sink = v.sink; meter = v.meter })
  pub samples : v.samples ≡ e.samples
  pub bits : v.bits ≡ e.bits

-- the bits of the bytes that are whole
abbrev pub whole_part : List Bool → List Bool
whole_part bits = take (bits_in_bytes (length bits)) bits

-- The state of an outlet when it began, and the bytes of the same code that were written before.
pub record Beginning : Type 0 where
  pub before : List ℕ
  pub state : Option Room

-- nothing was written before
abbrev pub afresh : Option Room → Beginning
afresh state = record { before = []; state = state }

-- these bytes are written: those that were before, and the others by the outlet
pub record Follows (old : Beginning) (new : Option Room) (bytes : List ℕ) : Type 0 where
  pub more : List ℕ
  pub split : bytes ≡ old.before ++ more
  pub took : Appends old.state new more

-- an encoding has taken the samples, and counts them
pub record CountsSamples (s : Parameters) (e : EncodingValue) (xs : List ℤ) : Type 0 where
  pub setting : e.coder.setting ≡ s
  pub stands : HasTaken e.coder xs
  pub samples : e.samples ≡ length xs
  pub bits : e.bits ≡ code_bits s (complete_samples s xs)
  pub least : length xs + least_steps s (complete_samples s xs) ≤ e.meter
  pub most : e.meter ≤ length xs + most_steps s (complete_samples s xs)

-- and an outlet has taken the whole bytes of what is coded since its state was `old`
pub record IsEncodingOf (s : Parameters) (old : Beginning) (new : Option Room) (e : EncodingValue) (xs : List ℤ) : Type 0 where
  pub counts : CountsSamples s e xs
  pub sink : e.sink ≡ drop (bits_in_bytes (length (complete_code s xs))) (complete_code s xs)
  pub took : Follows old new (early_output s xs)

-- what an outlet takes that stops between two lists of bytes, of which some were written before
pub record FollowsBetween (old : Beginning) (new : Option Room) (from to : List ℕ) : Type 0 where
  pub written : List ℕ
  pub stops : StopsBetween from to written
  pub took : Follows old new written

-- an encoding has taken the samples and one more, and an outlet not all that it completes
pub record FailsAt (s : Parameters) (old : Beginning) (new : Option Room) (e : EncodingValue) (xs : List ℤ) (x : ℤ) : Type 0 where
  pub counts : CountsSamples s e (xs ++ x ∷ [])
  pub takes : FollowsBetween old new (early_output s xs) (early_output s (xs ++ x ∷ []))

-- an outlet has taken the code of all samples, or not all of it
abbrev pub WritesRest : Parameters → Beginning → Option Room → List ℤ → Option Fault → Type 0
WritesRest s old new xs None = Follows old new (output s xs)
WritesRest s old new xs (Some Write) = FollowsBetween old new (early_output s xs) (output s xs)
WritesRest s old new xs (Some _) = ⊥

-- an encoding that held xs takes what the bytes spell, up to a rest of which `IsEnd` holds
pub record TakesUpTo (IsEnd : List ℕ → Type 0) (s : Parameters) (old : Beginning) (new : Option Room) (e : EncodingValue) (xs : List ℤ) (bytes : List ℕ) : Type 0 where
  pub more : List ℤ
  pub rest : List ℕ
  pub reads : Reads s bytes more rest
  pub ends : IsEnd rest
  pub holds : IsEncodingOf s old new e (xs ++ more)

-- the outlet fails after one of the samples
pub record MeetsFailure (s : Parameters) (old : Beginning) (new : Option Room) (e : EncodingValue) (xs : List ℤ) (bytes : List ℕ) : Type 0 where
  pub more : List ℤ
  pub last : ℤ
  pub rest : List ℕ
  pub reads : Reads s bytes (more ++ last ∷ []) rest
  pub fails : FailsAt s old new e (xs ++ more) last

-- What becomes of the samples of some bytes, and of the outlet's failures. All are taken, or bytes that spell none are met, or the outlet fails.
abbrev pub Pushes : {T : Type 0} → Parameters → Beginning → Option Room → EncodingValue → List ℤ → List ℕ → Result T Fault → Type 0
Pushes s old new e xs bytes (Ok _) = TakesUpTo (λ rest. length rest < width s) s old new e xs bytes
Pushes s old new e xs bytes (Err (SampleOutOfRange index)) = TakesUpTo (λ rest. EndsSpelling s rest NoSpelling) s old new e xs bytes × (index ≡ e.samples)
Pushes s old new e xs bytes (Err Write) = MeetsFailure s old new e xs bytes
Pushes s old new e xs bytes (Err _) = ⊥

abbrev pub PushFails : {T : Type 0} → ℕ → ℕ → Result T Fault → Type 0
PushFails old new (Ok _) = new ≡ old
PushFails old new (Err Write) = new ≡ old + 1
PushFails old new (Err _) = new ≡ old

-- an encoding whose code an outlet has taken so far can take the samples of these bytes too
pub record CanPush {C : Type 0} (stands : C → List Bool → ℕ → Standing → Type 0) (s : Parameters) (taken : Option Room) (e : Encoding C) (bytes : List ℕ) : Type 0 where
  pub value : EncodingValue
  pub sees : Sees stands e value
  pub start : Beginning
  pub before : List ℤ
  pub holds : IsEncodingOf s start taken value before
  pub few : length before + length bytes ≤ most_input

-- its first samples are taken, and an outlet has taken what they complete
pub record TakesFirst (s : Parameters) (old : Beginning) (new : Option Room) (v : EncodingValue) (xs : List ℤ) (bytes : List ℕ) (count : ℕ) : Type 0 where
  pub more : List ℤ
  pub number : length more ≡ count
  pub reads : Reads s bytes more (drop (width s * count) bytes)
  pub holds : IsEncodingOf s old new v (xs ++ more)

-- what becomes of the first samples of some bytes
abbrev pub PushesSome : {E : Type 0} → Parameters → Beginning → Option Room → EncodingValue → List ℤ → List ℕ → Result ℕ E → Type 0
PushesSome s old new v xs bytes (Ok count) = TakesFirst s old new v xs bytes count × (count ≡ 0 → IsNoSpelling s bytes)
PushesSome s old new v xs bytes (Err _) = MeetsFailure s old new v xs bytes

-- and whatever samples an encoding held
abbrev pub PushesFirst : {C E : Type 0} → (C → List Bool → ℕ → Standing → Type 0) → Parameters → (taken taken_new : Option Room) → (e e_new : Encoding C) → List ℕ → Result ℕ E → Type 0
PushesFirst stands s taken taken_new e e_new bytes result = (v : EncodingValue) (old : Beginning) (xs : List ℤ) → Sees stands e v → IsEncodingOf s old taken v xs
    → (v_new : EncodingValue) × Sees stands e_new v_new × PushesSome s old taken_new v_new xs bytes result

-- whatever samples an encoding held, this becomes of those of these bytes
abbrev pub PushesBytes : {C T : Type 0} → (C → List Bool → ℕ → Standing → Type 0) → Parameters → (taken taken_new : Option Room) → (e e_new : Encoding C) → List ℕ → Result T Fault → Type 0
PushesBytes stands s taken taken_new e e_new bytes result = (v : EncodingValue) (old : Beginning) (xs : List ℤ) → Sees stands e v → IsEncodingOf s old taken v xs
    → (v_new : EncodingValue) × Sees stands e_new v_new × Pushes s old taken_new v_new xs bytes result
