-- What encoding does: each way in which it ends.
use Rattle.std.specs.Io.KnownBytes.{IsAtEnd}
use Rattle.std.specs.Prelude.{◌≡◌, ◌≢◌, ℕ, ◌+◌, ◌-◌, ◌*◌, ◌<◌, ◌≤◌, ◌⊎◌, List, length, take, Option, Some, None, ℤ}
use Rattle.rice_bits.specs.{Limits.most_at_once, OutletRoom.Room}
use Rattle.rice_samples.specs.{Spelling.Reads, Spelling.Spells, Spelling.SpellingEnd, Spelling.AtEnd, Spelling.NoSpelling, Spelling.TooFew, Limits.most_input, Parameters.Parameters, Parameters.width}
use Rattle.rice_code.specs.code.Code.{code_bits, output, early_output, complete_samples}
use Rattle.rice_code.specs.{Bounds.bit_bound, Bounds.step_bound, Bounds.amortised_step_bound, CoderSteps.least_steps, CoderSteps.most_steps, code.Blocks.fill_count}
use Rattle.rice_stream.specs.DevicesInCalls.{Call, Happens, StopsBetween, PassesLimit, IsWithinLimit}
use Rattle.rice_stream.specs.declared.outcome.Fault.TheVariants.{Read, Write, TooLong, SampleOutOfRange, SampleCut}
use Rattle.rice_stream.specs.{declared.outcome.Report.Report, declared.outcome.Fault.Fault}

-- the report of samples of which those of the complete segments are coded
pub record ReportsTaken (s : Parameters) (r : Report) (xs : List ℤ) : Type 0 where
  pub samples : r.samples ≡ length xs
  pub bits : r.bits ≡ code_bits s (complete_samples s xs)
  pub least : length xs + least_steps s (complete_samples s xs) ≤ r.steps
  pub most : r.steps ≤ length xs + most_steps s (complete_samples s xs)

-- the report of samples that are all coded, with those that fill the last block
pub record ReportsAll (s : Parameters) (r : Report) (xs : List ℤ) : Type 0 where
  pub samples : r.samples ≡ length xs
  pub bits : r.bits ≡ code_bits s xs
  pub least : length xs + fill_count s (length xs) + least_steps s xs ≤ r.steps
  pub most : r.steps ≤ length xs + fill_count s (length xs) + most_steps s xs

module _ (s : Parameters) where
  -- the code of all samples is written
  pub record LeavesAll (c : Call) (r : Report) (xs : List ℤ) : Type 0 where
    pub written : c.written ≡ output s xs
    pub reports : ReportsAll s r xs

  -- the whole bytes of the code of the complete segments are written
  pub record LeavesEarly (c : Call) (r : Report) (xs : List ℤ) : Type 0 where
    pub written : c.written ≡ early_output s xs
    pub reports : ReportsTaken s r xs

  -- The outlet failed after the last of these samples: all before it is written, and not all that it completes.
  pub record FailsAfter (c : Call) (r : Report) (xs : List ℤ) : Type 0 where
    pub given : (rest : List ℕ) × Reads s c.given xs rest
    pub some : 1 ≤ length xs
    pub reports : ReportsTaken s r xs
    pub stops : StopsBetween (early_output s (take (length xs - 1) xs)) (early_output s xs) c.written

  -- The outlet failed at the end of these samples: all before it is written, and not all of the code.
  pub record FailsAtEnd (c : Call) (r : Report) (xs : List ℤ) : Type 0 where
    pub given : Spells s c.given xs AtEnd
    pub end : IsAtEnd c.left
    pub reports : ReportsAll s r xs
    pub stops : StopsBetween (early_output s xs) (output s xs) c.written

  -- the samples of the bytes, after which at most a part of one more is left
  abbrev pub SpellsSoFar : List ℕ → List ℤ → Type 0
  SpellsSoFar bytes xs = (stop : SpellingEnd) × Spells s bytes xs stop × (stop ≢ NoSpelling)

  -- The outcome for the samples xs. Without a fault these are all that were given, and their code is written.
  abbrev pub EndsEncoding : Option Fault → Call → Report → List ℤ → Type 0
  EndsEncoding None c r xs = Spells s c.given xs AtEnd × IsAtEnd c.left × LeavesAll c r xs
  EndsEncoding (Some (SampleOutOfRange index)) c r xs = Spells s c.given xs NoSpelling × (index ≡ length xs) × LeavesEarly c r xs
  EndsEncoding (Some (SampleCut index)) c r xs = Spells s c.given xs TooFew × IsAtEnd c.left × (index ≡ length xs) × LeavesEarly c r xs
  EndsEncoding (Some Read) c r xs = SpellsSoFar c.given xs × LeavesEarly c r xs
  EndsEncoding (Some TooLong) c r xs = ((front : List ℕ) × PassesLimit most_input c.given front × SpellsSoFar front xs) × LeavesEarly c r xs
  EndsEncoding (Some Write) c r xs = (length c.given < r.samples * width s + most_at_once) × (FailsAfter c r xs ⊎ FailsAtEnd c r xs)
  EndsEncoding (Some _) c r xs = ⊥

  -- What the call did, for each outcome.
  pub record Encodes (c : Call) (r : Report) (fault : Option Fault) : Type 0 where
    pub samples : List ℤ
    pub ends : EndsEncoding fault c r samples
    pub limit : IsWithinLimit most_input fault c.given
    -- one read gives at most 4,096 bytes, and its samples are taken before the next
    pub ahead : length c.given ≤ r.samples * width s + most_at_once

-- The call of which the devices tell encodes so: what the intake has left before and after, and what the outlet took.
abbrev pub EncodesBetween : Parameters → (left left_new : Option (List ℕ)) → (taken taken_new : Option Room) → Report → Option Fault → Type 0
EncodesBetween s left left_new taken taken_new r fault = (c : Call) × Happens left left_new taken taken_new c × Encodes s c r fault

-- the report's bounds, at every exit
pub record EncodesWithin (s : Parameters) (r : Report) : Type 0 where
  pub bits : r.bits ≤ bit_bound s r.samples
  pub at_least : r.bits + r.samples ≤ r.steps
  pub at_most : r.steps ≤ step_bound s r.samples
  -- whatever the number of split options
  pub amortised : r.steps ≤ amortised_step_bound s r.bits r.samples
