-- Which samples a coder has taken, and the code that each call appends.
use Rattle.std.specs.Prelude.{◌≡◌, ℕ, ◌+◌, ◌*◌, ◌%◌, ◌<◌, ◌≤◌, Bool, true, if◌then◌else◌, List, [], ◌∷◌, ◌++◌, length, Option, Some, None, ℤ, pos}
use Rattle.std.specs.List.{AllByRecursion}
use Rattle.rice_samples.specs.{Places.place, Places.begins_segment, Places.is_reference, Places.blocks_left, Residuals.pattern, Residuals.residuals, Residuals.last_of}
use Rattle.rice_samples.specs.Parameters.{Parameters, IsLegal, IsSample}
use Rattle.rice_code.specs.{code.Code.code, code.Code.code_bits, code.Code.complete_samples, CoderSteps.least_steps, CoderSteps.most_steps, encode.OpenSegment.CoderState}

-- the reference of block b, which has these samples
abbrev pub reference_in : Parameters → ℕ → List ℤ → Option ℕ
reference_in s b [] = None
reference_in s b (x ∷ xs) = if is_reference s b then Some (pattern s x) else None

-- the samples before block b are coded, and those from there on are held
pub record HasCodedBefore (coder : CoderState) (b : ℕ) (coded held : List ℤ) : Type 0 where
  pub legal : IsLegal coder.setting
  pub samples : AllByRecursion (IsSample coder.setting) (coded ++ held)
  pub whole : length coded ≡ coder.setting.block * b
  pub place : place coder.setting b ≡ coder.start
  pub begins : begins_segment coder.setting b ≡ true
  pub few : length held ≤ coder.setting.block * blocks_left coder.setting b
  pub previous : coder.previous ≡ last_of (pos 0) (coded ++ held)
  pub residuals : coder.residuals ≡ residuals coder.setting (coder.setting.block * b) (last_of (pos 0) coded) held
  pub reference : coder.reference ≡ reference_in coder.setting b held

-- the coder has taken these samples
pub record HasTaken (coder : CoderState) (samples : List ℤ) : Type 0 where
  pub block : ℕ
  pub coded : List ℤ
  pub held : List ℤ
  pub parts : samples ≡ coded ++ held
  pub holds : HasCodedBefore coder block coded held
  pub short : length held < coder.setting.block * blocks_left coder.setting block

-- each coder has taken some samples
pub record IsCoder (coder : CoderState) : Type 0 where
  pub samples : List ℤ
  pub taken : HasTaken coder samples

-- the code of whole segments
abbrev pub complete_code : Parameters → List ℤ → List Bool
complete_code s xs = code s (complete_samples s xs)

-- where intervals are padded, the sink has as many bits of a byte as the code of these samples
abbrev pub IsAlignedWith : Parameters → List ℤ → List Bool → Type 0
IsAlignedWith s xs sink = s.pad ≡ true → length sink % 8 ≡ length (code s xs) % 8

-- the bits that are appended make the code of the samples xs that of ys
pub record AppendsCode (s : Parameters) (xs ys : List ℤ) (old new : List Bool) : Type 0 where
  pub bits : List Bool
  pub appended : new ≡ old ++ bits
  pub completes : code s ys ≡ code s xs ++ bits

-- the steps grow from those of the samples xs to those of ys, and by `more` beside them
pub record TakesSteps (s : Parameters) (xs ys : List ℤ) (more old new : ℕ) : Type 0 where
  pub least : old + more + least_steps s ys ≤ new + least_steps s xs
  pub most : new + most_steps s xs ≤ old + more + most_steps s ys

-- the code of the samples xs becomes that of ys, which is `count` bits longer, padding aside
pub record AddsCode (s : Parameters) (xs ys : List ℤ) (old new : List Bool) (count more meter_old meter_new : ℕ) : Type 0 where
  pub code_is : IsAlignedWith s xs old → AppendsCode s xs ys old new
  pub bits : code_bits s ys ≡ code_bits s xs + count
  pub steps : TakesSteps s xs ys more meter_old meter_new

-- a coder takes more samples, a step for each, and the code of the segments that they complete is appended
pub record PushesSamples (old new : CoderState) (samples : List ℤ) (sink_old sink_new : List Bool) (count meter_old meter_new : ℕ) : Type 0 where
  pub setting : new.setting ≡ old.setting
  pub taken : (xs : List ℤ) → HasTaken old xs → HasTaken new (xs ++ samples)
  pub adds : (xs : List ℤ) → HasTaken old xs →
      AddsCode old.setting (complete_samples old.setting xs) (complete_samples old.setting (xs ++ samples)) sink_old sink_new count (length samples) meter_old meter_new

-- these samples complete no segment, after those that the coder has taken
abbrev pub CompletesNone : CoderState → List ℤ → Type 0
CompletesNone coder ys = (xs : List ℤ) → HasTaken coder xs → complete_samples coder.setting (xs ++ ys) ≡ complete_samples coder.setting xs
