-- What bits stand for: a relation between bits and samples, with no word on how they are read (own rules on how decoding ends).
use Rattle.std.specs.Prelude.{◌≡◌, ◌≢◌, ℕ, ◌+◌, ◌-◌, ◌*◌, ◌<◌, ◌≤◌, Bool, true, false, List, [], ◌∷◌, ◌++◌, length, take, All, Contains, Option, Some, None, IfSome, IsSomeAnd, ℤ, pos, ⊤}
use Rattle.rice_samples.specs.Parameters.{Parameters, IsSample}
use Rattle.rice_code.specs.{code.Blocks.blocks_from, code.CodedDataSets.CodedDataSet, code.CodedDataSets.bits_of_set, code.Layout.block_after, code.Layout.Lies}
use Rattle.rice_code.specs.code.Forms.{IsForm, RunIsSound, ResidualsAreSound, blocks_in_all}

-- How decoding ends: with the asked samples, with the code, inside a coded data set, before a run that passes its segment, or before a block with a residual that is too large.
pub data Ending : Type 0 where
  Reached : Ending
  Ended : Ending
  CutOff : Ending
  Past : Ending
  Large : Ending

-- the samples before block b are not yet as many as were asked for, or no number was asked for
abbrev pub IsWanted : Parameters → Option ℕ → ℕ → Type 0
IsWanted s asked b = IfSome asked (λ n. s.block * b < n)

-- each coded data set is needed, is one, and is sound, from block b on
abbrev pub AreTaken : Parameters → Option ℕ → ℕ → List CodedDataSet → Type 0
AreTaken s asked b [] = ⊤
AreTaken s asked b (d ∷ ds) = IsWanted s asked b × IsForm s b d × RunIsSound s b d × ResidualsAreSound s d × AreTaken s asked (block_after s b d) ds

-- `used` bits of the rest begin with a coded data set at block b of which P does not hold
pub record BeginsUnsound (s : Parameters) (b : ℕ) (rest : List Bool) (used : ℕ) (P : CodedDataSet → Type 0) : Type 0 where
  pub refused : CodedDataSet
  pub more : List Bool
  pub form : IsForm s b refused
  pub unsound : P refused → ⊥
  pub begins : rest ≡ bits_of_set s refused ++ more
  pub bits : used ≡ length (bits_of_set s refused)

-- at block b, with these bits left, decoding ends so, and uses so many of them
abbrev pub EndsWith : Parameters → Option ℕ → ℕ → List Bool → Ending → ℕ → Type 0
EndsWith s asked b rest Reached used = IsSomeAnd asked (λ n. n ≤ s.block * b) × (used ≡ 0)
EndsWith s asked b rest Ended used = IsWanted s asked b × All (λ bit. bit ≡ false) rest × (used ≡ length rest)
EndsWith s asked b rest CutOff used = IsWanted s asked b × Contains rest true × ((d : CodedDataSet) (more : List Bool) → IsForm s b d → rest ≢ bits_of_set s d ++ more) × (used ≡ length rest)
EndsWith s asked b rest Past used = IsWanted s asked b × BeginsUnsound s b rest used (RunIsSound s b)
EndsWith s asked b rest Large used = IsWanted s asked b × BeginsUnsound s b rest used (ResidualsAreSound s)

-- the samples from block b on, cut to those that were asked for
abbrev pub cut_to : Parameters → Option ℕ → ℕ → List ℤ → List ℤ
cut_to s None b xs = xs
cut_to s (Some n) b xs = take (n - s.block * b) xs

-- The bits, decoded from block b on, after `position` bits and the sample p: sound coded data sets with their padding as far as they go, and what the rest is.
-- The samples are those that make the blocks of these coded data sets.
pub record DecodedFrom (s : Parameters) (b position : ℕ) (p : ℤ) (bits : List Bool) (asked : Option ℕ) (samples : List ℤ) (ending : Ending) (used : ℕ) : Type 0 where
  pub sets : List CodedDataSet
  pub front : List Bool
  pub rest : List Bool
  pub parts : bits ≡ front ++ rest
  pub lie : Lies s b position sets front
  pub taken : AreTaken s asked b sets
  pub all : List ℤ
  pub legal : All (IsSample s) all
  pub len : length all ≡ s.block * length (blocks_in_all s b sets)
  pub blocks : blocks_from s b p (length (blocks_in_all s b sets)) all ≡ blocks_in_all s b sets
  pub asked_for : samples ≡ cut_to s asked b all
  pub last : ℕ
  pub ends : EndsWith s asked (b + length (blocks_in_all s b sets)) rest ending last
  pub bits_used : used ≡ length front + last

-- all bits, decoded
abbrev pub Decoded : Parameters → List Bool → Option ℕ → List ℤ → Ending → ℕ → Type 0
Decoded s bits asked samples ending used = DecodedFrom s 0 0 (pos 0) bits asked samples ending used
