-- Samples in bytes whose unused bits are anything.
use Rattle.std.specs.Prelude.{◌≡◌, ℕ, ◌*◌, ◌%◌, ◌^◌, ◌<◌, ◌++◌, List, length, All, map, flat_map, ℤ}
use Rattle.rice_samples.specs.{Parameters.Parameters, Parameters.IsSample, Parameters.value_count, Parameters.width, Spelling.spelling, Spelling.spellings, Spelling.ordered_bytes, Residuals.pattern}

-- the bytes of words, each of the width of a sample
abbrev pub bytes_of_words : Parameters → List ℕ → List ℕ
bytes_of_words s words = flat_map (ordered_bytes s.msb (width s)) words

-- A word became the spelling of the sample whose pattern is its lowest n bits.
pub record SpellsOne (s : Parameters) (old new : List ℕ) : Type 0 where
  pub word : ℕ
  pub sample : ℤ
  pub carries : old ≡ ordered_bytes s.msb (width s) word
  pub fits : word < 2 ^ (8 * width s)
  pub legal : IsSample s sample
  pub pattern_is : pattern s sample ≡ word % value_count s
  pub spelled : new ≡ spelling s sample

-- Each word became such a spelling. Bytes at the end that are too few for a word stay as they are.
pub record SpellsPatterns (s : Parameters) (old new : List ℕ) : Type 0 where
  pub words : List ℕ
  pub samples : List ℤ
  pub rest : List ℕ
  pub carries : old ≡ bytes_of_words s words ++ rest
  pub fit : All (λ w. w < 2 ^ (8 * width s)) words
  pub short : length rest < width s
  pub legal : All (IsSample s) samples
  pub patterns : map (pattern s) samples ≡ map (λ w. w % value_count s) words
  pub spelled : new ≡ spellings s samples ++ rest
