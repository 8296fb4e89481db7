-- Spelling, and reading samples from bytes.
pub mod BytesOfWords
pub mod ReadSamples
pub mod LevelPatterns
pub mod SamplesInTurn
pub mod UnusedBits
pub mod SpellingLemmas
pub mod SpellingLengths
