-- Looks at buffered bits: ends, numbers of zeros, and words, in lanes.
pub mod BitsAhead
pub mod EightWordsLemmas
pub mod EndsAndGapsLemmas
pub mod EndsInLanes
pub mod GapsInLanes
pub mod SequencesAhead
pub mod WordsInBytes
pub mod WordsInTurn
pub mod WordsInTwoBytes
