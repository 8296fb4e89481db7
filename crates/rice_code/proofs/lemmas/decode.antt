-- The decoder.
pub mod SetsRead
pub mod DecoderLemmas
pub mod RowsOfFields
pub mod JoinedResiduals
pub mod OptionsRead
pub mod RestoredBlocks
pub mod SamplesRestored
