-- The lemmas of the proofs, by what they speak of.
pub mod BlocksAhead
pub mod BlocksTaken
pub mod CopiedBlocks
pub mod FirstLanes
pub mod HighParts
pub mod encode
pub mod LaneLaws
pub mod Pairs
pub mod Residuals
pub mod Rows
pub mod WordsOneByOne
pub mod ahead
pub mod vectors
