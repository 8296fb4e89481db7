-- The code itself. A reader trusts these definitions; the contracts' numbers of bits, samples and steps rest on some of Bounds, CoderSteps
-- and Limits besides. SoundBlocks is for laws and proofs: `encode` and `decode` promise nothing by it.
pub mod Blocks
pub mod Choice
pub mod Code
pub mod CodedDataSets
pub mod Decoded
pub mod Forms
pub mod Layout
pub mod SoundBlocks
