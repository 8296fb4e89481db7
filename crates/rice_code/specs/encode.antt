-- What contracts see of the coder, and what its parts say to each other.
pub mod BitBuffer
pub mod SetOfChoice
pub mod Coder
pub mod HeldBlocks
pub mod OpenSegment
