-- What the parts of the coder and of the pass say to each other: the open segment and its parts, buffered blocks, their fields, and rows of
-- their samples.
pub mod BlocksAhead
pub mod FieldsAhead
pub mod LevelsOfParts
pub mod OpenBlocks
pub mod Parts
pub mod ahead
