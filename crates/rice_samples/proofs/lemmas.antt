-- The lemmas of the proofs, by what they speak of.
pub mod setting
pub mod bytes
pub mod predict
pub mod blocks
