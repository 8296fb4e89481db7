-- The lemmas of the proofs, by what they speak of.
pub mod bits
pub mod device
pub mod read
