-- The lemmas of the proofs, by what they speak of.
pub mod code
pub mod cost
pub mod meaning
pub mod encode
pub mod decode
