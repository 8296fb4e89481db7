-- The proofs of this crate: its lemmas, and answers in folders that have the path of their function.
pub mod lemmas
pub mod Words
