-- The proofs of the command: its lemmas, and answers in folders that have the path of their function.
pub mod OneAfterLemmas
pub mod OutsideLemmas
pub mod TrialLemmas
