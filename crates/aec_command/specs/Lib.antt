-- What contracts of this crate cite: the command line's options, and the plan that its words ask for.
pub mod CommandLine
pub mod Plan
pub mod TestPlan
