-- What contracts of the command cite: its words, its plan, what it does, the system outside, and its streams.
pub mod OneAfter
pub mod Outside
pub mod Performs
pub mod Streams
pub mod WholeCommand
