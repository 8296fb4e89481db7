-- What the worked examples of the lower crates cite.
pub mod Examples
