-- What the worked examples cite.
pub mod Examples
