-- What contracts of this crate cite: settings, samples in bytes, residuals, and the numbers of pairs of these.
pub mod Laws
pub mod Limits
pub mod NearNumbers
pub mod Pairs
pub mod Parameters
pub mod PatternLanes
pub mod Places
pub mod Residuals
pub mod Settings
pub mod Spelling
pub mod UnusedBits
