-- What contracts of this crate cite: what `encode` and `decode` do, at once and in pieces, and their states between.
pub mod DevicesInCalls
pub mod Decodes
pub mod DecodingState
pub mod Encodes
pub mod EncodingState
pub mod Feeding
pub mod Laws
pub mod Pulling
pub mod BufferedBytes
