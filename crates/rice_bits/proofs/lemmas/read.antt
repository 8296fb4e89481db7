-- What a reader takes, and where it stops.
pub mod BlankBits
pub mod RefilledBytes
pub mod JoinedPartsLemmas
pub mod ReaderLemmas
pub mod WindowLemmas
