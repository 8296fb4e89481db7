-- The lemmas of the proofs, by what they speak of.
pub mod BytesOfPulledPiece
pub mod FedPlaces
pub mod RoomOfPieceSuffices
pub mod FedOutlets
pub mod WrittenMemory
pub mod EncodedAtOnce
pub mod PulledPieces
pub mod ReturnedSamples
pub mod RoomOfCallSuffices
