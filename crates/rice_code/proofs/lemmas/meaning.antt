-- What bits stand for: one thing, always something, and the samples that were coded.
pub mod DecodingBeginsAfresh
pub mod AllBytesAreDecoded
pub mod CoveredBlocks
pub mod DecodingGoesOn
pub mod DecodingByPlacesAlone
pub mod IntervalsStandAlone
pub mod NoShorterCode
pub mod DecodedInOneWay
pub mod OutputsRecognised
pub mod FormsAtFront
pub mod SamplesAreReturned
pub mod SentSetsAreTaken
pub mod DecodingWitnesses
