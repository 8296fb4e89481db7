-- Vectors of numbers: ranks, levels and samples in lanes.
pub mod HalfLanes
pub mod JoinedPartsInLanes
pub mod LaneRanks
pub mod LanesOfWholeBytes
pub mod LevelsInLanes
pub mod LevelsSpelledInByteLanes
pub mod NearEights
pub mod NearLanes
pub mod NearVectors
pub mod NumbersInLanes
pub mod OneVector
pub mod RankedLanes
pub mod RanksForTurns
pub mod RestoredLevels
pub mod SumsInLanes
pub mod WordsOfBytes
