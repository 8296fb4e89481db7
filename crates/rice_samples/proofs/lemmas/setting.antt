-- Settings: the values of samples, and the places of blocks.
pub mod CutLemmas
pub mod ValuesAboveLeast
pub mod LevelsOfSamples
pub mod PlaceLemmas
pub mod BitsOfLanes
pub mod ValuesAtLevels
