-- How many bits and looks the options take.
pub mod AddedCodeBound
pub mod BlockBounds
pub mod WhereSetsEnd
pub mod CostIsLength
pub mod LeastCode
pub mod LeastRuns
pub mod BestSplitsPaid
pub mod PaddingBounds
pub mod PairsAreLonger
pub mod SplitSavings
pub mod CostsOfSmallerBlocks
