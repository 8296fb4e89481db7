-- Sums, tests and pairs of the residuals of a block.
pub mod FallingSums
pub mod EightsInLanes
pub mod PairNumbers
pub mod CodesOfPairsInTurn
