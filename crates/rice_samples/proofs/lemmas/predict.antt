-- Residuals and patterns, and back.
pub mod InverseRanksAndPatterns
pub mod DistinctPatternsAndResiduals
pub mod RankLaws
pub mod Ranks
pub mod ResidualLemmas
pub mod Ways
