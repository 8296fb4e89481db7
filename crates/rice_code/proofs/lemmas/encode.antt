-- The coder. `PushedCode` joins what a push does with the code; begin there.
pub mod ChosenSets
pub mod HeldSamples
pub mod OpenSegments
pub mod OptionTexts
pub mod PartsInTurn
pub mod PendingRuns
pub mod PushedCode
pub mod ChoiceLemmas
pub mod SegmentBlocksInTurn
pub mod SeveralSamplesHeld
pub mod PushedSamples
