-- The code: its blocks, coded data sets and their layout.
pub mod BlocksByPlaceAlone
pub mod RepeatedSamples
pub mod CodeGoesOn
pub mod Layouts
pub mod OnesOfForms
pub mod FormsReadInOneWay
pub mod SegmentLayouts
pub mod SegmentPlaces
pub mod SegmentsOneByOne
pub mod SoundBlocks
pub mod WholeBlocks
pub mod WholeBytes
