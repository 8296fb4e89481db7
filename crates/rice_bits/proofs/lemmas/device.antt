-- What outlets have taken.
pub mod OutletLemmas
