-- The lemmas of this crate.
pub mod Sources
pub mod Begun
pub mod Periods
pub mod Ends
pub mod Legal
pub mod Concluded
