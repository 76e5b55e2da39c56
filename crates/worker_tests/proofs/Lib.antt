-- The lemmas of this crate.
pub mod Keeping
pub mod Sessions
