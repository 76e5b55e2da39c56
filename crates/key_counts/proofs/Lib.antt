-- The lemmas of this crate.
pub mod Lists
pub mod OneState
pub mod Pieces
pub mod Sums
pub mod Walks
