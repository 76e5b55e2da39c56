-- The lemmas of this crate.
pub mod ServingSetups
pub mod Sends
pub mod InTurn
pub mod Resting
