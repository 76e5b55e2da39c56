-- How much the vnodes of a hand-off store.
pub mod Looks
pub mod Partitions
pub mod Stored
pub mod Sums
pub mod Walk
