-- The definitions of this crate.
pub mod Compared
pub mod Joining
pub mod Tracks
