-- The lemmas of this crate.
pub mod Joining
pub mod TrackLists
pub mod Tracks
