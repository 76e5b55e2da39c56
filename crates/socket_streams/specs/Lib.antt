-- The definitions of this crate.
pub mod Accepting
pub mod Arriving
pub mod Sending
pub mod Sessions
