-- The definitions of this crate: `Played` is what the public call says, by `Answers`, `Asked` and `Heard`.
pub mod Answers
pub mod Asked
pub mod Heard
pub mod Calls
pub mod Played
pub mod Sent
pub mod Reads
pub mod Lines
pub mod Progress
