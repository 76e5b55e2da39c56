-- The definitions of this crate.
pub mod Runs
pub mod Lines
pub mod Periods
pub mod Console
