pub mod Headers
pub mod Runs
pub mod Splitting
