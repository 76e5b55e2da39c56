pub mod Counter
pub mod Counting
pub mod Holdings
