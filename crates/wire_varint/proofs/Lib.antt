pub mod Groups
pub mod Encoding
