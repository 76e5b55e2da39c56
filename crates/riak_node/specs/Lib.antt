-- The definitions of this crate.
pub mod Options
pub mod Serving
pub mod Conclusions
