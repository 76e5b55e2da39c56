pub mod Limits
pub mod Dots
pub mod Epochs
pub mod Versions
pub mod Contexts
pub mod Entries
pub mod Given
pub mod Laws
