pub mod Pairs
pub mod Bytes
pub mod Entries
pub mod Rising
pub mod Order
pub mod Encodings
pub mod Given
pub mod Sizes
