pub mod Encoding
pub mod Faults
pub mod Field
pub mod Merging
pub mod Message
pub mod Next
