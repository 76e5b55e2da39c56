pub mod Cases
pub mod EncodedParts
pub mod Lists
pub mod Merging
pub mod Parts
pub mod Repeated
pub mod Steps
