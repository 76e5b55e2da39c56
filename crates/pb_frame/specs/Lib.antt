pub mod Limits
pub mod Header
pub mod Message
pub mod Stream
pub mod Taking
pub mod Run
pub mod Trying
