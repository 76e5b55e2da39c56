pub mod Prefixes
pub mod Logs
pub mod Appending
pub mod SlotValues
pub mod Below
