pub mod DeadRows
pub mod Finding
pub mod Rows
