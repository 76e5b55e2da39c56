pub mod Commands
pub mod Answers
pub mod Reading
pub mod Mistakes
pub mod Diverted
pub mod Figures
