pub mod CountedBefore
pub mod Raising
