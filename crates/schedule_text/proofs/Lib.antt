pub mod Cutting
mod Hexadecimal
mod Messages
mod Words
mod LineOperands
mod OneStep
mod PlainAsking
mod ShownIndexed
