mod Known
mod Texts
mod Progress
mod Diverted
mod Ending
mod Going
mod Calls
mod Hearing
