mod OneLine
mod Numbers
mod Texts
mod OneCommand
mod Words
mod Partitions
mod Groups
