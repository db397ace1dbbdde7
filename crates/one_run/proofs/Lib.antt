pub mod Uniques
pub mod Leases
pub mod OneLine
pub mod OneRestart
pub mod NextLine
pub mod Called
pub mod OneRun
pub mod Script
