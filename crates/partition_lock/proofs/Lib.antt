mod Telling
mod States
mod Owners
mod Joined
mod Stepping
mod Settling
pub mod Agreeing
mod Seeing
mod Meeting
mod Opening
mod Closing
mod Sharing
