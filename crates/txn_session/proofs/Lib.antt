pub mod Frames
pub mod Owning
pub mod Results
pub mod Events
pub mod Acting
pub mod Opening
pub mod Updating
pub mod Participants
pub mod Counting
pub mod Steps
pub mod Waiting
pub mod Repeating
pub mod Outwaiting
pub mod Ending
mod NextPart
