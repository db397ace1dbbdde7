mod Lines
mod Objects
mod Sums
mod Names
pub mod Rows
pub mod Answers
pub mod Coming
pub mod Calling
pub mod Telling
pub mod Asking
pub mod Ticking
pub mod Beginning
pub mod Steps
pub mod Committing
pub mod Working
pub mod Loading
pub mod Parting
