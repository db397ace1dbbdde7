pub mod Answers
pub mod Commit
pub mod Law
