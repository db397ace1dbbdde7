pub mod FormLaws
pub mod Inline
pub mod Lawful
pub mod Reading
pub mod Refusals
pub mod Spelling
pub mod Steps
pub mod Tagged
