pub mod Numbered
pub mod Outboxes
