pub mod rules
pub mod events
pub mod lines
pub mod commands
pub mod threads
