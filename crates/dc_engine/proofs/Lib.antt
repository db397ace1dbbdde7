pub mod OneReply
pub mod bytes
pub mod commands
