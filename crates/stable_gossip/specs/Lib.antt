pub mod Gossip
pub mod Layout
