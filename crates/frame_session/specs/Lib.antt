pub mod Frames
pub mod Pieces
pub mod Cut
