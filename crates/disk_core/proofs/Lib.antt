pub mod Empty
pub mod Overwrites
pub mod Torn
pub mod Inside
pub mod Moments
