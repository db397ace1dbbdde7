pub mod KindNames
pub mod Spelled
