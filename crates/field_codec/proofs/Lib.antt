pub mod Compared
pub mod Forms
pub mod Loops
pub mod Texts
