pub mod Entries
pub mod Ids
pub mod Order
pub mod Printed
pub mod Vector
pub mod VectorLaws
pub mod Known
