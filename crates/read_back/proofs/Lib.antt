pub mod Cutting
pub mod Numerals
pub mod QuotedTexts
pub mod ShownLines
pub mod ShownObjects
pub mod ShownPlaces
pub mod ShownValues
