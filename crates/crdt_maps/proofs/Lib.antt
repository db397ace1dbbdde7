pub mod FieldTrees
