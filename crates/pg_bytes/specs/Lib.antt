pub mod Sets
pub mod Classes
pub mod ByteSets
pub mod Lines
