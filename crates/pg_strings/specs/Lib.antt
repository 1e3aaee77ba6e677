pub mod Keys
pub mod Sets
pub mod Short
pub mod Whole
pub mod Outcomes
