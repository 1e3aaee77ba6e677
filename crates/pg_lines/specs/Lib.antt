pub mod Queries
pub mod Gathered
pub mod Finding
