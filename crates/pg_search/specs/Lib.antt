pub mod Faults
pub mod Outcome
pub mod Searches
