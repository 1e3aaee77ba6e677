pub mod Cover
pub mod Endless
pub mod Faults
pub mod Holding
pub mod Outcome
pub mod Reading
pub mod Searches
pub mod Told
