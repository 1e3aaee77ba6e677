pub mod Search
pub mod Selection
pub mod Runs
pub mod BlockParts
pub mod Searched
pub mod Same
