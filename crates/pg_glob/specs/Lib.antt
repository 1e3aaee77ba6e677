pub mod Globs
pub mod Brackets
pub mod Filters
pub mod GlobFiles
pub mod Views
pub mod Runs
